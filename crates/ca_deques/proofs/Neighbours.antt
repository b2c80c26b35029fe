-- A task that is moved from the end of a share to the end of a run.
use Rattle.std.proofs.Common.{◌≡◌, ℕ, zero, suc, ◌+◌, List, [], ◌∷◌, ◌++◌, All, length, sym, refl, ap, ◌∙◌, subst, arith}
use Rattle.std.proofs.lemmas.List.{length_push}
use Rattle.std.proofs.lemmas.List.Elements.{All-append}
use Rattle.ca_meaning.specs.Multisets.{weight}
use Rattle.ca_logs.specs.declared.log.Task.{Task}
use Rattle.ca_logs.specs.Entries.{HasReceiver}
use Rattle.ca_deques.specs.Settings.{Setting, Fits, AllFit}
use Rattle.ca_deques.proofs.Grown.{shrunk_fit, last_fit, grown_fit, grown_weight}

one_has : (n : ℕ) (t : Task) → HasReceiver n t → All (HasReceiver n) (t ∷ [])
one_has n t h zero d l = h
one_has n t h (suc k) d l = absurd (omega (arith, l))

-- a run begins with its task
pub first_has : (run : List Task) (t : Task) → run ≡ t ∷ [] → All (HasReceiver t.op.receiver) run
first_has run t e = subst (All (HasReceiver t.op.receiver)) (sym e) (one_has t.op.receiver t refl)

module _ (share left run more : List Task) (t : Task) (off : share ≡ left ++ t ∷ []) (on : more ≡ run ++ t ∷ []) where
  pub left_fits : (s : Setting) → AllFit s share → AllFit s left
  left_fits s h = shrunk_fit s share left t off h

  pub more_fit : (s : Setting) → AllFit s share → AllFit s run → AllFit s more
  more_fit s h k = grown_fit s more run t on k (last_fit s share left t off h)

  pub more_have : (n : ℕ) → t.op.receiver ≡ n → All (HasReceiver n) run → All (HasReceiver n) more
  more_have n e h = subst (All (HasReceiver n)) (sym on) (All-append (HasReceiver n) run (t ∷ []) h (one_has n t e))

  pub one_longer : length more ≡ length run + 1
  one_longer = let a = ap length on in let b = length_push run t in omega (arith, a, b)

  pub same_weight : (h : Task → ℕ) → weight h left + weight h more ≡ weight h share + weight h run
  same_weight h = omega (arith, grown_weight share left t off h, grown_weight more run t on h)
