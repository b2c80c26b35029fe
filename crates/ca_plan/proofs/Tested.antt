-- Items that were tested one after another, and what tests say.
use Rattle.std.proofs.Common.{◌≡◌, ◌↔◌, ◌<◌, ◌+◌, ℕ, Bool, true, false, List, [], ◌∷◌, ◌++◌, length, take, get_or, refl, sym, ap, ◌∙◌, subst}
use Rattle.std.specs.Prelude.{Contains, IsTrue}
use Rattle.std.proofs.lemmas.List.{take_more}
use Rattle.std.proofs.lemmas.List.Elements.{Contains-get_or, Contains-append_cases}
use Rattle.ca_lists.proofs.Members.{has_only}
use Rattle.ca_verdicts.specs.declared.verdicts.Verdict.TheVariants.{Commutes}
use Rattle.ca_section.proofs.Members.{pick}
use Rattle.ca_plan.specs.Plans.{PairVerdict}
use Rattle.ca_plan.specs.Told.{Noted, taken, left}

pub one_there : {A : Type 0} (xs : List A) (i : ℕ) (x : A) → i < length xs → x ≡ get_or xs i x → Contains xs x
one_there xs i x h is = subst (λ z. Contains xs z) (sym is) (Contains-get_or xs i x h)

pub one_told : (xs : List PairVerdict) (i : ℕ) (x : PairVerdict) → i < length xs → x ≡ get_or xs i x → ((v : PairVerdict) → Contains (take i xs) v → v.verdict ≡ Commutes) → x.verdict ≡ Commutes
    → (v : PairVerdict) → Contains (take (i + 1) xs) v → v.verdict ≡ Commutes
one_told xs i x h is all here v c =
    let more : take (i + 1) xs ≡ take i xs ++ x ∷ [] = take_more xs i x h ∙ ap (λ z. take i xs ++ z ∷ []) (sym is) in
    pick (Contains-append_cases (take i xs) (x ∷ []) v (subst (λ z. Contains z v) more c)) (λ z. all v z) (λ z. subst (λ (w : PairVerdict). w.verdict ≡ Commutes) (has_only x v z) here)

-- a mark is given, or not
pub given : {A P : Type 0} (b : Bool) (old new : List A) (x : A) → IsTrue b ↔ P → b ≡ true → new ≡ old ++ x ∷ [] → Noted P old new x
given b old new x d t is = taken (d.0 t) is

pub not_given : {A P : Type 0} (b : Bool) (old : List A) (x : A) → IsTrue b ↔ P → b ≡ false → Noted P old old x
not_given b old x d t = left (λ p. let e : b ≡ true = d.1 p in cc) refl
