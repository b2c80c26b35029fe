-- First tasks of a round over counting objects.
use Rattle.std.proofs.Common.{◌≡◌, ℕ, ◌<◌, List, [], ◌∷◌, ◌++◌, All, sym, subst, arith}
use Rattle.std.proofs.lemmas.List.Elements.{All-append}
use Rattle.ca_program.specs.Plain.{PlainProgram}
use Rattle.ca_model.specs.declared.value.Object.{Object}
use Rattle.ca_meaning.specs.Expressions.{invocation}
use Rattle.ca_meaning.specs.WellTyped.{WellTyped}
use Rattle.ca_logs.specs.declared.log.Task.{Task}
use Rattle.ca_cells.specs.Rounds.{MayRun, frozen_of}
use Rattle.ca_cells.specs.declared.rule.Given.{Given}
use Rattle.ca_counters.specs.Counters.{IsSetFor, counters, operation, twice}
use Rattle.ca_counters.proofs.Counting.{call_typed}
use Rattle.ca_cells.proofs.Chains.{one_of}

pub may_call : (k : ℕ) (key : Given) (n r : ℕ) (t : Task) → IsSetFor (operation k) key n → r < n → k < 3 → t ≡ record { op = record { receiver = r; op = operation k; args = [] }; after = 0 } → MayRun key t
may_call k key n r t s l b e = subst (MayRun key) (sym e) (record {
  typed = subst (λ (p : PlainProgram). WellTyped p (frozen_of key) (invocation r (operation k) [])) (sym s.program) (subst (λ (h : List Object). WellTyped counters h (invocation r (operation k) [])) (sym s.frozen) (call_typed n r k l b));
  inside = s.inside;
})

pub may_count : (key : Given) (n r : ℕ) (t : Task) → IsSetFor twice key n → r < n → t ≡ record { op = record { receiver = r; op = twice; args = [] }; after = 0 } → MayRun key t
may_count key n r t s l e = may_call 1 key n r t s l (omega arith) e

pub one_at_end : {A : Type 0} (P : A → Type 0) (olds news : List A) (x : A) → news ≡ olds ++ x ∷ [] → All P olds → P x → All P news
one_at_end P olds news x e h p = subst (All P) (sym e) (All-append P olds (x ∷ []) h (one_of P x p))
