-- Worked examples of accounts: an engine that counts the operations that it was handed.
use Rattle.std.proofs.Common.{◌≡◌, ℕ, ◌+◌, List, [], ◌∷◌, ◌++◌, length, refl}
use Rattle.ca_program.specs.Plain.{PlainProgram}
use Rattle.ca_model.specs.declared.value.Object.{Object}
use Rattle.ca_meaning.specs.Expressions.{Invocation}
use Rattle.ca_meaning.specs.Serial.{Note}
use Rattle.ca_parallel.specs.Lists.{note}
use Rattle.ca_parallel.specs.Accounts.{Reached, at_first, by_one, ReachedPart}

abbrev Counts : ℕ → PlainProgram → List Object → List Invocation → ℕ → ℕ → Type 0
Counts before p h is left after = after ≡ before + length is

module _ (p : PlainProgram) (h : List Object) (i : Invocation) where
  abbrev one : Note
  one = note h (i ∷ []) 9

  abbrev two : Note
  two = note h (i ∷ i ∷ []) 5

  first_counted : Reached Counts p 4 ([] ++ one ∷ []) 5
  first_counted = by_one one at_first refl

  both_counted : Reached Counts p 4 ((one ∷ []) ++ two ∷ []) 7
  both_counted = by_one two first_counted refl

  -- a run that gave up behind the first of them
  one_of_two : ReachedPart Counts p 4 (one ∷ two ∷ []) 5
  one_of_two = record { done = one ∷ []; rest = two ∷ []; whole = refl; reached = first_counted }
