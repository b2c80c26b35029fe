-- Laws of symbolic execution.
use Rattle.std.specs.Prelude.{◌≡◌, ◌↔◌, ℕ, true, List, [], None}
use Rattle.ca_program.specs.declared.program.FieldId.{FieldId}
use Rattle.ca_program.specs.Plain.{Expression, Statement, Statements}
use Rattle.ca_parallel.specs.Loops.{IsCallLoop}
use Rattle.ca_symbolic.specs.Same.{same_expression}
use Rattle.ca_symbolic.specs.OtherLoops.{is_call_loop, other_loop_in}

-- Expressions are written alike exactly where they are equal.
abbrev pub AlikeIsEqual : Type 0
AlikeIsEqual = (d e : Expression) → (same_expression d e ≡ true) ↔ (d ≡ e)

-- The test tells the call loops.
abbrev pub CallLoopsAreTold : Type 0
CallLoopsAreTold = (x : Statement) → (is_call_loop x ≡ true) ↔ IsCallLoop x

-- A body without other loops has none where nothing is written, so that it can be executed with no extent known.
abbrev pub LoopsAreFewer : Type 0
LoopsAreFewer = (params : ℕ) (written : List FieldId) (xs : Statements) → other_loop_in params written xs ≡ None → other_loop_in params [] xs ≡ None
