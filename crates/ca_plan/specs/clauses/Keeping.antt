-- What is kept while a plan is made: extents with their verdicts, verdicts for all extents in which both operations can be
-- executed, and which operations of an extent are separable, with their first loops that are neither call loops nor sweeps.
use Rattle.std.specs.Prelude.{◌≡◌, ℕ, List, Option, Some, IfSome, All, slice_get}
use Rattle.ca_program.specs.declared.program.FieldId.{FieldId}
use Rattle.ca_program.specs.declared.program.OpId.{OpId}
use Rattle.ca_program.specs.Plain.{PlainProgram}
use Rattle.ca_parallel.specs.Extents.{Extent}
use Rattle.ca_parallel.specs.Separable.{Separable}
use Rattle.ca_section.specs.Offences.{Knows}
use Rattle.ca_section.specs.Readers.{marked}
use Rattle.ca_symbolic.specs.Runs.{first_other_loop}
use Rattle.ca_verdicts.specs.Verdicts.{CanExecute}
use Rattle.ca_plan.specs.declared.kept.Kept.{Kept}
use Rattle.ca_plan.specs.declared.offences.Offences.{Offences}
use Rattle.ca_plan.specs.Plans.{PairVerdict, op_at, pair_of}
use Rattle.ca_plan.specs.Told.{AllWhollyTold, PairTold, shared}

-- a verdict on these two
abbrev pub IsOn : OpId → OpId → PairVerdict → Type 0
IsOn a b v = pair_of v ≡ record { a = a; b = b }

-- a verdict that is told in each extent in which both can be executed
abbrev pub Fits : PlainProgram → PairVerdict → Type 0
Fits p v = (x : Extent) → CanExecute p x.written v.a v.b → PairTold p x v

abbrev pub AllFit : PlainProgram → List (Option PairVerdict) → Type 0
AllFit p slots = All (λ slot. IfSome slot (Fits p)) slots

-- the extents are wholly told, and the verdicts fit
pub record AreKept (p : PlainProgram) (k : Kept) : Type 0 where
  pub extents : AllWhollyTold p (shared k.all.items)
  pub verdicts : AllFit p k.known.slots.items

-- each operation of which a line is known, or that there is none, is separable where these fields are written, and has that
-- line
abbrev pub AreSeen : PlainProgram → List FieldId → List (Option (Option ℕ)) → Type 0
AreSeen p written seen = (n : ℕ) (line : Option ℕ) → slice_get seen n ≡ Some (Some line) → Separable p written (op_at n) × (first_other_loop p written (op_at n) ≡ line)

-- what is known of the operations of an extent that writes these fields
pub record OffencesOf (p : PlainProgram) (written : List FieldId) (o : Offences) : Type 0 where
  pub knows : Knows p written (marked o.readers)
  pub seen : AreSeen p written o.seen.items
