-- A call with all that it leads to, run on a replica.
use Rattle.std.specs.Prelude.{ℕ, ◌≡◌, List, [], ◌∷◌, Contains, Option, Some, None, slice_get}
use Rattle.ca_program.specs.declared.program.ClassId.{ClassId}
use Rattle.ca_program.specs.declared.program.FieldId.{FieldId}
use Rattle.ca_program.specs.Plain.{PlainProgram}
use Rattle.ca_model.specs.declared.value.Object.{Object}
use Rattle.ca_meaning.specs.Expressions.{Invocation}
use Rattle.ca_parallel.specs.Calls.{RunsTo}
use Rattle.ca_replica.specs.declared.marks.FieldMark.{FieldMark}
use Rattle.ca_replica.specs.declared.marks.FieldMark.TheVariants.{Free, Of, Several}

-- What came of a call within a budget, from one heap of sums to another. Done, in so many steps: its serial run is. Else that isn't,
-- and the sums are as before.
abbrev pub Completed : PlainProgram → List Object → Invocation → ℕ → List Object → Option ℕ → Type 0
Completed p old i left new (Some steps) = RunsTo p old (i ∷ []) left new steps
Completed p old i left new None = ((after : List Object) (steps : ℕ) → ¬ RunsTo p old (i ∷ []) left after steps) × (new ≡ old)

-- whether the mark that is there is one for fields of this class
abbrev pub IsMarked : ClassId → Option FieldMark → Type 0
IsMarked c None = ⊥
IsMarked c (Some Free) = ⊥
IsMarked c (Some (Of d)) = c ≡ d
IsMarked c (Some Several) = Unit {0}

-- At the number of each of the fields stands their class, where they are of one, or that they are of several. Where a class stands, one
-- of the fields is of it.
pub record Marks (fields : List FieldId) (marks : List FieldMark) : Type 0 where
  pub all : (f : FieldId) → Contains fields f → IsMarked f.class (slice_get marks f.field)
  pub only : (g : ℕ) (c : ClassId) → slice_get marks g ≡ Some (Of c) → Contains fields (record { class = c; field = g })
