use Rattle.std.proofs.Common.{◌≡◌, ◌-◌, ℕ, length, slice_get, Some}
use Rattle.ca_program.specs.declared.program.ClassId.{ClassId}
use Rattle.ca_replica.specs.declared.marks.FieldMark.TheVariants.{Of}
use Rattle.ca_replica.specs.Calls.{IsMarked}
use Rattle.ca_replica.proofs.marks.widen.Given as goal

-- what was marked is, and no more
abbrev pub invariant-places : goal.invariant-places
invariant-places l =
    ((n : ℕ) (c : ClassId) → IsMarked c (slice_get l.fn.marks.items n) → IsMarked c (slice_get l.marks.items n))
    × ((n : ℕ) (c : ClassId) → slice_get l.marks.items n ≡ Some (Of c) → slice_get l.fn.marks.items n ≡ Some (Of c))

abbrev pub decreases-places : goal.decreases-places
decreases-places l = l.room - length l.marks.items
