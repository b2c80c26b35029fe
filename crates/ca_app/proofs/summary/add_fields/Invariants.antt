use Rattle.std.proofs.Common.{◌≡◌, ◌+ℤ◌, drop}
use Rattle.std.specs.Int.{int_wrap, w64}
use Rattle.ca_app.specs.Summary.{sum_of, fields_of}
use Rattle.ca_app.proofs.summary.add_fields.Given as goal

-- the total with what is still to come is that with all
abbrev pub invariant-loop-slot : goal.invariant-loop-slot
invariant-loop-slot l = int_wrap w64 (l.total +ℤ sum_of (fields_of (drop l.slot-index l.slots))) ≡ int_wrap w64 (l.so_far +ℤ sum_of (fields_of l.slots))
