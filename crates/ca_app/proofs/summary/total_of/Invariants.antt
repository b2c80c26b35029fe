use Rattle.std.proofs.Common.{◌≡◌, ◌+ℤ◌, drop}
use Rattle.std.specs.Int.{int_wrap, w64}
use Rattle.ca_app.specs.Summary.{sum_of, values_of, total_of}
use Rattle.ca_app.proofs.summary.total_of.Given as goal

-- the total with what is still to come is that of the heap
abbrev pub invariant-loop-id : goal.invariant-loop-id
invariant-loop-id l = int_wrap w64 (l.total +ℤ sum_of (values_of (drop l.id l.heap))) ≡ total_of l.heap
