use Rattle.std.proofs.Common.{◌≡◌, ◌+ℤ◌, drop}
use Rattle.std.specs.Int.{int_wrap, w64}
use Rattle.ca_app.specs.Summary.{sum_of}
use Rattle.ca_app.proofs.summary.add_values.Given as goal

-- the total with what is still to come is that with all
abbrev pub invariant-loop-value : goal.invariant-loop-value
invariant-loop-value l = int_wrap w64 (l.total +ℤ sum_of (drop l.value-index l.values)) ≡ int_wrap w64 (l.so_far +ℤ sum_of l.values)
