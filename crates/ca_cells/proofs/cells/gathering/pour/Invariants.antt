use Rattle.std.proofs.Common.{◌≡◌, ◌+◌, ◌≤◌, ◌++◌, length}
use Rattle.std.specs.Vec.{vec_capacity}
use Rattle.std.specs.List.Sorted.{IsPermutation}
use Rattle.ca_cells.proofs.cells.gathering.pour.Given as goal

abbrev pub invariant-loop-held : goal.invariant-loop-held
invariant-loop-held l = record {
  poured : IsPermutation (l.fn.all.items ++ l.fn.shelf) (l.all.items ++ l.items.items);
  room : (length l.all.items + length l.items.items ≤ vec_capacity l.all) × (vec_capacity l.all ≡ vec_capacity l.fn.all);
}

abbrev pub decreases-loop-held : goal.decreases-loop-held
decreases-loop-held l = length l.items.items
