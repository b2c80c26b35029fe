use Rattle.std.proofs.Common.{◌≡◌, ◌+◌, ◌≤◌, ◌++◌, length, reverse}
use Rattle.std.specs.Vec.{vec_capacity}
use Rattle.ca_logs.specs.Touched.{pairs}
use Rattle.ca_cells.specs.clauses.Shelves.{all_touched}
use Rattle.ca_cells.proofs.cells.gathering.part.Given as goal

abbrev pub invariant-loop-held : goal.invariant-loop-held
invariant-loop-held l = record {
  parted : pairs l.numbers.items l.room.items ++ all_touched (reverse l.all.items) ≡ all_touched (reverse l.initial.all.items);
  alike : length l.numbers.items ≡ length l.room.items;
  room : (length l.numbers.items + length l.all.items ≤ vec_capacity l.numbers) × (length l.room.items + length l.all.items ≤ vec_capacity l.room);
}

abbrev pub decreases-loop-held : goal.decreases-loop-held
decreases-loop-held l = length l.all.items
