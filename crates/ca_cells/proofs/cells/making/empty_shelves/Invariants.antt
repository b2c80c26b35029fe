use Rattle.std.proofs.Common.{◌≡◌, ◌≤◌, ◌-◌, length}
use Rattle.ca_cells.specs.clauses.Shelves.{AreVacant}
use Rattle.ca_cells.proofs.cells.making.empty_shelves.Given as goal

abbrev pub invariant-loop-class : goal.invariant-loop-class
invariant-loop-class l = (length l.shelves.items ≡ l.class) × (l.class ≤ l.classes) × AreVacant l.shelves.items

abbrev pub decreases-loop-class : goal.decreases-loop-class
decreases-loop-class l = l.classes - l.class
