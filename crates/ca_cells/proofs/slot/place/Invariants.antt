use Rattle.std.proofs.Common.{◌≡◌, ◌≤◌, drop, length, None}
use Rattle.ca_cells.specs.clauses.Shelves.{found}
use Rattle.ca_cells.proofs.slot.place.Given as goal

abbrev pub invariant-places : goal.invariant-places
invariant-places l = (l.at ≤ length l.items.items) × (found (drop l.at l.items.items) l.number ≡ None)

abbrev pub decreases-places : goal.decreases-places
decreases-places l = l.at
