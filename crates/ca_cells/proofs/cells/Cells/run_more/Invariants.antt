use Rattle.std.proofs.Common.{◌≤◌, ◌-◌, take, length}
use Rattle.ca_cells.specs.Seats.{cells_key}
use Rattle.ca_cells.specs.clauses.Courses.{Behind, Undoable}
use Rattle.ca_cells.proofs.cells.Cells.run_more.Given as goal

abbrev pub invariant-loop-done : goal.invariant-loop-done
invariant-loop-done l = record {
  count : l.done ≤ length l.tasks;
  behind : Behind (cells_key l.self) l.left l.number l.found.value (take l.done l.tasks) l.made.items l.log;
  undo : Undoable l.desk l.olds l.log l.found.value;
}

abbrev pub decreases-loop-done : goal.decreases-loop-done
decreases-loop-done l = length l.tasks - l.done
