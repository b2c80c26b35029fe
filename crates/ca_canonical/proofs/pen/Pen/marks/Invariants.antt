use Rattle.std.proofs.Common.{drop}
use Rattle.ca_canonical.specs.Marks.{marks}
use Rattle.ca_canonical.proofs.Writing.{Leaves}
use Rattle.ca_canonical.proofs.pen.Pen.marks.Given as goal

abbrev pub invariant-marks : goal.invariant-marks
invariant-marks l = Leaves l.initial.self (marks l.all) l.self (marks (drop l.one-index l.all))
