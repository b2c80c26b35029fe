use Rattle.std.proofs.Common.{arith}
use Rattle.ca_canonical.specs.Marks.{marks}
use Rattle.ca_canonical.proofs.Writing.{all_left, none_left}
use Rattle.ca_canonical.proofs.Lists.{mark_written, no_mark_left}
use Rattle.ca_canonical.proofs.pen.Pen.marks.Goals as goal

pub marks-init : goal.marks-init
marks-init c = all_left c.args.self.now (marks c.args.all.now)

pub marks-preserved : goal.marks-preserved
marks-preserved c = mark_written c.args.all.now c.marks.one-index _ (omega arith) c.marks.invariant c.mark.ensures

pub returns : goal.returns
returns c = none_left c.marks.invariant (no_mark_left c.args.all.now c.marks.one-index (omega arith))
