use Rattle.ca_undo.proofs.Marking.{marks_added}
use Rattle.ca_undo.proofs.olds.marks_with.Goals as goal

pub returns-then-old-eq0 : goal.returns-then-old-eq0
returns-then-old-eq0 c = λ olds marks. marks_added c.args.marks c.args.old olds c.if-old-lt64.true c.if-old-eq0.true marks
