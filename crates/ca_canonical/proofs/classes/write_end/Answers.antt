use Rattle.ca_canonical.proofs.Writing.{nothing, then}
use Rattle.ca_canonical.proofs.classes.write_end.Goals as goal

pub returns-then-wanted : goal.returns-then-wanted
returns-then-wanted c = rw c.if-wanted.true (then c.key.ensures (then c.number.ensures c.sign.ensures))

pub returns-else-wanted : goal.returns-else-wanted
returns-else-wanted c = rw c.if-wanted.false (nothing c.args.pen.now)
