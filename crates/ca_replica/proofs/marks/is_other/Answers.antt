use Rattle.std.proofs.Common.{sym, true≢false}
use Rattle.ca_replica.proofs.marks.is_other.Goals as goal

pub returns-then-one-class : goal.returns-then-one-class
returns-then-one-class c = λ e. absurd (true≢false (sym e))

pub returns : goal.returns
returns c = λ e same. c.if-one-class.false (sym same)
