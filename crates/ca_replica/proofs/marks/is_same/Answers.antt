use Rattle.std.proofs.Common.{true≢false, sym}
use Rattle.ca_replica.proofs.marks.is_same.Goals as goal

pub returns-then-one-class : goal.returns-then-one-class
returns-then-one-class c = λ e. c.if-one-class.true

pub returns : goal.returns
returns c = λ e. absurd (true≢false (sym e))
