use Rattle.std.proofs.Common.{◌∙◌, arith}
use Rattle.ca_symbolic.proofs.Blocks.{some_calls}
use Rattle.ca_symbolic.proofs.loops.some_calls.Goals as goal

pub returns : goal.returns
returns c = λ line. c.are_calls.ensures ∙ some_calls line c.args.stmts.now (omega (arith, c.if-stmts-eq0.false))
