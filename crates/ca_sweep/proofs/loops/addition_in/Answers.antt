use Rattle.ca_sweep.proofs.Blocks.{not_one}
use Rattle.ca_sweep.proofs.loops.addition_in.Goals as goal

pub returns-then-stmts-ne1-clause-none : goal.returns-then-stmts-ne1-clause-none
returns-then-stmts-ne1-clause-none c = not_one c.args.stmts.now c.args.i (λ e. c.if-stmts-ne1.true e)
