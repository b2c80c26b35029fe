use Rattle.std.proofs.Common.{◌≡◌, arith, length}
use Rattle.ca_lines.proofs.Calls.{has_name, one_more_not, in_none}
use Rattle.ca_lines.proofs.operations.searched.Goals as goal

pub returns-then-is_named : goal.returns-then-is_named
returns-then-is_named c = has_name c.args.program.now c.args.name.now c.operations.n c.op.result.now c.op.ensures (c.is_named.ensures.0 c.if-is_named.true)

pub operations-preserved : goal.operations-preserved
operations-preserved c = one_more_not c.args.program.now c.args.name.now c.operations.n c.op.result.now c.op.ensures c.operations.invariant (λ e. let t = c.is_named.ensures.1 e in let f = c.if-is_named.false in absurd (cc))

pub returns : goal.returns
returns c = in_none c.args.program.now c.args.name.now c.operations.n c.operations.invariant (omega (arith, c.operations-test.false))
