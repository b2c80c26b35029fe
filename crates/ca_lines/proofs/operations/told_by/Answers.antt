use Rattle.ca_lines.proofs.Calls.{has_name}
use Rattle.ca_lines.proofs.operations.told_by.Goals as goal

pub returns-then-is_named : goal.returns-then-is_named
returns-then-is_named c = has_name c.args.program.now c.args.name.now _ c.op.result.now c.op.ensures (c.is_named.ensures.0 c.if-is_named.true)
