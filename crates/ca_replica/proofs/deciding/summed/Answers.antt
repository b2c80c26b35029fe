use Rattle.std.proofs.Common.{ap, ◌∙◌}
use Rattle.ca_program.specs.View.{program_view}
use Rattle.ca_replica.specs.Unsummed.{some_does_else}
use Rattle.ca_replica.proofs.Clear.{decided}
use Rattle.ca_replica.proofs.deciding.summed.Goals as goal

pub returns : goal.returns
returns c =
    let p = program_view c.args.program.now in
    decided p c.args.extent.now.written c.args.extent.now.ops c.some_does_else.result
    (c.some_does_else.ensures ∙ (ap (λ w. some_does_else p w c.ops.result.now) c.written.ensures ∙ ap (some_does_else p c.args.extent.now.written) c.ops.ensures))
