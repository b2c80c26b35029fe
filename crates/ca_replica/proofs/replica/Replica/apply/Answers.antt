use Rattle.std.proofs.lemmas.Option.{slice_get_within}
use Rattle.ca_program.specs.View.{program_view}
use Rattle.ca_parallel.specs.Calls.{invocation_of}
use Rattle.ca_sum_laws.proofs.Running.{class_there}
use Rattle.ca_replica.proofs.Applying.{if_applied}
use Rattle.ca_replica.proofs.replica.Replica.apply.Goals as goal

pub run_on_copy-requires : goal.run_on_copy-requires
run_on_copy-requires c =
    let q = class_there (program_view c.args.program.now) c.args.frozen.now (invocation_of c.args.op.now) c.requires.typed in
    slice_get_within c.args.frozen.now c.args.op.now.receiver q.0 q.1

pub returns-clause-answer : goal.returns-clause-answer
returns-clause-answer c =
    if_applied c.run_on_copy.result (program_view c.args.program.now) c.args.extent.now c.args.frozen.now c.requires.round _ c.requires.sums c.args.op.now c.requires.inside c.requires.typed c.args.left _ _ _ c.run_on_copy.ensures.answer
