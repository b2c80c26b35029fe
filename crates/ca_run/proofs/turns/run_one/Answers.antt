use Rattle.std.proofs.Common.{[], ◌∷◌}
use Rattle.ca_program.specs.View.{program_view}
use Rattle.ca_parallel.specs.Calls.{invocation_of, invocations_of}
use Rattle.ca_beside.specs.Beside.{present}
use Rattle.ca_run.proofs.Turning.{taken, given_beside}
use Rattle.ca_run.proofs.turns.run_one.Goals as goal

pub returns : goal.returns
returns g c =
    let frozen = c.args.heap.now in
    let others = c.pop.new.self.items in
    let op = invocation_of c.in-Some.op in
    given_beside (program_view c.args.program.now) frozen (present frozen c.args.beside.now) (op ∷ invocations_of others) c.args.left op (present frozen c.run_given.new.beside) (invocations_of c.run_given.new.waiting.items) c.in_ok-ran.ran c.turn_of.result c.turn_of.ensures
    [] (invocations_of c.args.waiting.now.items) (taken c.args.waiting.now.items others c.in-Some.op c.in-Some.ensures.items) c.in_ok-ran.ensures
