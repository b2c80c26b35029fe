use Rattle.ca_program.specs.View.{program_view}
use Rattle.ca_parallel.specs.Calls.{invocation_of, invocations_of}
use Rattle.ca_beside.specs.Beside.{present}
use Rattle.ca_replay.proofs.Standing.{within, stays_standing}
use Rattle.ca_replay.proofs.machine.Machine.step.Goals as goal

pub run_waiting-requires : goal.run_waiting-requires
run_waiting-requires c = record { within = within (program_view c.args.program.now) c.requires.program c.args.heap.now (present c.args.heap.now c.args.self.now.beside) c.args.self.now.waiting.items c.requires.stands }

pub returns-clause-stands : goal.returns-clause-stands
returns-clause-stands c =
    let h = c.args.heap.now in
    let old = c.args.self.now in
    stays_standing (program_view c.args.program.now) h (present h old.beside) (invocations_of old.waiting.items) c.args.left (invocation_of c.args.op.now) (present h c.run_waiting.new.beside) (invocations_of c.run_waiting.new.waiting.items)
    c.run_waiting.result c.run_waiting.ensures.answer c.run_waiting.ensures.kept c.requires.stands
