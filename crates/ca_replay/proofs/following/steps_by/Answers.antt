use Rattle.std.proofs.Common.{subst}
use Rattle.ca_program.specs.View.{program_view}
use Rattle.ca_parallel.specs.Calls.{invocation_of, invocations_of}
use Rattle.ca_beside.specs.Beside.{present}
use Rattle.ca_replay.specs.Steps.{StepIs}
use Rattle.ca_replay.proofs.Standing.{not_pending, trapped_now, spent_now}
use Rattle.ca_replay.proofs.following.steps_by.Goals as goal

pub returns-in-Done-clause-ran : goal.returns-in-Done-clause-ran
returns-in-Done-clause-ran c =
    let h = c.args.heap.now in
    let old = c.args.machine.now in
    let now = c.step.new.self in
    subst (λ a. StepIs (program_view c.args.program.now) h (present h old.beside) (invocations_of old.waiting.items) c.args.left (invocation_of c.args.op.now) (present h now.beside) (invocations_of now.waiting.items) a) c.in-Done.is c.in_ok-steps.ensures.answer

pub returns-in-NotPending-clause-ran : goal.returns-in-NotPending-clause-ran
returns-in-NotPending-clause-ran c =
    let p = program_view c.args.program.now in
    let h = c.args.heap.now in
    let old = c.args.machine.now in
    let now = c.step.new.self in
    let is = subst (λ a. StepIs p h (present h old.beside) (invocations_of old.waiting.items) c.args.left (invocation_of c.args.op.now) (present h now.beside) (invocations_of now.waiting.items) a) c.in-NotPending.is c.in_ok-steps.ensures.answer in
    not_pending p h (present h old.beside) (invocations_of old.waiting.items) c.args.left (invocation_of c.args.op.now) is.0

pub returns-in-Trapped-clause-ran : goal.returns-in-Trapped-clause-ran
returns-in-Trapped-clause-ran c =
    let p = program_view c.args.program.now in
    let h = c.args.heap.now in
    let old = c.args.machine.now in
    let now = c.step.new.self in
    let is = subst (λ a. StepIs p h (present h old.beside) (invocations_of old.waiting.items) c.args.left (invocation_of c.args.op.now) (present h now.beside) (invocations_of now.waiting.items) a) c.in-Trapped.is c.in_ok-steps.ensures.answer in
    trapped_now p h (present h old.beside) (invocations_of old.waiting.items) c.args.left (invocation_of c.args.op.now) c.in-Trapped.field-0 is.0

pub returns-in-Spent-clause-ran : goal.returns-in-Spent-clause-ran
returns-in-Spent-clause-ran c =
    let p = program_view c.args.program.now in
    let h = c.args.heap.now in
    let old = c.args.machine.now in
    let now = c.step.new.self in
    let is = subst (λ a. StepIs p h (present h old.beside) (invocations_of old.waiting.items) c.args.left (invocation_of c.args.op.now) (present h now.beside) (invocations_of now.waiting.items) a) c.in-Spent.is c.in_ok-steps.ensures.answer in
    spent_now p h (present h old.beside) (invocations_of old.waiting.items) c.args.left (invocation_of c.args.op.now) is.0
