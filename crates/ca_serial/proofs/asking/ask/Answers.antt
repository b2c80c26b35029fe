use Rattle.std.proofs.Common.{◌≡◌, subst}
use Rattle.std.proofs.lemmas.Result.{err_from_is_err_and}
use Rattle.ca_program.specs.View.{program_view}
use Rattle.ca_parallel.specs.Calls.{RunsTo, invocations_of}
use Rattle.ca_parallel.specs.Parallel.{ParallelFrom}
use Rattle.ca_serial.specs.Extents.{Answers, IsNotDone}
use Rattle.ca_serial.specs.declared.extents.ExtentAnswer.{ExtentAnswer}
use Rattle.ca_serial.proofs.Asked.{ops_are, given_done, given_alone}
use Rattle.ca_serial.proofs.Told.{none_told, none_done, told_err}
use Rattle.ca_serial.proofs.asking.ask.Goals as goal

pub run-requires-clause-ready : goal.run-requires-clause-ready
run-requires-clause-ready g c = c.requires.ready

pub run-requires-clause-program : goal.run-requires-clause-program
run-requires-clause-program g c = c.requires.program

pub run-requires-clause-heap : goal.run-requires-clause-heap
run-requires-clause-heap g c = c.requires.good.heap

pub run-requires-clause-typed : goal.run-requires-clause-typed
run-requires-clause-typed g c = c.requires.good.typed

pub run-requires-clause-parallel : goal.run-requires-clause-parallel
run-requires-clause-parallel g c = subst (ParallelFrom (program_view c.args.program.now)) (ops_are c.args.ops.now) c.requires.good.parallel

pub returns-in-Done-clause-given : goal.returns-in-Done-clause-given
returns-in-Done-clause-given g c = λ w ls.
    let p = program_view c.args.program.now in
    let is = invocations_of c.args.ops.now in
    let run : RunsTo p c.args.heap.now is c.args.left c.run.new.heap c.in-Done.steps =
    subst (λ (a : ExtentAnswer). Answers p c.args.heap.now is c.args.left c.run.new.heap a) c.in-Done.is c.in_ok-steps.ensures.answer in
    given_done p is c.args.heap.now c.args.left w c.requires.good.parallel c.run.new.heap c.in-Done.steps c.saturating_sub.result run c.saturating_sub.ensures ls

pub returns-in-Declined-clause-given : goal.returns-in-Declined-clause-given
returns-in-Declined-clause-given g c = λ w.
    let p = program_view c.args.program.now in
    let is = invocations_of c.args.ops.now in
    let heap : c.run.new.heap ≡ c.args.heap.now = subst (λ (a : ExtentAnswer). Answers p c.args.heap.now is c.args.left c.run.new.heap a) c.in-Declined.is c.in_ok-steps.ensures.answer in
    let not : IsNotDone p c.args.heap.now is c.args.left = c.in_ok-steps.ensures.declined c.requires.serves c.in-Declined.is in
    (heap, λ ls. given_alone p is c.args.heap.now c.args.left w not ls)

pub returns-in_err-steps : goal.returns-in_err-steps
returns-in_err-steps g c =
    let e = err_from_is_err_and c.from_residual.result c.from_residual.ensures.1 in
    record {
      given = none_told _ c.from_residual.result e.0 e.1;
      account = none_done _ c.from_residual.result e.0 e.1;
      account_kept = told_err _ c.from_residual.result c.in_err-steps.ensures.account_kept;
    }

pub returns-in-Done-clause-account : goal.returns-in-Done-clause-account
returns-in-Done-clause-account g c = c.in_ok-steps.ensures.accounts

pub returns-in-Declined-clause-account : goal.returns-in-Declined-clause-account
returns-in-Declined-clause-account g c = c.in_ok-steps.ensures.accounts
