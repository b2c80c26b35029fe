use Rattle.std.proofs.Common.{◌∙◌, subst}
use Rattle.ca_program.specs.View.{program_view}
use Rattle.ca_workers.specs.clauses.Ahead.{RanFront}
use Rattle.ca_workers.proofs.parallel.Parallel.begin_ahead.Goals as goal

pub run_front-requires-clause-program : goal.run_front-requires-clause-program
run_front-requires-clause-program g c = c.requires.program

pub run_front-requires-clause-heap : goal.run_front-requires-clause-heap
run_front-requires-clause-heap g c = c.requires.heap

pub run_front-requires-clause-typed : goal.run_front-requires-clause-typed
run_front-requires-clause-typed g c = c.requires.typed

pub returns-in-Ok-Some : goal.returns-in-Ok-Some
returns-in-Ok-Some g c = record {
  ran = subst (λ o. RanFront (program_view c.args.program.now) c.args.heap.now c.args.calls.now c.args.left c.run_front.new.heap o) c.in-Ok-Some.field-0-is c.in-Ok-Some.ensures.ran;
  before = c.run_front.ensures.before;
  kept = tt;
}

pub returns-in-Ok-None : goal.returns-in-Ok-None
returns-in-Ok-None g c = record {
  ran = subst (λ o. RanFront (program_view c.args.program.now) c.args.heap.now c.args.calls.now c.args.left c.run_front.new.heap o) c.in-Ok-None.field-0-is c.in-Ok-None.ensures.ran;
  before = c.undo.ensures ∙ c.run_front.ensures.before;
  kept = tt;
}

pub returns-in-Err : goal.returns-in-Err
returns-in-Err g c = record { ran = tt; before = tt; kept = c.undo-in-Err.ensures ∙ c.run_front.ensures.before }
