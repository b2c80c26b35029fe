use Rattle.std.proofs.Common.{◌∷◌, subst, arith}
use Rattle.ca_program.specs.View.{program_view}
use Rattle.ca_parallel.specs.Calls.{invocation_of, invocations_of}
use Rattle.ca_beside.specs.Beside.{present}
use Rattle.ca_run.specs.Turns.{GivenTurn}
use Rattle.ca_run.proofs.Going.{ran_within, ran_some}
use Rattle.ca_run.proofs.Lines.{at_start, one_on, stuck}
use Rattle.ca_run.proofs.tracing.run_lines.Goals as goal

pub turns-init : goal.turns-init
turns-init g c = at_start (program_view c.args.program.now) c.args.heap.now (present c.args.heap.now c.args.beside.now) (invocations_of c.args.waiting.now.items) c.args.left c.args.lines.now.items

pub turns-smaller : goal.turns-smaller
turns-smaller g c =
    let p = program_view c.args.program.now in
    let frozen = c.args.heap.now in
    let now = present frozen c.turns.beside in
    let is = invocation_of c.in-Some.op ∷ invocations_of c.pop.new.self.items in
    let after = present frozen c.run_given.new.beside in
    let more = invocations_of c.run_given.new.waiting.items in
    let ran = subst (λ r. GivenTurn p frozen now is c.turns.still (invocation_of c.in-Some.op) after more r) c.in-Some-2.is c.in_ok-steps.ensures in
    let le = ran_within p frozen now is c.turns.still (invocation_of c.in-Some.op) after more c.in-Some-2.steps ran in
    let lt = ran_some p frozen now is c.turns.still (invocation_of c.in-Some.op) after more c.in-Some-2.steps ran in
    omega (arith, le, lt)

pub turns-preserved : goal.turns-preserved
turns-preserved g c =
    let p = program_view c.args.program.now in
    let frozen = c.args.heap.now in
    let now = present frozen c.turns.beside in
    let is = invocation_of c.in-Some.op ∷ invocations_of c.pop.new.self.items in
    let after = present frozen c.run_given.new.beside in
    let more = invocations_of c.run_given.new.waiting.items in
    let ran = subst (λ r. GivenTurn p frozen now is c.turns.still (invocation_of c.in-Some.op) after more r) c.in-Some-2.is c.in_ok-steps.ensures in
    one_on p frozen (present frozen c.args.beside.now) (invocations_of c.args.waiting.now.items) c.args.left c.args.lines.now.items now c.turns.waiting.items c.pop.new.self.items c.turns.still c.turns.lines.items c.turns.invariant c.in-Some.op c.in-Some.ensures.items after more c.in-Some-2.steps c.push.new.self.items ran c.in_ok-push-in-Some-2.ensures.items

pub returns-in-None-clause-told : goal.returns-in-None-clause-told
returns-in-None-clause-told g c =
    let p = program_view c.args.program.now in
    let frozen = c.args.heap.now in
    let now = present frozen c.turns.beside in
    let is = invocation_of c.in-Some.op ∷ invocations_of c.pop.new.self.items in
    let after = present frozen c.run_given.new.beside in
    let more = invocations_of c.run_given.new.waiting.items in
    let ran = subst (λ r. GivenTurn p frozen now is c.turns.still (invocation_of c.in-Some.op) after more r) c.in-None.is c.in_ok-steps.ensures in
    stuck p frozen (present frozen c.args.beside.now) (invocations_of c.args.waiting.now.items) c.args.left c.args.lines.now.items now c.turns.waiting.items c.pop.new.self.items c.turns.still c.turns.lines.items c.turns.invariant c.in-Some.op c.in-Some.ensures.items ran
