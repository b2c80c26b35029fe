use Rattle.std.proofs.Common.{rules, true, false, subst, arith}
use Rattle.ca_program.specs.View.{program_view}
use Rattle.ca_sum_pool.specs.Parts.{RanAlone}
use Rattle.ca_sum_pool.proofs.Alone.{goes_first, task_fits, goes_on, finished_none, finished_full, finished_not}
use Rattle.ca_sum_pool.proofs.finishing.run_rest.Goals as goal

pub loop-ran-init : goal.loop-ran-init
loop-ran-init c = goes_first (program_view c.args.program.now) c.args.extent.now c.args.frozen.now c.args.left c.requires.round c.args.count c.args.rest.now.items c.args.stuck.now.items c.args.steps.now c.args.replica.now.copies c.requires.none c.requires.fits

pub run_alone-requires-clause-stands : goal.run_alone-requires-clause-stands
run_alone-requires-clause-stands c = c.loop-ran.invariant.goes.stands

pub run_alone-requires-clause-fits : goal.run_alone-requires-clause-fits
run_alone-requires-clause-fits c = task_fits (program_view c.args.program.now) c.args.extent.now c.args.frozen.now c.args.left c.args.count c.loop-ran.ran c.args.rest.now.items c.args.stuck.now.items c.loop-ran.stuck.items c.args.steps.now c.loop-ran.replica.copies c.loop-ran.steps c.in-Some.task c.loop-ran.rest.items c.pop.new.self.items c.in-Some.ensures.items c.loop-ran.invariant

pub loop-ran-preserved : goal.loop-ran-preserved
loop-ran-preserved c =
    goes_on (program_view c.args.program.now) c.args.extent.now c.args.frozen.now c.args.left c.args.count c.loop-ran.ran c.args.rest.now.items c.args.stuck.now.items c.loop-ran.stuck.items c.args.steps.now c.loop-ran.replica.copies c.loop-ran.steps c.in-Some.task c.loop-ran.rest.items c.pop.new.self.items c.in-Some.ensures.items c.loop-ran.invariant
    c.run_alone.new.replica.copies c.run_alone.new.rest.items c.run_alone.new.stuck.items c.run_alone.new.steps
    (subst (RanAlone (program_view c.args.program.now) c.args.extent.now c.args.frozen.now c.args.left c.in-Some.task c.loop-ran.replica.copies c.run_alone.new.replica.copies c.pop.new.self.items c.run_alone.new.rest.items c.loop-ran.stuck.items c.run_alone.new.stuck.items c.loop-ran.steps c.run_alone.new.steps) c.if-not-goes_on.false c.in_ok-goes_on.ensures)

pub returns-in_default : goal.returns-in_default
returns-in_default c = finished_none (program_view c.args.program.now) c.args.extent.now c.args.frozen.now c.args.left c.args.count c.loop-ran.ran c.args.rest.now.items c.args.stuck.now.items c.loop-ran.stuck.items c.args.steps.now c.loop-ran.replica.copies c.loop-ran.steps c.args.quota c.loop-ran.rest.items c.pop.new.self.items (search rules) (search rules) c.loop-ran.invariant

pub returns-then-not-goes_on : goal.returns-then-not-goes_on
returns-then-not-goes_on c =
    finished_not (program_view c.args.program.now) c.args.extent.now c.args.frozen.now c.args.left c.args.count c.loop-ran.ran c.args.rest.now.items c.args.stuck.now.items c.loop-ran.stuck.items c.args.steps.now c.loop-ran.replica.copies c.loop-ran.steps c.in-Some.task c.loop-ran.rest.items c.pop.new.self.items c.in-Some.ensures.items c.loop-ran.invariant
    c.args.quota c.run_alone.new.replica.copies c.run_alone.new.rest.items c.run_alone.new.stuck.items c.run_alone.new.steps
    (subst (RanAlone (program_view c.args.program.now) c.args.extent.now c.args.frozen.now c.args.left c.in-Some.task c.loop-ran.replica.copies c.run_alone.new.replica.copies c.pop.new.self.items c.run_alone.new.rest.items c.loop-ran.stuck.items c.run_alone.new.stuck.items c.loop-ran.steps c.run_alone.new.steps) c.if-not-goes_on.true c.in_ok-goes_on.ensures)

pub returns : goal.returns
returns c = finished_full (program_view c.args.program.now) c.args.extent.now c.args.frozen.now c.args.left c.args.count c.loop-ran.ran c.args.rest.now.items c.args.stuck.now.items c.loop-ran.stuck.items c.args.steps.now c.loop-ran.replica.copies c.loop-ran.steps c.args.quota c.loop-ran.rest.items (let end = c.loop-ran-test.false in omega (arith, end)) c.loop-ran.invariant
