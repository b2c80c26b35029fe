use Rattle.std.proofs.Common.{refl, subst}
use Rattle.ca_program.specs.View.{program_view}
use Rattle.ca_parallel.specs.Calls.{invocation_of}
use Rattle.ca_logs.specs.Entries.{task_after}
use Rattle.ca_replica.specs.Applied.{sums}
use Rattle.ca_replica.specs.Calls.{Completed}
use Rattle.ca_sum_pool.proofs.Wholes.{whole_ran, whole_undone}
use Rattle.ca_sum_pool.proofs.performing.run_whole.Goals as goal

pub returns-then-not-whole : goal.returns-then-not-whole
returns-then-not-whole g c = record { once = λ d. d; same = refl }

pub complete-requires-clause-typed : goal.complete-requires-clause-typed
complete-requires-clause-typed g c = c.requires.fits.typed

pub returns-in-Ok-Some : goal.returns-in-Ok-Some
returns-in-Ok-Some g c =
    let p = program_view c.args.program.now in
    let x = c.args.extent.now in
    let frozen = c.args.frozen.now in
    let before = c.args.replica.now.copies in
    let after = c.complete.new.self.copies in
    whole_ran p x frozen c.requires.round (task_after c.args.after c.args.op.now) c.min-most.result before after c.requires.stands c.requires.fits c.complete.ensures.once c.in-Ok-Some.steps
    (subst (λ o. Completed p (sums x.written frozen before) (invocation_of c.args.op.now) c.min-most.result (sums x.written frozen after) o) c.in-Ok-Some.field-0-is c.in-Ok-Some.ensures.completed)

pub returns-in-Ok-None : goal.returns-in-Ok-None
returns-in-Ok-None g c =
    let p = program_view c.args.program.now in
    let x = c.args.extent.now in
    let frozen = c.args.frozen.now in
    let before = c.args.replica.now.copies in
    let after = c.complete.new.self.copies in
    let none = subst (λ o. Completed p (sums x.written frozen before) (invocation_of c.args.op.now) c.min-most.result (sums x.written frozen after) o) c.in-Ok-None.field-0-is c.in-Ok-None.ensures.completed in
    whole_undone p x frozen c.requires.round (task_after c.args.after c.args.op.now) 0 before after c.requires.stands c.requires.fits c.complete.ensures.once none.1

pub returns-in-Err : goal.returns-in-Err
returns-in-Err g c =
    whole_undone (program_view c.args.program.now) c.args.extent.now c.args.frozen.now c.requires.round (task_after c.args.after c.args.op.now) 0 c.args.replica.now.copies c.complete.new.self.copies c.requires.stands c.requires.fits c.complete.ensures.once c.in-Err.ensures.kept
