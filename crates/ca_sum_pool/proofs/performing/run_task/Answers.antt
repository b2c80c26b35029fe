use Rattle.std.proofs.Common.{arith}
use Rattle.ca_program.specs.View.{program_view}
use Rattle.ca_logs.specs.Entries.{task_after}
use Rattle.ca_sum_pool.proofs.Tasks.{ran_one, trapped_one, spent_one}
use Rattle.ca_sum_pool.proofs.performing.run_task.Goals as goal

pub apply-requires-clause-inside : goal.apply-requires-clause-inside
apply-requires-clause-inside c = c.requires.fits.inside

pub apply-requires-clause-typed : goal.apply-requires-clause-typed
apply-requires-clause-typed c = c.requires.fits.typed

pub returns-in-Ok-Done : goal.returns-in-Ok-Done
returns-in-Ok-Done c = let e = c.in-Ok-Done.ensures in (
  omega arith,
  ran_one (program_view c.args.program.now) c.args.extent.now c.args.frozen.now c.requires.round (task_after c.args.after c.args.op.now) c.args.left c.args.replica.now.copies c.apply.new.self.copies _ c.apply.new.out.items c.in-Ok-Done.field-0 c.requires.stands c.requires.fits e.once e.answer c.in-Ok-Done.steps c.in-Ok-Done.field-0-is c.requires.room e.ran,
)

pub returns-in-Ok-Trapped : goal.returns-in-Ok-Trapped
returns-in-Ok-Trapped c = let e = c.in-Ok-Trapped.ensures in
    trapped_one (program_view c.args.program.now) c.args.extent.now c.args.frozen.now c.requires.round (task_after c.args.after c.args.op.now) c.args.left c.args.replica.now.copies c.apply.new.self.copies _ c.apply.new.out.items c.in-Ok-Trapped.field-0 c.requires.stands c.requires.fits e.once e.answer c.in-Ok-Trapped.trap c.in-Ok-Trapped.field-0-is

pub returns-in-Ok-Spent : goal.returns-in-Ok-Spent
returns-in-Ok-Spent c = let e = c.in-Ok-Spent.ensures in
    spent_one (program_view c.args.program.now) c.args.extent.now c.args.frozen.now c.requires.round (task_after c.args.after c.args.op.now) c.args.left c.args.replica.now.copies c.apply.new.self.copies _ c.apply.new.out.items c.in-Ok-Spent.field-0 c.requires.stands c.requires.fits e.once e.answer c.in-Ok-Spent.field-0-is
