use Rattle.std.proofs.Common.{refl}
use Rattle.ca_program.specs.View.{program_view}
use Rattle.ca_cells.proofs.Freely.{done_free, trapped_exit, spent_exit}
use Rattle.ca_cells.proofs.freeing.add_free.Goals as goal

pub returns-in_ok-tasks-in-Done-clause-exact : goal.returns-in_ok-tasks-in-Done-clause-exact
returns-in_ok-tasks-in-Done-clause-exact c =
    done_free (program_view c.args.program.now) c.args.frozen.now c.args.task.now c.args.left c.args.loose.now c.grow_free.new.loose _ c.in_ok-steps.field-0 c.take_list-listed.result.items c.section_frozen.new.out.items
    c.requires.typed c.requires.free c.in-Some.ensures.0 c.take_list-listed.ensures.none c.in_ok-steps.ensures.answer c.in-Some.clock c.in-Done.steps c.in-Some.ensures.1 c.in-Done.is c.in_ok-tasks-in-Done.ensures.added (c.in_ok-tasks-in-Done.ensures.tasks, refl)

pub returns-in-Trapped-clause-exact : goal.returns-in-Trapped-clause-exact
returns-in-Trapped-clause-exact c =
    trapped_exit c.stick_free.result (program_view c.args.program.now) c.args.frozen.now c.args.task.now c.args.left c.args.loose.now c.stick_free.new.loose c.in_ok-steps.field-0 c.take_list-listed.result.items c.section_frozen.new.out.items
    c.requires.typed c.requires.free c.in-Some.ensures.0 c.take_list-listed.ensures.none c.in_ok-steps.ensures.answer c.in-Some.clock c.in-Trapped.trap c.in-Some.ensures.1 c.in-Trapped.is c.stick_free.ensures.added

pub returns-in-Spent-clause-exact : goal.returns-in-Spent-clause-exact
returns-in-Spent-clause-exact c =
    spent_exit c.stick_free-in-Spent.result (program_view c.args.program.now) c.args.frozen.now c.args.task.now c.args.left c.args.loose.now c.stick_free-in-Spent.new.loose c.in_ok-steps.field-0 c.take_list-listed.result.items c.section_frozen.new.out.items
    c.requires.typed c.requires.free c.in-Some.ensures.0 c.take_list-listed.ensures.none c.in_ok-steps.ensures.answer c.in-Some.clock c.in-Some.ensures.1 c.in-Spent.is c.stick_free-in-Spent.ensures.added
