use Rattle.std.proofs.Common.{rules, sym, ◌∙◌}
use Rattle.ca_tree.specs.View.{tree_view}
use Rattle.ca_program.specs.View.{program_view}
use Rattle.ca_app.proofs.Endings.{ends_run, no_telling, same_telling}
use Rattle.ca_app.proofs.serving.serve_program.Goals as goal

pub returns-in-Run-clause-ends : goal.returns-in-Run-clause-ends
returns-in-Run-clause-ends g c =
    rw c.in-Run.is
    (ends_run (tree_view c.args.reading.now.tree) (program_view c.args.reading.now.program) c.in-Run.workers c.in-Run.budget c.run_program.ensures.ends)

pub returns-in-Run-clause-told : goal.returns-in-Run-clause-told
returns-in-Run-clause-told g c = λ told is. no_telling c.in-Run.workers c.in-Run.budget told (sym c.in-Run.is ∙ is)

pub returns-in-Tell-clause-ends : goal.returns-in-Tell-clause-ends
returns-in-Tell-clause-ends g c = rw c.in-Tell.is c.tell_plan.ensures.ends

pub returns-in-Tell-clause-told : goal.returns-in-Tell-clause-told
returns-in-Tell-clause-told g c = λ told is zero. rw (same_telling c.in-Tell.told told (sym c.in-Tell.is ∙ is)) at (c.tell_plan.ensures.told zero)

pub run_program-requires : goal.run_program-requires
run_program-requires g c = (search rules, (search rules, (c.requires.checked, (rw c.in-Run.is at c.requires.in_range).0)))
