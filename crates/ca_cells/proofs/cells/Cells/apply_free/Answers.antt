use Rattle.std.proofs.Common.{refl, sym, subst}
use Rattle.ca_program.specs.View.{program_view}
use Rattle.ca_cells.specs.Adds.{IsRan}
use Rattle.ca_cells.specs.Rounds.{program_of, extent_of, frozen_of}
use Rattle.ca_cells.specs.Seats.{cells_key}
use Rattle.ca_cells.specs.declared.adding.Added.{Added}
use Rattle.ca_cells.proofs.Freely.{typed_of, free_of, ran_free, stuck_free, kept_free, stay_legal}
use Rattle.ca_cells.proofs.cells.Cells.apply_free.Goals as goal

pub add_free-requires-clause-typed : goal.add_free-requires-clause-typed
add_free-requires-clause-typed c = typed_of (cells_key c.args.self.now) _ _ c.args.task c.requires.given.0 c.requires.given.1 c.requires.may_run

pub returns-in-Ok-Ran-clause-applied : goal.returns-in-Ok-Ran-clause-applied
returns-in-Ok-Ran-clause-applied c = let key = cells_key c.args.self.now in let q = c.requires.given in
    ran_free key c.args.task c.args.left c.args.worker.now.loose c.add_free.new.loose _ (free_of key (program_view c.args.program.now) c.args.frozen.now c.args.task c.args.left c.args.worker.now.loose c.add_free.new.loose _ q.0 q.1 c.in-Ok-Ran.ensures.exact)
    c.requires.round c.requires.may_run c.in-Ok-Ran.tasks.items c.in-Ok-Ran.steps (subst (λ (a : Added). IsRan a c.in-Ok-Ran.tasks.items c.in-Ok-Ran.steps) (sym c.in-Ok-Ran.field-0-is) (refl, refl))

pub returns-in-Ok-Stuck-clause-applied : goal.returns-in-Ok-Stuck-clause-applied
returns-in-Ok-Stuck-clause-applied c = let key = cells_key c.args.self.now in let q = c.requires.given in
    stuck_free key c.args.task c.args.left c.args.worker.now.loose c.add_free.new.loose _ (free_of key (program_view c.args.program.now) c.args.frozen.now c.args.task c.args.left c.args.worker.now.loose c.add_free.new.loose _ q.0 q.1 c.in-Ok-Stuck.ensures.exact) c.in-Ok-Stuck.stop c.in-Ok-Stuck.field-0-is

pub returns-in-Ok-Kept-clause-applied : goal.returns-in-Ok-Kept-clause-applied
returns-in-Ok-Kept-clause-applied c = let key = cells_key c.args.self.now in let q = c.requires.given in
    kept_free key c.args.task c.args.left c.args.worker.now.loose c.add_free.new.loose _ (free_of key (program_view c.args.program.now) c.args.frozen.now c.args.task c.args.left c.args.worker.now.loose c.add_free.new.loose _ q.0 q.1 c.in-Ok-Kept.ensures.exact) c.in-Ok-Kept.field-0-is

pub returns-in-Ok-Ran-clause-legal : goal.returns-in-Ok-Ran-clause-legal
returns-in-Ok-Ran-clause-legal c = λ free. let key = cells_key c.args.self.now in let q = c.requires.given in
    stay_legal (program_of key) (extent_of key) (frozen_of key) c.args.task free c.args.left c.args.worker.now.loose c.add_free.new.loose _ (free_of key (program_view c.args.program.now) c.args.frozen.now c.args.task c.args.left c.args.worker.now.loose c.add_free.new.loose _ q.0 q.1 c.in-Ok-Ran.ensures.exact)

pub returns-in-Ok-Stuck-clause-legal : goal.returns-in-Ok-Stuck-clause-legal
returns-in-Ok-Stuck-clause-legal c = λ free. let key = cells_key c.args.self.now in let q = c.requires.given in
    stay_legal (program_of key) (extent_of key) (frozen_of key) c.args.task free c.args.left c.args.worker.now.loose c.add_free.new.loose _ (free_of key (program_view c.args.program.now) c.args.frozen.now c.args.task c.args.left c.args.worker.now.loose c.add_free.new.loose _ q.0 q.1 c.in-Ok-Stuck.ensures.exact)

pub returns-in-Ok-Kept-clause-legal : goal.returns-in-Ok-Kept-clause-legal
returns-in-Ok-Kept-clause-legal c = λ free. let key = cells_key c.args.self.now in let q = c.requires.given in
    stay_legal (program_of key) (extent_of key) (frozen_of key) c.args.task free c.args.left c.args.worker.now.loose c.add_free.new.loose _ (free_of key (program_view c.args.program.now) c.args.frozen.now c.args.task c.args.left c.args.worker.now.loose c.add_free.new.loose _ q.0 q.1 c.in-Ok-Kept.ensures.exact)
