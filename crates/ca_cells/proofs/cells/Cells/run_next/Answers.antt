use Rattle.std.proofs.Common.{◌++◌, refl, sym, ap, ◌∙◌, subst}
use Rattle.ca_program.specs.View.{program_view}
use Rattle.ca_logs.specs.declared.log.CellLog.{CellLog}
use Rattle.ca_cells.specs.Adds.{IsRan}
use Rattle.ca_cells.specs.Items.{entry_ran}
use Rattle.ca_cells.specs.Seats.{cells_key}
use Rattle.ca_cells.specs.declared.adding.Added.{Added}
use Rattle.ca_cells.proofs.Courses.{Setting, ran_next, closed_next, undone_next, marked, mark_of_one}
use Rattle.ca_cells.proofs.cells.Cells.run_next.Goals as goal

pub back_to-requires : goal.back_to-requires
back_to-requires c =
    let key = cells_key c.args.self.now in let q = c.requires.given in let l = c.requires.legal in let t = c.requires.task in let e = c.in_ok-added.ensures in
    let p = program_view c.args.program.now in
    let s : Setting key p c.args.frozen.now c.args._number c.args.task.now c.args.log.now = record { program = q.0; heap = q.1; round = l.0; legal = l.1; may_run = t.0; receiver = t.1 } in
    let ran = subst (λ (a : Added). IsRan a c.in-Ran.tasks.items c.in-Ran.steps) (sym c.in-Ran.is) (refl, refl) in
    let r = ran_next key p c.args.frozen.now c.args._number c.args.left c.args.task.now c.args.log.now c.add.new.log s c.in_ok-added.added c.args.made.now.items (c.args.made.now.items ++ c.in-Ran.tasks.items) c.in-Ran.tasks.items c.in-Ran.steps e.exact ran e.legal e.agrees
    (e.typed c.in-Ran.tasks.items c.in-Ran.steps ran) (λ x z. e.inside x z c.in-Ran.tasks.items c.in-Ran.steps ran) refl in
    let mark = marked c.args.log.now c.args.task.now.after c.mark-mark.result r.takes_one c.mark-mark.ensures in
    let entry = entry_ran key c.args.left c.args._number c.args.task.now c.args.log.now r.outcome in
    mark_of_one c.args.log.now.entries c.add.new.log.entries c.mark-mark.result entry (ap (λ (l : CellLog). l.entries) r.new_is) mark

pub returns-then-not-join-clause-kept : goal.returns-then-not-join-clause-kept
returns-then-not-join-clause-kept c =
    let key = cells_key c.args.self.now in let q = c.requires.given in let l = c.requires.legal in let t = c.requires.task in let e = c.in_ok-added.ensures in
    let p = program_view c.args.program.now in
    let s : Setting key p c.args.frozen.now c.args._number c.args.task.now c.args.log.now = record { program = q.0; heap = q.1; round = l.0; legal = l.1; may_run = t.0; receiver = t.1 } in
    let ran = subst (λ (a : Added). IsRan a c.in-Ran.tasks.items c.in-Ran.steps) (sym c.in-Ran.is) (refl, refl) in
    let r = ran_next key p c.args.frozen.now c.args._number c.args.left c.args.task.now c.args.log.now c.add.new.log s c.in_ok-added.added c.args.made.now.items (c.args.made.now.items ++ c.in-Ran.tasks.items) c.in-Ran.tasks.items c.in-Ran.steps e.exact ran e.legal e.agrees
    (e.typed c.in-Ran.tasks.items c.in-Ran.steps ran) (λ x z. e.inside x z c.in-Ran.tasks.items c.in-Ran.steps ran) refl in
    let mark = marked c.args.log.now c.args.task.now.after c.mark-mark.result r.takes_one c.mark-mark.ensures in
    let entry = entry_ran key c.args.left c.args._number c.args.task.now c.args.log.now r.outcome in
    ap (λ l. record { opened = c.add.new.log.opened; object = c.undo.new.object; entries = l }) c.back_to.ensures ∙ undone_next c.args.log.now c.add.new.log c.undo.new.object c.mark-mark.result entry (ap (λ (l : CellLog). l.opened) r.new_is) (ap (λ (l : CellLog). l.entries) r.new_is)
    (c.undo.ensures c.args.log.now.object (e.undo c.in-Ran.tasks.items c.in-Ran.steps ran)) mark

pub returns-in-Ran-clause-next : goal.returns-in-Ran-clause-next
returns-in-Ran-clause-next c =
    let key = cells_key c.args.self.now in let q = c.requires.given in let l = c.requires.legal in let t = c.requires.task in let e = c.in_ok-added.ensures in
    let p = program_view c.args.program.now in
    let s : Setting key p c.args.frozen.now c.args._number c.args.task.now c.args.log.now = record { program = q.0; heap = q.1; round = l.0; legal = l.1; may_run = t.0; receiver = t.1 } in
    let ran = subst (λ (a : Added). IsRan a c.in-Ran.tasks.items c.in-Ran.steps) (sym c.in-Ran.is) (refl, refl) in
    ran_next key p c.args.frozen.now c.args._number c.args.left c.args.task.now c.args.log.now c.add.new.log s c.in_ok-added.added c.args.made.now.items c.join.new.list.items c.in-Ran.tasks.items c.in-Ran.steps e.exact ran e.legal e.agrees
    (e.typed c.in-Ran.tasks.items c.in-Ran.steps ran) (λ x z. e.inside x z c.in-Ran.tasks.items c.in-Ran.steps ran) (c.join.ensures c.if-not-join.false)

pub returns-clause-next : goal.returns-clause-next
returns-clause-next c =
    let key = cells_key c.args.self.now in let q = c.requires.given in let l = c.requires.legal in let t = c.requires.task in let e = c.in_ok-added.ensures in
    let p = program_view c.args.program.now in
    let s : Setting key p c.args.frozen.now c.args._number c.args.task.now c.args.log.now = record { program = q.0; heap = q.1; round = l.0; legal = l.1; may_run = t.0; receiver = t.1 } in
    closed_next key p c.args.frozen.now c.args._number c.args.left c.args.task.now c.args.log.now c.add.new.log s c.in_ok-added.added c.args.made.now.items _ e.exact c.in-Kept.is refl
