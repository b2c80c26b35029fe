use Rattle.std.proofs.Common.{◌≡◌, ◌++◌, sym, ap, ◌∙◌, subst}
use Rattle.ca_cells.specs.Seats.{cells_key}
use Rattle.ca_cells.specs.clauses.Courses.{Backable}
use Rattle.ca_cells.proofs.Courses.{same_undo, undone_backable, behind_undo, behind_back, err_gives, ok_gives}
use Rattle.ca_cells.proofs.cells.Cells.run_behind.Goals as goal

pub undo-requires : goal.undo-requires
undo-requires c = let u = c.requires.undo in
    let same = err_gives c.keep_olds.result _ (sym c.is_err.ensures.value ∙ c.if-is_err.true) c.keep_olds.ensures.kept in
    (u.before, same_undo c.args.desk.now c.keep_olds.new.self c.args.log.now.object u.before same.1 u.can)

pub returns-then-is_err-clause-back : goal.returns-then-is_err-clause-back
returns-then-is_err-clause-back c =
    let u = c.requires.undo in let found = c.args._found.now.value in
    let same = err_gives c.keep_olds.result _ (sym c.is_err.ensures.value ∙ c.if-is_err.true) c.keep_olds.ensures.kept in
    subst (λ os. Backable os (record { opened = c.args.log.now.opened; object = c.undo.new.object; entries = c.args.log.now.entries }) found) (sym same.0)
    (undone_backable c.args.desk.now c.args.olds.now c.args.log.now (record { opened = c.args.log.now.opened; object = c.undo.new.object; entries = c.args.log.now.entries }) found u
    (ap (λ o. record { opened = c.args.log.now.opened; object = o; entries = c.args.log.now.entries }) (c.undo.ensures u.before (same_undo c.args.desk.now c.keep_olds.new.self c.args.log.now.object u.before same.1 u.can))))

pub returns-clause-undo : goal.returns-clause-undo
returns-clause-undo c =
    let now = ok_gives c.keep_olds.result (c.keep_olds.new.all ≡ c.args.desk.now.state.olds ++ c.args.olds.now) (sym c.is_err.ensures.value ∙ c.if-is_err.false) c.keep_olds.ensures.added in
    behind_undo (cells_key c.args.self.now) c.args.left c.args._number c.args.desk.now c.run_next.new.desk c.args.olds.now c.keep_olds.new.all c.args.task.now c.args.log.now c.run_next.new.log c.args._found.now.value c.args.made.now.items c.run_next.new.made.items c.run_next.result
    c.requires.undo now c.run_next.ensures.next c.run_next.ensures.undo

pub returns-clause-back : goal.returns-clause-back
returns-clause-back c =
    let now = ok_gives c.keep_olds.result (c.keep_olds.new.all ≡ c.args.desk.now.state.olds ++ c.args.olds.now) (sym c.is_err.ensures.value ∙ c.if-is_err.false) c.keep_olds.ensures.added in
    behind_back c.args.desk.now c.args.olds.now c.keep_olds.new.all c.args.log.now c.run_next.new.log c.args._found.now.value c.run_next.result c.requires.undo now c.run_next.ensures.kept
