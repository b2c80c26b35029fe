use Rattle.std.proofs.Common.{◌≡◌, None, refl, ap, ◌∙◌, arith}
use Rattle.ca_tree.specs.Plain.{block, if_else, while_loop, for_loop}
use Rattle.ca_tree.specs.View.{form_view, expression_view, statement_view, statements_view}
use Rattle.ca_tree.specs.declared.tree.StmtKind.{If}
use Rattle.ca_tree.proofs.Rows.{block_is}
use Rattle.ca_canonical.specs.Marks.{marks, front_view}
use Rattle.ca_canonical.specs.Annotated.{marked_all}
use Rattle.ca_canonical.specs.clauses.Pens.{WritesPieces}
use Rattle.ca_canonical.proofs.Writing.{after, as_pieces, all_left, none_left}
use Rattle.ca_canonical.proofs.Lists.{with_marks, line_with_marks, statement_written, no_statement_left}
use Rattle.ca_canonical.proofs.statements.+statement.Goals as goal

pub write_statement-returns-in-Block : goal.write_statement-returns-in-Block
write_statement-returns-in-Block g t c =
    let at = c.args.s.now.at in
    let f = (g.M.Marks.marking c.args.marks.now).before c.args.body in
    let is : statement_view c.args.s.now ≡ block at (statements_view c.in-Block.items.items) = ap (λ k. form_view k at) c.in-Block.is ∙ block_is at c.in-Block.items in
    let before : WritesPieces c.args.pen.now c.marks.new.self (marks (f (front_view c.args.front) (statement_view c.args.s.now))) = rw c.before-2.ensures at c.marks.ensures in
    with_marks f (front_view c.args.front) (statement_view c.args.s.now) (block at (statements_view c.in-Block.items.items)) is before
    (after (as_pieces c.sign.ensures) (after (rw c.deref.ensures.value at c.write_statements.ensures) (as_pieces c.sign-in-Block.ensures)))

pub write_statement-returns-in-Some : goal.write_statement-returns-in-Some
write_statement-returns-in-Some g t c =
    let at = c.args.s.now.at in
    let f = (g.M.Marks.marking c.args.marks.now).before c.args.body in
    let is : statement_view c.args.s.now ≡ if_else at (expression_view c.in-If.cond) (statement_view c.in-If.yes.value) (statement_view c.in-Some.no.value) = ap (λ k. form_view k at) (c.in-If.is ∙ ap (λ o. If c.in-If.cond c.in-If.yes o) c.in-Some.is) in
    let before : WritesPieces c.args.pen.now c.marks.new.self (marks (f (front_view c.args.front) (statement_view c.args.s.now))) = rw c.before-2.ensures at c.marks.ensures in
    with_marks f (front_view c.args.front) (statement_view c.args.s.now) (if_else at (expression_view c.in-If.cond) (statement_view c.in-If.yes.value) (statement_view c.in-Some.no.value)) is before
    (after (as_pieces c.write_condition.ensures) (after (rw c.deref-in-If.ensures at c.write_statement.ensures) (after (as_pieces c.key.ensures) (rw c.deref-in-Some.ensures at c.write_statement-in-Some.ensures))))

pub write_statement-returns-in-While : goal.write_statement-returns-in-While
write_statement-returns-in-While g t c =
    let at = c.args.s.now.at in
    let f = (g.M.Marks.marking c.args.marks.now).before c.args.body in
    let is : statement_view c.args.s.now ≡ while_loop at (expression_view c.in-While.cond) (statement_view c.in-While.turn.value) = ap (λ k. form_view k at) c.in-While.is in
    let before : WritesPieces c.args.pen.now c.marks.new.self (marks (f (front_view c.args.front) (statement_view c.args.s.now))) = rw c.before-2.ensures at c.marks.ensures in
    with_marks f (front_view c.args.front) (statement_view c.args.s.now) (while_loop at (expression_view c.in-While.cond) (statement_view c.in-While.turn.value)) is before
    (after (as_pieces c.write_condition-in-While.ensures) (rw c.deref-in-While.ensures at c.write_statement-in-While.ensures))

pub write_statement-returns-in-For : goal.write_statement-returns-in-For
write_statement-returns-in-For g t c =
    let at = c.args.s.now.at in
    let f = (g.M.Marks.marking c.args.marks.now).before c.args.body in
    let is : statement_view c.args.s.now ≡ for_loop at (statement_view c.in-For.first.value) (expression_view c.in-For.cond) (statement_view c.in-For.next.value) (statement_view c.in-For.turn.value) = ap (λ k. form_view k at) c.in-For.is in
    let before : WritesPieces c.args.pen.now c.marks.new.self (marks (f (front_view c.args.front) (statement_view c.args.s.now))) = rw c.before-2.ensures at c.marks.ensures in
    with_marks f (front_view c.args.front) (statement_view c.args.s.now) (for_loop at (statement_view c.in-For.first.value) (expression_view c.in-For.cond) (statement_view c.in-For.next.value) (statement_view c.in-For.turn.value)) is before
    (after (as_pieces (rw (c.deref-in-For.ensures, c.deref-in-For-2.ensures) at c.write_for.ensures)) (rw c.deref-in-For-3.ensures at c.write_statement-in-For.ensures))

pub write_statement-returns-in-Empty : goal.write_statement-returns-in-Empty
write_statement-returns-in-Empty g t c =
    let at = c.args.s.now.at in
    let f = (g.M.Marks.marking c.args.marks.now).before c.args.body in
    let before : WritesPieces c.args.pen.now c.marks.new.self (marks (f (front_view c.args.front) (statement_view c.args.s.now))) = rw c.before-2.ensures at c.marks.ensures in
    line_with_marks f (front_view c.args.front) (statement_view c.args.s.now) _ (ap (λ k. form_view k at) c.in-Empty.is) refl before c.write_line.ensures

pub write_statement-returns-in-Local : goal.write_statement-returns-in-Local
write_statement-returns-in-Local g t c =
    let at = c.args.s.now.at in
    let f = (g.M.Marks.marking c.args.marks.now).before c.args.body in
    let before : WritesPieces c.args.pen.now c.marks.new.self (marks (f (front_view c.args.front) (statement_view c.args.s.now))) = rw c.before-2.ensures at c.marks.ensures in
    line_with_marks f (front_view c.args.front) (statement_view c.args.s.now) _ (ap (λ k. form_view k at) c.in-Local.is) refl before c.write_line-in-Local.ensures

pub write_statement-returns-in-Assign : goal.write_statement-returns-in-Assign
write_statement-returns-in-Assign g t c =
    let at = c.args.s.now.at in
    let f = (g.M.Marks.marking c.args.marks.now).before c.args.body in
    let before : WritesPieces c.args.pen.now c.marks.new.self (marks (f (front_view c.args.front) (statement_view c.args.s.now))) = rw c.before-2.ensures at c.marks.ensures in
    line_with_marks f (front_view c.args.front) (statement_view c.args.s.now) _ (ap (λ k. form_view k at) c.in-Assign.is) refl before c.write_line-in-Assign.ensures

pub write_statement-returns-in-Call : goal.write_statement-returns-in-Call
write_statement-returns-in-Call g t c =
    let at = c.args.s.now.at in
    let f = (g.M.Marks.marking c.args.marks.now).before c.args.body in
    let before : WritesPieces c.args.pen.now c.marks.new.self (marks (f (front_view c.args.front) (statement_view c.args.s.now))) = rw c.before-2.ensures at c.marks.ensures in
    line_with_marks f (front_view c.args.front) (statement_view c.args.s.now) _ (ap (λ k. form_view k at) c.in-Call.is) refl before c.write_line-in-Call.ensures

pub write_statement-returns-in-Return : goal.write_statement-returns-in-Return
write_statement-returns-in-Return g t c =
    let at = c.args.s.now.at in
    let f = (g.M.Marks.marking c.args.marks.now).before c.args.body in
    let before : WritesPieces c.args.pen.now c.marks.new.self (marks (f (front_view c.args.front) (statement_view c.args.s.now))) = rw c.before-2.ensures at c.marks.ensures in
    line_with_marks f (front_view c.args.front) (statement_view c.args.s.now) _ (ap (λ k. form_view k at) c.in-Return.is) refl before c.write_line-in-Return.ensures

pub write_statement-returns-in-Print : goal.write_statement-returns-in-Print
write_statement-returns-in-Print g t c =
    let at = c.args.s.now.at in
    let f = (g.M.Marks.marking c.args.marks.now).before c.args.body in
    let before : WritesPieces c.args.pen.now c.marks.new.self (marks (f (front_view c.args.front) (statement_view c.args.s.now))) = rw c.before-2.ensures at c.marks.ensures in
    line_with_marks f (front_view c.args.front) (statement_view c.args.s.now) _ (ap (λ k. form_view k at) c.in-Print.is) refl before c.write_line-in-Print.ensures

pub write_statements-items-init : goal.write_statements-items-init
write_statements-items-init g t c = all_left c.args.pen.now (marked_all ((g.M.Marks.marking c.args.marks.now).before c.args.body) None (statements_view c.args.items.now))

pub write_statements-items-preserved : goal.write_statements-items-preserved
write_statements-items-preserved g t c =
    let f = (g.M.Marks.marking c.args.marks.now).before c.args.body in
    statement_written f (front_view c.items.front) c.args.items.now c.items.s-index c.s-item.result (omega arith) c.s-item.is c.items.invariant c.write_statement.ensures

pub write_statements-returns : goal.write_statements-returns
write_statements-returns g t c =
    let f = (g.M.Marks.marking c.args.marks.now).before c.args.body in
    none_left c.items.invariant (no_statement_left f (front_view c.items.front) c.args.items.now c.items.s-index (omega arith))
