use Rattle.std.proofs.Common.{◌≡◌, ◌∷◌, [], ◌||◌, refl, ap, ◌∙◌, arith}
use Rattle.ca_program.specs.View.{form_view, statement_view, statements_view}
use Rattle.ca_program.proofs.Rows.{block_is}
use Rattle.ca_extent.proofs.Walks.{one_more, none_left, both_found, found_at}
use Rattle.ca_parallel.specs.Lists.{PlainMarks}
use Rattle.ca_plan.specs.Texts.{loop_in}
use Rattle.ca_emit.specs.Annotations.{runs_parallel, run_parallel}
use Rattle.ca_emit.proofs.sites.+flags.Goals as goal

pub add_flags-returns-in-Block : goal.add_flags-returns-in-Block
add_flags-returns-in-Block t c =
    found_at (runs_parallel c.args.marks.now c.args.inside) _ _ _ (statement_view c.args.s.now) _ (ap (λ k. form_view k c.args.s.now.line) c.in-Block.is ∙ block_is c.args.s.now.line c.in-Block.stmts)
    (rw c.deref.ensures.value at c.add_all_flags.ensures)

pub add_flags-returns-in-Invoke : goal.add_flags-returns-in-Invoke
add_flags-returns-in-Invoke t c =
    found_at (runs_parallel c.args.marks.now c.args.inside) _ _ _ (statement_view c.args.s.now) _ (ap (λ k. form_view k c.args.s.now.line) c.in-Invoke.is)
    (rw c.is_spawned.ensures at c.add_flag.ensures)

pub add_flags-returns-in-If : goal.add_flags-returns-in-If
add_flags-returns-in-If t c =
    let f = runs_parallel c.args.marks.now c.args.inside in
    found_at f _ _ _ (statement_view c.args.s.now) _ (ap (λ k. form_view k c.args.s.now.line) c.in-If.is)
    (both_found _ _ _ _ _ _ (f (statement_view c.in-If.yes.value)) (f (statement_view c.in-If.no.value))
    (rw c.deref-in-If.ensures at c.add_flags.ensures) (rw c.deref-in-If-2.ensures at c.add_flags-in-If.ensures) c.and.ensures)

pub add_flags-returns-in-For : goal.add_flags-returns-in-For
add_flags-returns-in-For t c =
    let marks = c.args.marks.now in
    let marked = loop_in marks.loops c.in-For.site in
    let loops : c.deref-in-For.result.now ≡ marks.loops = c.deref-in-For.ensures.value ∙ ap (λ (m : PlainMarks). m.loops) c.marks.view_is in
    found_at (runs_parallel marks c.args.inside) _ _ _ (statement_view c.args.s.now) _ (ap (λ k. form_view k c.args.s.now.line) c.in-For.is)
    (both_found _ _ _ _ _ _ (marked ∷ []) (runs_parallel marks (c.args.inside || marked) (statement_view c.in-For.body.value))
    (rw (c.is_loop_in-marked.ensures, loops) at c.add_flag-in-For.ensures) (rw (c.deref-in-For-2.ensures, c.is_within-within.ensures, c.is_loop_in-marked.ensures, loops) at c.add_flags-in-For.ensures) c.and-in-For.ensures)

pub add_all_flags-statements-preserved : goal.add_all_flags-statements-preserved
add_all_flags-statements-preserved t c = one_more (λ s. runs_parallel c.args.marks.now c.args.inside (statement_view s)) (λ ss. run_parallel c.args.marks.now c.args.inside (statements_view ss)) (λ s ss. refl) c.args.stmts.now c.statements.s-index c.s-item.result (omega arith) c.s-item.is _ _ _ c.statements.invariant c.in_ok-add_flags.ensures

pub add_all_flags-returns : goal.add_all_flags-returns
add_all_flags-returns t c = none_left (λ ss. run_parallel c.args.marks.now c.args.inside (statements_view ss)) refl c.args.stmts.now c.statements.s-index (omega arith) _ _ c.statements.invariant
