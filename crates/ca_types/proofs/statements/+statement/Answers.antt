use Rattle.std.proofs.Common.{◌≡◌, ℕ, [], ◌∷◌, ◌++◌, Result, Box, Global, map, IfOk, OnOk, refl, sym, subst, ◌∙◌, ap}
use Rattle.ca_tree.specs.declared.name.Place.{Place}
use Rattle.ca_tree.specs.Plain.{block, for_loop}
use Rattle.ca_tree.specs.View.{form_view, expression_view, statement_view as tree_view, statements_view as tree_views}
use Rattle.ca_tree.proofs.Rows.{block_is}
use Rattle.ca_program.specs.declared.program.Stmt.{Stmt}
use Rattle.ca_program.specs.declared.program.FirstPart.{FirstPart}
use Rattle.ca_program.specs.Plain.{Statement}
use Rattle.ca_program.specs.View as resolved
use Rattle.ca_resolve.specs.declared.errors.CheckError.{CheckError}
use Rattle.ca_resolve.specs.Judged.{Answers, Extends, Judged, fine, each}
use Rattle.ca_resolve.proofs.Judging.{extends_answers}
use Rattle.ca_types.specs.declared.statements.Head.{Head}
use Rattle.ca_types.specs.Statements.{Env, judge_statement, judge_condition, judge_if, judge_for_loop, nothing, behind, counted, enter_block, leave_block}
use Rattle.ca_types.specs.clauses.View.{env_view, all_view, boxed_view, left}
use Rattle.ca_types.proofs.Answering.{if_made, on_made}
use Rattle.ca_types.proofs.Blocks.{inner_behind, block_behind, loop_behind}
use Rattle.ca_types.proofs.Forms.{while_is, only_is, else_is, for_is}
use Rattle.ca_types.proofs.Walks.{step, ended}
use Rattle.ca_types.proofs.statements.+statement.Goals as goal

pub check_block-returns-clause-behind : goal.check_block-returns-clause-behind
check_block-returns-clause-behind t c =
    block_behind (env_view c.args.walk.now) (env_view c.enter_block-outer.new.self) (env_view c.check_statements.new.walk) (env_view c.leave_block.new.self) c.enter_block-outer.result.visible c.enter_block-outer.result.first (tree_views c.args.stmts.now)
    c.enter_block-outer.ensures.enter_block c.enter_block-outer.ensures.visible c.enter_block-outer.ensures.first c.in_ok-answer.ensures.behind c.leave_block.ensures

pub check_inner-returns-clause-behind : goal.check_inner-returns-clause-behind
check_inner-returns-clause-behind t c =
    inner_behind (env_view c.args.walk.now) (env_view c.enter_block-outer.new.self) (env_view c.check_statement.new.walk) (env_view c.leave_block.new.self) c.enter_block-outer.result.visible c.enter_block-outer.result.first (tree_view c.args.stmt.now)
    c.enter_block-outer.ensures.enter_block c.enter_block-outer.ensures.visible c.enter_block-outer.ensures.first c.in_ok-answer.ensures.behind c.leave_block.ensures

pub check_statement-returns-in-Block-clause-judged : goal.check_statement-returns-in-Block-clause-judged
check_statement-returns-in-Block-clause-judged t c =
    let at = c.args.stmt.now.at in
    let e : tree_view c.args.stmt.now ≡ block at (tree_views c.deref.result.now) =
    ap (λ k. form_view k at) c.in-Block.is ∙ (block_is at c.in-Block.stmts ∙ ap (λ xs. block at (tree_views xs)) (sym c.deref.ensures.value)) in
    subst (λ z. IfOk c.check_block.result (λ a. Answers resolved.statement_view a (judge_statement (env_view c.args.walk.now) z))) (sym e) c.check_block.ensures.judged

pub check_statement-returns-in-Block-clause-behind : goal.check_statement-returns-in-Block-clause-behind
check_statement-returns-in-Block-clause-behind t c =
    let at = c.args.stmt.now.at in
    let e : tree_view c.args.stmt.now ≡ block at (tree_views c.deref.result.now) =
    ap (λ k. form_view k at) c.in-Block.is ∙ (block_is at c.in-Block.stmts ∙ ap (λ xs. block at (tree_views xs)) (sym c.deref.ensures.value)) in
    subst (λ z. OnOk c.check_block.result (env_view c.check_block.new.walk ≡ behind (env_view c.args.walk.now) z)) (sym e) c.check_block.ensures.behind

pub check_statement-returns-in-Empty-clause-judged : goal.check_statement-returns-in-Empty-clause-judged
check_statement-returns-in-Empty-clause-judged t c =
    ap (λ k. judge_statement (env_view c.args.walk.now) (form_view k c.args.stmt.now.at)) c.in-Empty.is ∙ ap (λ s. fine s) (sym c.nothing.ensures)

pub check_statement-returns-in-Empty-clause-behind : goal.check_statement-returns-in-Empty-clause-behind
check_statement-returns-in-Empty-clause-behind t c = sym (ap (λ k. behind (env_view c.args.walk.now) (form_view k c.args.stmt.now.at)) c.in-Empty.is)

pub check_statement-returns-in-Local-clause-judged : goal.check_statement-returns-in-Local-clause-judged
check_statement-returns-in-Local-clause-judged t c =
    subst (λ k. IfOk c.check_declaration.result (λ a. Answers resolved.statement_view a (judge_statement (env_view c.args.walk.now) (form_view k c.args.stmt.now.at)))) (sym c.in-Local.is) c.check_declaration.ensures.judged

pub check_statement-returns-in-Local-clause-behind : goal.check_statement-returns-in-Local-clause-behind
check_statement-returns-in-Local-clause-behind t c =
    subst (λ k. OnOk c.check_declaration.result (env_view c.check_declaration.new.walk ≡ behind (env_view c.args.walk.now) (form_view k c.args.stmt.now.at))) (sym c.in-Local.is) c.check_declaration.ensures.behind

pub check_statement-returns-in-Assign-clause-judged : goal.check_statement-returns-in-Assign-clause-judged
check_statement-returns-in-Assign-clause-judged t c =
    subst (λ k. Answers resolved.statement_view c.check_assign.result (judge_statement (env_view c.args.walk.now) (form_view k c.args.stmt.now.at))) (sym c.in-Assign.is) c.check_assign.ensures

pub check_statement-returns-in-Assign-clause-behind : goal.check_statement-returns-in-Assign-clause-behind
check_statement-returns-in-Assign-clause-behind t c = sym (ap (λ k. behind (env_view c.args.walk.now) (form_view k c.args.stmt.now.at)) c.in-Assign.is)

pub check_statement-returns-in-Call-clause-judged : goal.check_statement-returns-in-Call-clause-judged
check_statement-returns-in-Call-clause-judged t c =
    subst (λ k. Answers resolved.statement_view c.check_call_statement.result (judge_statement (env_view c.args.walk.now) (form_view k c.args.stmt.now.at))) (sym c.in-Call.is) c.check_call_statement.ensures

pub check_statement-returns-in-Call-clause-behind : goal.check_statement-returns-in-Call-clause-behind
check_statement-returns-in-Call-clause-behind t c = sym (ap (λ k. behind (env_view c.args.walk.now) (form_view k c.args.stmt.now.at)) c.in-Call.is)

pub check_statement-returns-in-Return-clause-judged : goal.check_statement-returns-in-Return-clause-judged
check_statement-returns-in-Return-clause-judged t c =
    subst (λ k. Answers resolved.statement_view c.check_return.result (judge_statement (env_view c.args.walk.now) (form_view k c.args.stmt.now.at))) (sym c.in-Return.is) c.check_return.ensures

pub check_statement-returns-in-Return-clause-behind : goal.check_statement-returns-in-Return-clause-behind
check_statement-returns-in-Return-clause-behind t c = sym (ap (λ k. behind (env_view c.args.walk.now) (form_view k c.args.stmt.now.at)) c.in-Return.is)

pub check_statement-returns-in-Print-clause-judged : goal.check_statement-returns-in-Print-clause-judged
check_statement-returns-in-Print-clause-judged t c =
    subst (λ k. Answers resolved.statement_view c.check_print.result (judge_statement (env_view c.args.walk.now) (form_view k c.args.stmt.now.at))) (sym c.in-Print.is) c.check_print.ensures

pub check_statement-returns-in-Print-clause-behind : goal.check_statement-returns-in-Print-clause-behind
check_statement-returns-in-Print-clause-behind t c = sym (ap (λ k. behind (env_view c.args.walk.now) (form_view k c.args.stmt.now.at)) c.in-Print.is)

pub check_statement-returns-in-While-clause-judged : goal.check_statement-returns-in-While-clause-judged
check_statement-returns-in-While-clause-judged t c =
    let e = while_is c.args.stmt.now.at c.args.stmt.now.kind c.in-While.cond c.in-While.body c.deref-in-While.result.now c.in-While.is c.deref-in-While.ensures in
    subst (λ z. IfOk c.check_while.result (λ a. Answers resolved.statement_view a (judge_statement (env_view c.args.walk.now) z))) (sym e) c.check_while.ensures.judged

pub check_statement-returns-in-While-clause-behind : goal.check_statement-returns-in-While-clause-behind
check_statement-returns-in-While-clause-behind t c =
    let e = while_is c.args.stmt.now.at c.args.stmt.now.kind c.in-While.cond c.in-While.body c.deref-in-While.result.now c.in-While.is c.deref-in-While.ensures in
    subst (λ z. OnOk c.check_while.result (env_view c.check_while.new.walk ≡ behind (env_view c.args.walk.now) z)) (sym e) c.check_while.ensures.behind

pub check_statement-returns-in-None-clause-judged : goal.check_statement-returns-in-None-clause-judged
check_statement-returns-in-None-clause-judged t c =
    let e = only_is c.args.stmt.now.at c.args.stmt.now.kind c.in-If.cond c.in-If.yes c.in-If.no c.deref-in-None.result.now c.in-If.is c.in-None.is c.deref-in-None.ensures in
    subst (λ z. IfOk c.check_if_only.result (λ a. Answers resolved.statement_view a (judge_statement (env_view c.args.walk.now) z))) (sym e) c.check_if_only.ensures.judged

pub check_statement-returns-in-None-clause-behind : goal.check_statement-returns-in-None-clause-behind
check_statement-returns-in-None-clause-behind t c =
    let e = only_is c.args.stmt.now.at c.args.stmt.now.kind c.in-If.cond c.in-If.yes c.in-If.no c.deref-in-None.result.now c.in-If.is c.in-None.is c.deref-in-None.ensures in
    subst (λ z. OnOk c.check_if_only.result (env_view c.check_if_only.new.walk ≡ behind (env_view c.args.walk.now) z)) (sym e) c.check_if_only.ensures.behind

pub check_statement-returns-in_ok-yes_part-in-Some-clause-judged : goal.check_statement-returns-in_ok-yes_part-in-Some-clause-judged
check_statement-returns-in_ok-yes_part-in-Some-clause-judged t c =
    let at = c.args.stmt.now.at in
    let s = env_view c.args.walk.now in
    let cond = c.in-If.cond in
    let yes = tree_view c.deref-in-Some.result.now in
    let no = tree_view c.deref-in-Some-2.result.now in
    let e = else_is at c.args.stmt.now.kind cond c.in-If.yes c.in-Some.no c.in-If.no c.deref-in-Some.result.now c.deref-in-Some-2.result.now c.in-If.is c.in-Some.is c.deref-in-Some.ensures c.deref-in-Some-2.ensures in
    let inner = c.in_ok-yes_part-in-Some.ensures in
    let j = judge_statement (enter_block s) yes in
    subst (λ z. IfOk c.check_else.result (λ a. Answers resolved.statement_view a (judge_statement s z))) (sym e)
    (subst (λ z. IfOk c.check_else.result (λ a. Answers resolved.statement_view a (judge_if at.line (judge_condition z.scope (expression_view cond)) j (judge_statement (enter_block z) no)))) inner.behind (c.check_else.ensures.judged j inner.judged))

pub check_statement-returns-in_ok-yes_part-in-Some-clause-behind : goal.check_statement-returns-in_ok-yes_part-in-Some-clause-behind
check_statement-returns-in_ok-yes_part-in-Some-clause-behind t c =
    let at = c.args.stmt.now.at in
    let s = env_view c.args.walk.now in
    let cond = c.in-If.cond in
    let yes = tree_view c.deref-in-Some.result.now in
    let no = tree_view c.deref-in-Some-2.result.now in
    let e = else_is at c.args.stmt.now.kind cond c.in-If.yes c.in-Some.no c.in-If.no c.deref-in-Some.result.now c.deref-in-Some-2.result.now c.in-If.is c.in-Some.is c.deref-in-Some.ensures c.deref-in-Some-2.ensures in
    subst (λ z. OnOk c.check_else.result (env_view c.check_else.new.walk ≡ behind s z)) (sym e)
    (subst (λ z. OnOk c.check_else.result (env_view c.check_else.new.walk ≡ leave_block z (behind (enter_block z) no))) c.in_ok-yes_part-in-Some.ensures.behind c.check_else.ensures.behind)

pub check_statement-returns-in_ok-next-in-For-clause-judged : goal.check_statement-returns-in_ok-next-in-For-clause-judged
check_statement-returns-in_ok-next-in-For-clause-judged t c =
    let at = c.args.stmt.now.at in
    let s = env_view c.args.walk.now in
    let first = tree_view c.deref-in-For.result.now in
    let cond = expression_view c.in-For.cond in
    let next = tree_view c.deref-in-For-2.result.now in
    let body = tree_view c.deref-in-For-3.result.now in
    let e = for_is at c.args.stmt.now.kind c.in-For.cond c.in-For.first c.in-For.next c.in-For.body c.deref-in-For.result.now c.deref-in-For-2.result.now c.deref-in-For-3.result.now c.in-For.is c.deref-in-For.ensures c.deref-in-For-2.ensures c.deref-in-For-3.ensures in
    let begins = c.in_ok-outer-in-For.ensures in
    let head = c.in_ok-outer-in-For.head in
    let turns = c.in_ok-next-in-For.ensures in
    let r = c.check_rounds.result in
    let f = judge_statement (enter_block (counted s)) first in
    let part : Env → Judged Statement → Judged Statement = λ d j. judge_for_loop head.at head.site.0 head.part f (judge_condition d.scope cond) j (judge_statement (enter_block d) body) in
    let s1 = env_view c.check_head.new.walk in
    let told = c.check_rounds.ensures.judged f (judge_statement (enter_block s1) next) begins.judged turns.judged in
    let inside = subst (λ z. IfOk r (λ a. Answers resolved.statement_view a (part z (judge_statement (enter_block s1) next)))) turns.behind told in
    let begun = subst (λ z. IfOk r (λ a. Answers resolved.statement_view a (part (leave_block z (behind (enter_block z) next)) (judge_statement (enter_block z) next)))) begins.behind inside in
    let b = behind (enter_block (counted s)) first in
    let d = leave_block b (behind (enter_block b) next) in
    let named : FirstPart → Place → ℕ → Judged Statement = λ p l n. judge_for_loop l n p f (judge_condition b.scope cond) (judge_statement (enter_block b) next) (judge_statement (enter_block d) body) in
    subst (λ z. IfOk r (λ a. Answers resolved.statement_view a (judge_statement s z))) (sym e)
    (subst (λ p. IfOk r (λ a. Answers resolved.statement_view a (named p at s.loops))) begins.part
    (subst (λ l. IfOk r (λ a. Answers resolved.statement_view a (named head.part l s.loops))) begins.at
    (subst (λ n. IfOk r (λ a. Answers resolved.statement_view a (named head.part head.at n))) begins.site begun)))

pub check_statement-returns-in_ok-next-in-For-clause-behind : goal.check_statement-returns-in_ok-next-in-For-clause-behind
check_statement-returns-in_ok-next-in-For-clause-behind t c =
    let at = c.args.stmt.now.at in
    let here = env_view c.args.walk.now in
    let first = tree_view c.in-For.first.value in
    let cond = expression_view c.in-For.cond in
    let next = tree_view c.in-For.next.value in
    let body = tree_view c.in-For.body.value in
    let e : tree_view c.args.stmt.now ≡ for_loop at first cond next body = ap (λ k. form_view k at) c.in-For.is in
    let head = c.in_ok-outer-in-For.ensures in
    let begins = rw c.deref-in-For.ensures at head.behind in
    let turns = rw c.deref-in-For-2.ensures at c.in_ok-next-in-For.ensures.behind in
    let ends = rw c.deref-in-For-3.ensures at c.check_rounds.ensures.behind in
    subst (λ z. OnOk c.check_rounds.result (env_view c.check_rounds.new.walk ≡ z)) (loop_behind here _ _ _ _ at first cond next body head.visible head.first begins turns ∙ sym (ap (behind here) e)) ends

pub check_while-returns-clause-judged : goal.check_while-returns-clause-judged
check_while-returns-clause-judged t c =
    let inner = c.in_ok-body.ensures in
    let cond = subst (λ z. Answers resolved.expression_view c.check_condition-cond.result (judge_condition z (expression_view c.args.cond.now))) (c.scope.ensures ∙ ap (λ z. z.scope) inner.behind) c.check_condition-cond.ensures in
    c.while_loop.ensures _ _ cond inner.judged

pub check_if_only-returns-clause-judged : goal.check_if_only-returns-clause-judged
check_if_only-returns-clause-judged t c =
    let inner = c.in_ok-yes_part.ensures in
    let cond = subst (λ z. Answers resolved.expression_view c.check_condition-cond.result (judge_condition z (expression_view c.args.cond.now))) (c.scope.ensures ∙ ap (λ z. z.scope) inner.behind) c.check_condition-cond.ensures in
    c.if_else.ensures _ _ _ cond inner.judged (c.boxed-no_part.ensures (fine (nothing c.args.at.line)) (ap (λ s. fine s) (sym c.nothing.ensures)))

pub check_else-returns-clause-judged : goal.check_else-returns-clause-judged
check_else-returns-clause-judged t c = λ j x.
    let s = env_view c.args.walk.now in
    let no_tree = tree_view c.args.no.now in
    let is = c.in_ok-yes_part.ensures.made in
    let inner = on_made (env_view c.check_inner.new.walk ≡ leave_block s (behind (enter_block s) no_tree)) c.check_inner.result c.in_ok-yes_part.no_part is c.check_inner.ensures.behind in
    let cond = subst (λ z. Answers resolved.expression_view c.check_condition-cond.result (judge_condition z (expression_view c.args.cond.now))) (c.scope.ensures ∙ ap (λ z. z.scope) inner) c.check_condition-cond.ensures in
    c.if_else.ensures _ j _ cond (subst (λ z. Answers boxed_view z j) (sym c.in_ok-yes_part.ensures.value) x)
    (if_made (λ (z : Result (Box Stmt Global) CheckError). Answers boxed_view z (judge_statement (enter_block s) no_tree)) c.check_inner.result c.in_ok-yes_part.no_part is c.check_inner.ensures.judged)

pub check_else-returns-clause-behind : goal.check_else-returns-clause-behind
check_else-returns-clause-behind t c =
    let s = env_view c.args.walk.now in
    on_made (env_view c.check_inner.new.walk ≡ leave_block s (behind (enter_block s) (tree_view c.args.no.now))) c.check_inner.result c.in_ok-yes_part.no_part c.in_ok-yes_part.ensures.made c.check_inner.ensures.behind

abbrev Kept : Type 0
Kept = Head × Result (Box Stmt Global) CheckError

pub check_rounds-returns-clause-judged : goal.check_rounds-returns-clause-judged
check_rounds-returns-clause-judged t c = λ f j x y.
    let s = env_view c.args.walk.now in
    let body = tree_view c.args.body.now in
    let same = c.in_ok-head.ensures.value in
    let is = c.in_ok-head.ensures.made in
    let inner = on_made (env_view c.check_inner.new.walk ≡ leave_block s (behind (enter_block s) body)) c.check_inner.result c.in_ok-head.body is c.check_inner.ensures.behind in
    let i = judge_condition s.scope (expression_view c.args.cond.now) in
    let k = judge_statement (enter_block s) body in
    let cond = subst (λ z. Answers resolved.expression_view c.check_condition-cond.result (judge_condition z (expression_view c.args.cond.now))) (c.scope.ensures ∙ ap (λ z. z.scope) inner) c.check_condition-cond.ensures in
    subst (λ (p : Kept). Answers resolved.statement_view c.for_loop.result (judge_for_loop p.0.at p.0.site.0 p.0.part f i j k)) same
    (c.for_loop.ensures f i j k (subst (λ (p : Kept). Answers boxed_view p.0.first f) (sym same) x) cond (subst (λ (p : Kept). Answers boxed_view p.1 j) (sym same) y)
    (if_made (λ (z : Result (Box Stmt Global) CheckError). Answers boxed_view z k) c.check_inner.result c.in_ok-head.body is c.check_inner.ensures.judged))

pub check_rounds-returns-clause-behind : goal.check_rounds-returns-clause-behind
check_rounds-returns-clause-behind t c =
    let s = env_view c.args.walk.now in
    c.leave_block.ensures
    ∙ ap (λ z. left z c.args.outer.visible c.args.outer.first)
    (on_made (env_view c.check_inner.new.walk ≡ leave_block s (behind (enter_block s) (tree_view c.args.body.now))) c.check_inner.result c.in_ok-head.body c.in_ok-head.ensures.made c.check_inner.ensures.behind)

pub check_statements-loop-stmt-init : goal.check_statements-loop-stmt-init
check_statements-loop-stmt-init t c =
    ([], ap (λ xs. fine (map resolved.statement_view xs)) (sym c.new.ensures.items), record { judged = refl; standing = refl })

pub check_statements-loop-stmt-preserved : goal.check_statements-loop-stmt-preserved
check_statements-loop-stmt-preserved t c =
    let s = c.stmt-item.result in
    let front = c.loop-stmt.invariant.0 in
    let is = c.in_ok-so_far.ensures.made in
    let here = judge_statement (env_view c.loop-stmt.walk) (tree_view s) in (
      front ++ here ∷ [],
      extends_answers resolved.statement_view c.loop-stmt.answers c.in_ok-so_far.answer c.and_one-answers.result front here
          (subst (λ a. Extends a c.in_ok-so_far.answer c.and_one-answers.result) c.in_ok-so_far.ensures.value c.and_one-answers.ensures) c.loop-stmt.invariant.1
          (if_made (λ (z : Result Stmt CheckError). Answers resolved.statement_view z here) c.check_statement.result c.in_ok-so_far.answer is c.check_statement.ensures.judged),
      step (env_view c.args.walk.now) (env_view c.loop-stmt.walk) (env_view c.check_statement.new.walk) (tree_views c.args.stmts.now) front c.args.stmts.now c.loop-stmt.stmt-index s
          c.loop-stmt-test.true c.stmt-item.is
          (on_made (env_view c.check_statement.new.walk ≡ behind (env_view c.loop-stmt.walk) (tree_view s)) c.check_statement.result c.in_ok-so_far.answer is c.check_statement.ensures.behind)
          c.loop-stmt.invariant.2,
    )

pub check_statements-returns-clause-judged : goal.check_statements-returns-clause-judged
check_statements-returns-clause-judged t c =
    let xs = c.args.stmts.now in
    let e = ended (env_view c.args.walk.now) (env_view c.loop-stmt.walk) (tree_views xs) c.loop-stmt.invariant.0 xs c.loop-stmt.stmt-index c.loop-stmt-test.false c.loop-stmt.invariant.2 in
    subst (λ js. Answers all_view c.loop-stmt.answers (each js)) (sym e.0) c.loop-stmt.invariant.1

pub check_statements-returns-clause-behind : goal.check_statements-returns-clause-behind
check_statements-returns-clause-behind t c =
    let xs = c.args.stmts.now in
    let e = ended (env_view c.args.walk.now) (env_view c.loop-stmt.walk) (tree_views xs) c.loop-stmt.invariant.0 xs c.loop-stmt.stmt-index c.loop-stmt-test.false c.loop-stmt.invariant.2 in
    sym e.1
