use Rattle.std.proofs.Common.{sym, subst}
use Rattle.std.proofs.lemmas.Result.{err_from_is_err_and}
use Rattle.ca_tree.specs.View.{expression_view as node_view}
use Rattle.ca_resolve.specs.Judged.{Answers, within}
use Rattle.ca_resolve.specs.Scopes.{long}
use Rattle.ca_resolve.specs.Rules.{is_target}
use Rattle.ca_resolve.specs.Values.{judge_found, judge_for}
use Rattle.ca_resolve.specs.View.{found_view, scope_view, target_view}
use Rattle.ca_resolve.proofs.Judging.{one_exit, one_fine}
use Rattle.ca_resolve.proofs.Shapes.{item_aimed, found_aimed}
use Rattle.ca_resolve.proofs.targets.check_target.Goals as goal

pub returns-in-Index : goal.returns-in-Index
returns-in-Index c =
    let s = scope_view c.args.scope.now in
    let x = c.deref.result.now in
    let y = c.deref-in-Index.result.now in
    item_aimed s c.args.e.now.kind c.args.e.now.at c.in-Index.array c.in-Index.index x y c.item_target.result c.in-Index.is c.deref.ensures c.deref-in-Index.ensures
    (c.item_target.ensures (judge_found s (node_view x)) (judge_for s long (node_view y)) c.check_found-array.ensures c.check_for.ensures)

pub returns-in_err-found-in_default : goal.returns-in_err-found-in_default
returns-in_err-found-in_default c =
    let s = scope_view c.args.scope.now in
    let e = c.args.e.now in
    let p = err_from_is_err_and c.from_residual.result c.from_residual.ensures.1 in
    let told : Answers target_view c.from_residual.result (within (judge_found s (node_view e)) (λ f. is_target f e.at)) =
    rw (p.1, p.2) (one_exit found_view c.check_found.result c.in_err-found-in_default.field-0.0 (judge_found s (node_view e)) (λ f. is_target f e.at) c.in_err-found-in_default.was c.check_found.ensures) in
    subst (λ j. Answers target_view c.from_residual.result j) (sym (found_aimed s e.kind e.at c.in_default.not-Index)) told

pub returns-in_ok-found-in_default : goal.returns-in_ok-found-in_default
returns-in_ok-found-in_default c =
    let s = scope_view c.args.scope.now in
    let e = c.args.e.now in
    let is = one_fine found_view c.check_found.result c.in_ok-found-in_default.found (judge_found s (node_view e)) c.in_ok-found-in_default.was c.check_found.ensures in
    subst (λ j. Answers target_view c.target-answer.result j) (sym (found_aimed s e.kind e.at c.in_default.not-Index))
    (subst (λ j. Answers target_view c.target-answer.result (within j (λ f. is_target f e.at))) (sym is) c.target-answer.ensures)
