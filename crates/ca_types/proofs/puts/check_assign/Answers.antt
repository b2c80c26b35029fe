use Rattle.std.proofs.Common.{◌≡◌, subst, sym}
use Rattle.std.specs.Option.{option_map}
use Rattle.ca_tree.specs.View.{expression_view, right_view}
use Rattle.ca_program.specs.View.{statement_view}
use Rattle.ca_resolve.specs.Judged.{Answers}
use Rattle.ca_resolve.specs.LocalView.{ty_view}
use Rattle.ca_resolve.specs.View.{scope_view, target_view}
use Rattle.ca_types.specs.Statements.{right_ty, judge_put_target, judge_right, judge_assignment}
use Rattle.ca_types.specs.clauses.View.{env_view, source_view}
use Rattle.ca_types.proofs.puts.check_assign.Goals as goal

pub returns : goal.returns
returns c =
    let s = env_view c.args.walk.now in
    let op = c.args.op in
    let right = right_view c.args.right.now in
    let j = judge_put_target s op (expression_view c.args.target.now) in
    let k = judge_right s.scope (right_ty op j) right in
    let target : Answers target_view c.in_ok-target.target j = subst (λ z. Answers target_view z j) (sym c.in_ok-target.ensures.0) c.check_put_target.ensures in
    let wanted : option_map ty_view c.right_ty-wanted.result ≡ right_ty op j = c.right_ty-wanted.ensures j c.in_ok-target.ensures.1 target in
    let source : Answers source_view c.check_right-source.result k =
    subst (λ z. Answers source_view c.check_right-source.result (judge_right z (right_ty op j) right)) c.scope.ensures
    (subst (λ z. Answers source_view c.check_right-source.result (judge_right (scope_view c.scope.result) z right)) wanted c.check_right-source.ensures) in
    subst (λ b. Answers statement_view c.assignment.result (judge_assignment s.result b c.args.at op j k)) c.creates.ensures (c.assignment.ensures j k target source)
