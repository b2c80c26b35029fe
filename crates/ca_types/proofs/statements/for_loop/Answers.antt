use Rattle.std.proofs.Common.{◌≡◌, Box, Global, subst, ap}
use Rattle.std.proofs.lemmas.Result.{err_from_is_err_and}
use Rattle.ca_program.specs.declared.program.Expr.{Expr}
use Rattle.ca_program.specs.declared.program.Stmt.{Stmt}
use Rattle.ca_program.specs.Plain as program
use Rattle.ca_program.specs.View as resolved
use Rattle.ca_resolve.specs.Judged.{Answers, Judged, fine, both, beside, within}
use Rattle.ca_types.specs.Rules.{loop_limit}
use Rattle.ca_types.specs.clauses.View.{boxed_view}
use Rattle.ca_types.proofs.Answering.{joined, besides, beside_exit}
use Rattle.ca_types.proofs.statements.for_loop.Goals as goal

abbrev Plain : Type 0
Plain = (program.Statement × program.Expression) × (program.Statement × program.Statement)

abbrev plain : (Box Stmt Global × Expr) × (Box Stmt Global × Box Stmt Global) → Plain
plain p = ((boxed_view p.0.0, resolved.expression_view p.0.1), (boxed_view p.1.0, boxed_view p.1.1))

pub returns-in_err-first : goal.returns-in_err-first
returns-in_err-first c = λ f i j k x y z w.
    let head = c.args.head in
    let err = c.in_err-first.field-0.0 in
    let limit = loop_limit head.site.0 head.at in
    let left = joined boxed_view resolved.expression_view head.first c.args.cond c.both.result f i c.both.ensures x y in
    let right = joined boxed_view boxed_view c.args.next c.args.body c.both-2.result j k c.both-2.ensures z w in
    let all = joined (λ (q : Box Stmt Global × Expr). (boxed_view q.0, resolved.expression_view q.1)) (λ (q : Box Stmt Global × Box Stmt Global). (boxed_view q.0, boxed_view q.1)) c.both.result c.both-2.result c.both-parts.result (both f i) (both j k) c.both-parts.ensures left right in
    let p = err_from_is_err_and c.from_residual.result c.from_residual.ensures.1 in
    rw (p.1, p.2)
    (beside_exit plain c.bound-passed.result c.both-parts.result c.both-3.result err limit (both (both f i) (both j k)) _ c.in_err-first.was c.both-3.ensures c.bound-passed.ensures all)

pub returns : goal.returns
returns c = λ f i j k x y z w.
    let head = c.args.head in
    let limit = loop_limit head.site.0 head.at in
    let left = joined boxed_view resolved.expression_view head.first c.args.cond c.both.result f i c.both.ensures x y in
    let right = joined boxed_view boxed_view c.args.next c.args.body c.both-2.result j k c.both-2.ensures z w in
    let all = joined (λ (q : Box Stmt Global × Expr). (boxed_view q.0, resolved.expression_view q.1)) (λ (q : Box Stmt Global × Box Stmt Global). (boxed_view q.0, boxed_view q.1)) c.both.result c.both-2.result c.both-parts.result (both f i) (both j k) c.both-parts.ensures left right in
    let parts = beside limit (both (both f i) (both j k)) in
    let known : parts ≡ fine (plain ((c.in_ok-first.first, c.in_ok-first.cond), (c.in_ok-first.next, c.in_ok-first.body))) =
    subst (λ r. Answers (λ (p : Unit {0} × ((Box Stmt Global × Expr) × (Box Stmt Global × Box Stmt Global))). plain p.1) r parts) c.in_ok-first.was
    (besides plain c.bound-passed.result c.both-parts.result c.both-3.result limit (both (both f i) (both j k)) c.both-3.ensures c.bound-passed.ensures all) in
    ap (λ (r : Judged Plain). within r (λ p. fine (program.for_loop head.at.line head.site head.part p.0.0 p.0.1 p.1.0 p.1.1))) known
