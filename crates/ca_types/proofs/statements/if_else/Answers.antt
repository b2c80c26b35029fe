use Rattle.std.proofs.Common.{Box, Global}
use Rattle.std.proofs.lemmas.Result.{err_from_is_err_and}
use Rattle.ca_program.specs.declared.program.Stmt.{Stmt}
use Rattle.ca_program.specs.View as resolved
use Rattle.ca_resolve.specs.Judged.{both}
use Rattle.ca_types.specs.clauses.View.{boxed_view}
use Rattle.ca_resolve.proofs.Judging.{both_exit}
use Rattle.ca_types.proofs.Answering.{joined}
use Rattle.ca_types.proofs.statements.if_else.Goals as goal

pub returns-in_err-cond : goal.returns-in_err-cond
returns-in_err-cond c = λ i j k a b d.
    let err = c.in_err-cond.field-0.0 in
    let branches = joined boxed_view boxed_view c.args.yes_part c.args.no_part c.both.result j k c.both.ensures b d in
    let p = err_from_is_err_and c.from_residual.result c.from_residual.ensures.1 in
    rw (p.1, p.2)
    (both_exit resolved.expression_view (λ (q : Box Stmt Global × Box Stmt Global). (boxed_view q.0, boxed_view q.1)) c.args.cond c.both.result c.both-2.result err i (both j k) _ c.in_err-cond.was c.both-2.ensures a branches)
