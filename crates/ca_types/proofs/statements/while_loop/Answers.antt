use Rattle.std.proofs.lemmas.Result.{err_from_is_err_and}
use Rattle.ca_program.specs.View as resolved
use Rattle.ca_types.specs.clauses.View.{boxed_view}
use Rattle.ca_resolve.proofs.Judging.{both_exit}
use Rattle.ca_types.proofs.statements.while_loop.Goals as goal

pub returns-in_err-cond : goal.returns-in_err-cond
returns-in_err-cond c = λ i j a b.
    let err = c.in_err-cond.field-0.0 in
    let p = err_from_is_err_and c.from_residual.result c.from_residual.ensures.1 in
    rw (p.1, p.2)
    (both_exit resolved.expression_view boxed_view c.args.cond c.args.body c.both.result err i j _ c.in_err-cond.was c.both.ensures a b)
