use Rattle.std.proofs.lemmas.Result.{err_from_is_err_and}
use Rattle.ca_resolve.proofs.errors.and_one.Goals as goal

pub returns-in_err-values : goal.returns-in_err-values
returns-in_err-values g c =
    let p = err_from_is_err_and c.from_residual.result c.from_residual.ensures.1 in
    rw (p.1, p.2) c.in_err-values.ensures
