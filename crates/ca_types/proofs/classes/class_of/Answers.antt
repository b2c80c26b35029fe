use Rattle.std.proofs.lemmas.Result.{err_from_is_err_and}
use Rattle.ca_types.specs.clauses.View.{members_view}
use Rattle.ca_types.proofs.Answering.{beside_exit}
use Rattle.ca_types.proofs.classes.class_of.Goals as goal

pub returns-in_err-members : goal.returns-in_err-members
returns-in_err-members c = λ v w j x y z.
    let err = c.in_err-members.field-0.0 in
    let p = err_from_is_err_and c.from_residual.result c.from_residual.ensures.1 in
    rw (p.1, p.2)
    (beside_exit members_view c.args.passed c.args.members c.both.result err v j _ c.in_err-members.was c.both.ensures x y)
