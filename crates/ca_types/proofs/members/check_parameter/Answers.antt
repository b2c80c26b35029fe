use Rattle.std.proofs.Common.{length, nat_eq, subst}
use Rattle.std.proofs.lemmas.Result.{err_from_is_err_and}
use Rattle.ca_program.specs.declared.program.ValueType.{ValueType}
use Rattle.ca_resolve.specs.Judged.{Finds, beside, broken_if}
use Rattle.ca_resolve.specs.declared.codes.TheConstants.{TOO_MANY_PARAMETERS, TOO_MANY_LOCALS}
use Rattle.ca_types.specs.declared.limits.TheConstants.{MOST_PARAMETERS, MOST_LOCALS}
use Rattle.ca_types.specs.Rules.{listed, parameter_limit, local_limit}
use Rattle.ca_types.specs.Statements.{judge_type}
use Rattle.ca_types.specs.clauses.View.{env_view}
use Rattle.ca_types.proofs.Answering.{besides, beside_exit}
use Rattle.ca_types.proofs.members.check_parameter.Goals as goal

pub returns-in_err-ty : goal.returns-in_err-ty
returns-in_err-ty c =
    let s = env_view c.args.walk.now in
    let at = c.args.param.now.at in
    let err = c.in_err-ty.field-0.0 in
    let j = judge_type s.scope.classes.names c.args.param.now.ty in
    let many = parameter_limit (length s.locals) at in
    let full = local_limit (length s.locals) at in
    let finds_many : Finds c.bound-many.result (listed many) = subst (λ n. Finds c.bound-many.result (listed (broken_if (nat_eq n MOST_PARAMETERS) at TOO_MANY_PARAMETERS))) c.count.ensures c.bound-many.ensures in
    let finds_full : Finds c.bound-full.result (listed full) = subst (λ n. Finds c.bound-full.result (listed (broken_if (nat_eq n MOST_LOCALS) at TOO_MANY_LOCALS))) c.count-2.ensures c.bound-full.ensures in
    let inner = besides (λ (t : ValueType). t) c.bound-full.result c.check_type-written.result c.both.result full j c.both.ensures finds_full c.check_type-written.ensures in
    let p = err_from_is_err_and c.from_residual.result c.from_residual.ensures.1 in
    rw (p.1, p.2)
    (beside_exit (λ (q : Unit {0} × ValueType). q.1) c.bound-many.result c.both.result c.both-2.result err many (beside full j) _ c.in_err-ty.was c.both-2.ensures finds_many inner)
