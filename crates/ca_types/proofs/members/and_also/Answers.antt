use Rattle.std.proofs.lemmas.Result.{err_from_is_err_and}
use Rattle.ca_program.specs.declared.program.ValueType.{ValueType}
use Rattle.ca_resolve.proofs.Judging.{both_exit}
use Rattle.ca_types.proofs.members.and_also.Goals as goal

pub returns-in_err-first : goal.returns-in_err-first
returns-in_err-first c = λ j k x y.
    let err = c.in_err-first.field-0.0 in
    let p = err_from_is_err_and c.from_residual.result c.from_residual.ensures.1 in
    rw (p.1, p.2)
    (both_exit (λ (u : Unit {0}). u) (λ (t : ValueType). t) c.args.front c.args.one c.both.result err j k _ c.in_err-first.was c.both.ensures x y)
