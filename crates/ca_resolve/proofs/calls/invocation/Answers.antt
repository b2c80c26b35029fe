use Rattle.std.proofs.lemmas.Result.{err_from_is_err_and}
use Rattle.ca_program.specs.View.{expression_view}
use Rattle.ca_resolve.specs.Judged.{each}
use Rattle.ca_resolve.specs.View.{values_view}
use Rattle.ca_resolve.proofs.Judging.{both_exit}
use Rattle.ca_resolve.proofs.calls.invocation.Goals as goal

pub returns-in_err-receiver : goal.returns-in_err-receiver
returns-in_err-receiver c =
    let p = err_from_is_err_and c.from_residual.result c.from_residual.ensures.1 in
    λ j k js h m l. rw (p.1, p.2) (both_exit expression_view values_view c.args.receiver c.args.arguments c.both.result c.in_err-receiver.field-0.0 j (each js) _ c.in_err-receiver.was c.both.ensures h l)
