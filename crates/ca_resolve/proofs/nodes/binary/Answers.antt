use Rattle.std.proofs.lemmas.Result.{err_from_is_err_and}
use Rattle.ca_resolve.specs.View.{value_view}
use Rattle.ca_resolve.proofs.Judging.{both_exit}
use Rattle.ca_resolve.proofs.nodes.binary.Goals as goal

pub returns-in_err-left : goal.returns-in_err-left
returns-in_err-left c =
    let p = err_from_is_err_and c.from_residual.result c.from_residual.ensures.1 in
    λ j k h l. rw (p.1, p.2) (both_exit value_view value_view c.args.left c.args.right c.both.result c.in_err-left.field-0.0 j k _ c.in_err-left.was c.both.ensures h l)
