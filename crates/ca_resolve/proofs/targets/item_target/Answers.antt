use Rattle.std.proofs.lemmas.Result.{err_from_is_err_and}
use Rattle.ca_program.specs.View.{expression_view}
use Rattle.ca_resolve.specs.View.{found_view}
use Rattle.ca_resolve.proofs.Judging.{both_exit}
use Rattle.ca_resolve.proofs.targets.item_target.Goals as goal

pub returns-in_err-array : goal.returns-in_err-array
returns-in_err-array c =
    let p = err_from_is_err_and c.from_residual.result c.from_residual.ensures.1 in
    λ j k h l. rw (p.1, p.2) (both_exit found_view expression_view c.args.array c.args.index c.both.result c.in_err-array.field-0.0 j k _ c.in_err-array.was c.both.ensures h l)
