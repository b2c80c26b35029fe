use Rattle.ca_resolve.proofs.Judging.{left_joins, both_join}
use Rattle.ca_resolve.proofs.errors.both.Goals as goal
use Rattle.ca_resolve.proofs.errors.both.Goals.{in-Ok-b-2, in-Err-b-2}

pub returns-after-b-2 : goal.returns-after-b-2
returns-after-b-2 g c =
    elim c.match-b-2.branch [
      | in-Ok-b-2 w ↦ left_joins c.args.a c.args.b c.match-b-2.result c.in-Err.d w.in-Ok-b-2.field-0 c.in-Err.is w.in-Ok-b-2.is w.result-is
      | in-Err-b-2 w ↦ both_join c.args.a c.args.b c.match-b-2.result c.in-Err.d w.in-Err-b-2.e w.lesser.result c.in-Err.is w.in-Err-b-2.is w.result-is w.lesser.ensures
    ]
