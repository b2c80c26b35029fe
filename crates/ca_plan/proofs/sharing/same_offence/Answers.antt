use Rattle.std.proofs.Common.{rules, ◌≡◌}
use Rattle.ca_plan.proofs.Knowing.{one_offence}
use Rattle.ca_plan.proofs.sharing.same_offence.Goals as goal

pub returns-then-eq : goal.returns-then-eq
returns-then-eq c =
    let e : c.args.why ≡ c.args.what = search rules in
    λ t. let place = c.same_place.ensures t in one_offence c.args.op c.args.other c.args.line c.args.at c.args.why c.args.what place.0 place.1 e
