use Rattle.std.proofs.lemmas.Bool.{eqb-true}
use Rattle.ca_plan.proofs.sharing.same_place.Goals as goal

pub returns : goal.returns
returns c = λ t. (λ i. record { 0 = c.if-op-other.false i }, eqb-true c.args.line c.args.at t)
