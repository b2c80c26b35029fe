use Rattle.std.proofs.Common.{subst, arith}
use Rattle.std.specs.Prelude.{Contains}
use Rattle.ca_plan.proofs.Tested.{one_there}
use Rattle.ca_plan.proofs.known.kept_at.Goals as goal

pub returns-in-Some : goal.returns-in-Some
returns-in-Some c = subst (λ slot. Contains c.args.slots.now slot) c.in-Some.is (one_there c.args.slots.now c.args.place c.index-slots-place.result (omega arith) c.index-slots-place.is)
