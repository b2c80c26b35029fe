use Rattle.std.proofs.Common.{arith}
use Rattle.ca_deques.proofs.Grown.{taking_weight, still_drained}
use Rattle.ca_deques.proofs.Told.{not_none}
use Rattle.ca_deques.proofs.taking.take_elsewhere.Goals as goal

pub returns-in-Some-clause-taken : goal.returns-in-Some-clause-taken
returns-in-Some-clause-taken g c = λ h. omega (arith, taking_weight _ _ c.in-Some.own c.in-Some.ensures.taken h, c.open_item.ensures.taken h)

pub returns-in-Some-clause-none : goal.returns-in-Some-clause-none
returns-in-Some-clause-none g c = λ e. absurd (not_none c.open_item.result c.open_item.ensures.some e)

pub returns-in-Some-steal-clause-none : goal.returns-in-Some-steal-clause-none
returns-in-Some-steal-clause-none g c = λ e. absurd (not_none c.open_item-in-Some-steal.result c.open_item-in-Some-steal.ensures.some e)

pub returns-in-None-steal-clause-none : goal.returns-in-None-steal-clause-none
returns-in-None-steal-clause-none g c = λ _. (c.requires.empty, still_drained c.args.owner.now.hand c.pop.new.self.hand c.pop.result c.in-None.is c.pop.ensures.taken (c.pop.ensures.drained c.in-None.is))
