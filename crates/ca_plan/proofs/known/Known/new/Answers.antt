use Rattle.ca_plan.proofs.known.Known.new.Goals as goal

pub returns : goal.returns
returns c = c.in_ok-slots.ensures
