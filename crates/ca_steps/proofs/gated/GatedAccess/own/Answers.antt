use Rattle.ca_steps.proofs.gated.GatedAccess.own.Goals as goal

pub returns : goal.returns
returns g c = c.own.ensures
