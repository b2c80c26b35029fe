use Rattle.ca_steps.proofs.gated.GatedAccess.put.Goals as goal

pub returns : goal.returns
returns g c = record { put = c.put.ensures.put; fixed = c.put.ensures.fixed; fits = λ bs h. h }
