use Rattle.ca_replica.proofs.values.own_slowly.Goals as goal

pub returns : goal.returns
returns c = c.any_value.ensures
