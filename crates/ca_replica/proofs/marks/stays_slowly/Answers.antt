use Rattle.ca_replica.proofs.marks.stays_slowly.Goals as goal

pub returns : goal.returns
returns c = c.stays.ensures
