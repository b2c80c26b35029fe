use Rattle.ca_canonical.proofs.classes.write_result.Goals as goal

pub returns-in-None : goal.returns-in-None
returns-in-None c = rw c.in-None.is c.key.ensures

pub returns-in-Some : goal.returns-in-Some
returns-in-Some c = rw c.in-Some.is c.write_type.ensures
