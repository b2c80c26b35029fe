use Rattle.ca_replica.proofs.InPlace.{copy_is}
use Rattle.ca_replica.proofs.values.put_back.Goals as goal

pub returns-in-Some : goal.returns-in-Some
returns-in-Some c = c.put_back_at.ensures

pub returns-in-None : goal.returns-in-None
returns-in-None c = record { back = λ h. absurd (copy_is c.args.copies.now c.args.old.object c.in-None.ensures c.requires); has = λ m h. h }
