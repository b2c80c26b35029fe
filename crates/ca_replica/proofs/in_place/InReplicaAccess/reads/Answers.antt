use Rattle.ca_replica.specs.Applied.{sums}
use Rattle.ca_replica.proofs.InPlace.{slot_same, sums_many}
use Rattle.ca_replica.proofs.in_place.InReplicaAccess.reads.Goals as goal

pub returns : goal.returns
returns g c = λ e past bs fits.
    let s = c.args.self.now in
    let ws = s.ground.extent.now.written in
    let h = s.ground.frozen.now in
    let cs = s.copies.now in
    slot_same ws h (sums ws h cs) (sums_many ws h cs) fits.constants c.args.n c.args.f (c.stays.ensures e fits.marked)
