use Rattle.ca_replica.proofs.Taking.{taken_over}
use Rattle.ca_replica.proofs.adding.take_over.Goals as goal

pub returns : goal.returns
returns c =
    let first = c.get.result.now in
    taken_over c.args.written.now c.requires.once c.args.copy.number c.args.copy.object first c.args.heap.now c.args.beside.now c.add.new.self c.add_slots.new.slots
    c.requires.absent c.get.ensures (c.requires.whole first c.get.ensures) c.add_slots.ensures c.in_ok-add.ensures.added
