use Rattle.ca_model.proofs.Stores.{put_is, found, slot_there}
use Rattle.ca_model.proofs.value.Slots.put.Goals as goal

pub returns : goal.returns
returns c =
    let slots = c.self.inside.items.items in
    let there = slot_there slots c.args.field c.args.item (rw (← c.self.view_is) at c.requires) in
    rw (c.put.ensures, ← c.self.view_is) (put_is slots c.args.field c.args.item c.args.value c.index_mut-slot.result.now (found slots c.args.field _ there c.index_mut-slot.ensures.value))
