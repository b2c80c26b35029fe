use Rattle.std.proofs.Common.{◌≡◌, Some, sym}
use Rattle.std.specs.Prelude.{slice_get}
use Rattle.ca_model.proofs.Stores.{found, still_counted, object_there, slot_lens, stored_is}
use Rattle.ca_model.proofs.heap.Heap.store.Goals as goal

pub invariant_of-self : goal.invariant_of-self
invariant_of-self c =
    let objects = c.self.inside.objects.items in
    let o = c.index_mut-object.result.now in
    let there : slice_get objects c.args.id ≡ Some o = found objects c.args.id o (object_there objects c.args.id c.args.field c.args.item (rw (← c.self.view_is) at c.requires)) c.index_mut-object.ensures.value in
    rw c.put.ensures (still_counted objects c.self.inside.values c.args.id o _ there (sym (slot_lens o.slots c.args.field c.args.item c.args.value)) c.self.invariant)

pub returns : goal.returns
returns c =
    let objects = c.self.inside.objects.items in
    let o = c.index_mut-object.result.now in
    let there : slice_get objects c.args.id ≡ Some o = found objects c.args.id o (object_there objects c.args.id c.args.field c.args.item (rw (← c.self.view_is) at c.requires)) c.index_mut-object.ensures.value in
    rw (c.put.ensures, ← c.self.view_is) (stored_is objects c.args.id c.args.field c.args.item c.args.value o there)
