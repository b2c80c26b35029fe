use Rattle.std.proofs.Common.{◌≡◌, Some}
use Rattle.std.specs.Prelude.{slice_get}
use Rattle.ca_model.specs.Counted.{IsLike}
use Rattle.ca_model.proofs.Stores.{found, like_there, same_lens, still_counted}
use Rattle.ca_model.proofs.heap.Heap.replace.Goals as goal

pub invariant_of-self : goal.invariant_of-self
invariant_of-self c =
    let objects = c.self.inside.objects.items in
    let like : IsLike (slice_get objects c.args.id) c.args.object = rw (← c.self.view_is) at c.requires in
    let old = c.index_mut.result.now in
    let there : slice_get objects c.args.id ≡ Some old = found objects c.args.id _ (like_there objects c.args.id _ like) c.index_mut.ensures.value in
    let same : IsLike (Some old) c.args.object = rw there at like in
    rw c.replace.ensures.after (still_counted objects c.self.inside.values c.args.id old c.args.object there (same_lens _ _ same.1) c.self.invariant)

pub returns-clause-old : goal.returns-clause-old
returns-clause-old c =
    let objects = c.self.inside.objects.items in
    rw (c.replace.ensures.value, ← c.self.view_is) (found objects c.args.id _ (like_there objects c.args.id _ (rw (← c.self.view_is) at c.requires)) c.index_mut.ensures.value)
