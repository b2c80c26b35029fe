use Rattle.std.proofs.Common.{◌≡◌, length, Some, sym, ap, subst, ◌∙◌, arith}
use Rattle.std.specs.Prelude.{slice_get, slice_set}
use Rattle.ca_model.proofs.Stores.{found}
use Rattle.ca_beside.specs.declared.beside.Changed.{Changed}
use Rattle.ca_beside.specs.Beside.{with_value}
use Rattle.ca_beside.proofs.Present.{changed, same_some, indexed_set}
use Rattle.ca_beside.proofs.beside.Beside.store_at.Goals as goal

pub put_in-requires : goal.put_in-requires
put_in-requires c =
    let cs = c.self.inside.changed.items in
    let r = c.index_mut-changed.result.now in
    let many = ap length c.self.view_is in
    let here : slice_get cs c.args.place ≡ Some r = found cs c.args.place r (omega (arith, c.requires.there, many)) c.index_mut-changed.ensures.value in
    c.requires.has r (subst (λ ds. slice_get ds c.args.place ≡ Some r) c.self.view_is here)

pub invariant_of-self : goal.invariant_of-self
invariant_of-self c =
    let cs = c.self.inside.changed.items in
    let r = c.index_mut-changed.result.now in
    let many = ap length c.self.view_is in
    let here : slice_get cs c.args.place ≡ Some r = found cs c.args.place r (omega (arith, c.requires.there, many)) c.index_mut-changed.ensures.value in
    indexed_set c.self.inside.index.items cs c.args.place r c.put_in.new.object c.self.invariant here

pub returns : goal.returns
returns c = λ d there.
    let cs = c.self.inside.changed.items in
    let place = c.args.place in
    let r = c.index_mut-changed.result.now in
    let many = ap length c.self.view_is in
    let here : slice_get cs place ≡ Some r = found cs place r (omega (arith, c.requires.there, many)) c.index_mut-changed.ensures.value in
    let same : r ≡ d = same_some (slice_get cs place) r d here (subst (λ ds. slice_get ds place ≡ Some d) (sym c.self.view_is) there) in
    ap (λ ds. slice_set ds place (changed r.number c.put_in.new.object)) c.self.view_is
    ∙ (ap (λ o. slice_set c.args.self.now place (changed r.number o)) c.put_in.ensures
    ∙ ap (λ (q : Changed). slice_set c.args.self.now place (changed q.number (with_value q.object c.args.field c.args.item c.args.value))) same)
