use Rattle.std.proofs.Common.{◌≡◌, sym, subst, true≢false, ◌∙◌}
use Rattle.std.proofs.lemmas.Option.{slice_get_within}
use Rattle.std.specs.Prelude.{slice_get, slice_set}
use Rattle.ca_model.specs.declared.value.Object.{Object}
use Rattle.ca_model.specs.Slots.{HasItem}
use Rattle.ca_order_laws.proofs.Places.{one_some}
use Rattle.ca_beside.specs.declared.beside.Changed.{Changed}
use Rattle.ca_beside.specs.Beside.{with_value}
use Rattle.ca_beside.proofs.Present.{changed}
use Rattle.ca_replica.specs.InPlace.{HasCopy}
use Rattle.ca_replica.proofs.InPlace.{back_nowhere, back_there, has_after_put}
use Rattle.ca_replica.proofs.values.put_back_at.Goals as goal

pub object_at-object-requires : goal.object_at-object-requires
object_at-object-requires c = slice_get_within c.args.copies.now c.args.place _ c.requires.there

pub store_at-requires : goal.store_at-requires
store_at-requires c =
    let cs = c.args.copies.now in
    let old = c.args.old in
    let there = c.requires.there in
    record {
      there = slice_get_within cs c.args.place _ there;
      has = λ d e.
          subst (λ (z : Changed). HasItem (slice_get z.object.slots old.field) old.item) (one_some (slice_get cs c.args.place) (changed old.object c.requires.object) d there e)
          (subst (λ (o : Object). HasItem (slice_get o.slots old.field) old.item) (c.object_at-object.ensures (changed old.object c.requires.object) there) (c.has.ensures.0 c.if-has.true));
    }

pub returns-then-has : goal.returns-then-has
returns-then-has c =
    let cs = c.args.copies.now in
    let new = c.store_at.new.self in
    let old = c.args.old in
    let o = c.requires.object in
    let there = c.requires.there in
    let at = c.object_at-object.ensures (changed old.object o) there in
    let is : new ≡ slice_set cs c.args.place (changed old.object (with_value o old.field old.item old.value)) = c.store_at.ensures (changed old.object o) there in
    let has : HasItem (slice_get o.slots old.field) old.item = subst (λ (z : Object). HasItem (slice_get z.slots old.field) old.item) at (c.has.ensures.0 c.if-has.true) in
    record {
      back = λ h. back_there h cs new c.know_apart.ensures c.args.place o old there is has;
      has = λ m h. subst (λ ds. HasCopy ds m) (sym is) (has_after_put cs c.args.place old.object o (with_value o old.field old.item old.value) there m h);
    }

pub returns-else-has : goal.returns-else-has
returns-else-has c =
    let cs = c.args.copies.now in
    let old = c.args.old in
    let o = c.requires.object in
    let there = c.requires.there in
    let at = c.object_at-object.ensures (changed old.object o) there in
    record {
      back = λ h. back_nowhere h cs c.know_apart.ensures c.args.place o old there (λ i. true≢false (sym (c.has.ensures.1 (subst (λ (z : Object). HasItem (slice_get z.slots old.field) old.item) (sym at) i)) ∙ c.if-has.false));
      has = λ m h. h;
    }
