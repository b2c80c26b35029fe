use Rattle.std.proofs.Common.{◌≡◌, sym, ap, subst, ◌∙◌, rules, w64}
use Rattle.std.specs.Prelude.{slice_get, slice_set}
use Rattle.std.proofs.lemmas.Int.{to_z-of_z}
use Rattle.std.proofs.lemmas.Option.{slice_get_within}
use mir.Val.{SFits}
use Rattle.ca_model.specs.declared.value.Object.{Object}
use Rattle.ca_model.specs.declared.value.Value.TheVariants.{Long}
use Rattle.ca_model.specs.Slots.{HasItem}
use Rattle.ca_order_laws.proofs.Places.{one_some}
use Rattle.ca_beside.specs.declared.beside.Changed.{Changed}
use Rattle.ca_beside.specs.Beside.{present, with_value}
use Rattle.ca_beside.proofs.Present.{changed, set_at}
use Rattle.ca_replica.specs.InPlace.{HasCopy, HasNumber}
use Rattle.ca_replica.proofs.InPlace.{has_after_put, long_has, present_stored}
use Rattle.ca_replica.proofs.values.put_number.Goals as goal

pub store_at-requires : goal.store_at-requires
store_at-requires c =
    let cs = c.args.copies.now in
    let g = c.args.field in
    let k : HasNumber cs c.args.place c.args.n g c.requires.0 = c.requires.1 in
    record {
      there = slice_get_within cs c.args.place _ k.there;
      has = λ d e. subst (λ (z : Changed). HasItem (slice_get z.object.slots g) 0) (one_some (slice_get cs c.args.place) (changed c.args.n k.object) d k.there e) (long_has (slice_get k.object.slots g) c.requires.0 k.number);
    }

pub returns : goal.returns
returns c =
    let cs = c.args.copies.now in
    let new = c.store_at.new.self in
    let place = c.args.place in
    let n = c.args.n in
    let g = c.args.field in
    let k : HasNumber cs place n g c.requires.0 = c.requires.1 in
    let o : Object = k.object in
    let v = Long c.args.number in
    let small : SFits w64 c.args.number = search rules in
    let is : new ≡ slice_set cs place (changed n (with_value o g 0 v)) = rw (to_z-of_z w64 c.args.number small) at (c.store_at.ensures (changed n o) k.there) in
    record {
      put = λ h. ap (present h) is ∙ present_stored h cs k.apart place n o g 0 v k.there;
      at = record { object = with_value o g 0 v; there = ap (λ ds. slice_get ds place) is ∙ set_at cs place (changed n (with_value o g 0 v)) (slice_get_within cs place _ k.there) };
      has = λ m a. subst (λ ds. HasCopy ds m) (sym is) (has_after_put cs place n o (with_value o g 0 v) k.there m a);
    }
