use Rattle.std.proofs.Common.{◌≡◌, sym, ap, ◌∙◌, rules, w64}
use Rattle.std.specs.Prelude.{slice_get}
use Rattle.std.proofs.lemmas.Int.{to_z-of_z}
use Rattle.std.proofs.lemmas.Option.{slice_get_within}
use mir.Val.{SFits}
use Rattle.ca_model.specs.declared.value.Object.{Object}
use Rattle.ca_model.specs.declared.value.Value.TheVariants.{Long}
use Rattle.ca_meaning.specs.Expressions.{one_in}
use Rattle.ca_beside.proofs.Present.{changed}
use Rattle.ca_replica.proofs.values.number_there.Goals as goal

pub object_at-object-requires : goal.object_at-object-requires
object_at-object-requires c = slice_get_within c.args.copies.now c.args.place _ c.requires.there

pub returns : goal.returns
returns c =
    let o = c.requires.object in
    let g = c.args.field in
    let had : SFits w64 c.in-Long.a = search rules in
    let at = c.object_at-object.ensures (changed c.args.n o) c.requires.there in
    let own : one_in (slice_get o.slots g) ≡ Long c.in-Long.a = sym (c.one_of-own.ensures ∙ ap (λ (z : Object). one_in (slice_get z.slots g)) at) ∙ c.in-Long.is in
    record { object = o; there = c.requires.there; apart = c.know_apart.ensures; number = own ∙ ap Long (sym (to_z-of_z w64 c.in-Long.a had)) }
