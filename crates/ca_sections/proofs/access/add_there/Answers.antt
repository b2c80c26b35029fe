use Rattle.std.proofs.Common.{◌≡◌, refl, sym, ap, ◌∙◌, subst, rules, w64}
use mir.Val.{SFits}
use Rattle.std.specs.Prelude.{slice_get}
use Rattle.std.proofs.lemmas.Int.{to_z-of_z}
use Rattle.ca_model.specs.declared.value.Value.TheVariants.{Long}
use Rattle.ca_meaning.specs.Expressions.{one_in}
use Rattle.ca_steps.specs.Telling.{Adds}
use Rattle.ca_steps.proofs.Loading.{some_by}
use Rattle.ca_sections.proofs.Worlds.{one_long}
use Rattle.ca_sections.proofs.access.add_there.Goals as goal

pub add_to-requires : goal.add_to-requires
add_to-requires c =
    let had : SFits w64 c.in-Long.old = search rules in
    let held : one_in (slice_get c.args.slots.now c.args.field) ≡ Long c.in-Long.old = sym c.one_of.ensures ∙ c.in-Long.is in
    one_long _ _ (held ∙ ap Long (sym (to_z-of_z w64 c.in-Long.old had)))

pub returns-in-Long : goal.returns-in-Long
returns-in-Long c =
    let had : SFits w64 c.in-Long.old = search rules in
    let n : SFits w64 c.args.n = search rules in
    let held : one_in (slice_get c.args.slots.now c.args.field) ≡ Long c.in-Long.old = sym c.one_of.ensures ∙ c.in-Long.is in
    let adds = rw (to_z-of_z w64 c.in-Long.old had, to_z-of_z w64 c.args.n n) at c.add_to.ensures.adds in
    record {
      adds = some_by _ _ c.add_to.result (λ m h. subst (λ v. Adds v c.args.n m) (sym held) h) adds;
      put = c.add_to.ensures.put;
      back = c.add_to.ensures.back;
      there = c.add_to.ensures.there;
    }

pub returns-in_default : goal.returns-in_default
returns-in_default c = record { adds = tt; put = tt; back = refl; there = λ t. t }
