use Rattle.std.proofs.Common.{◌≡◌, sym, ap, ◌∙◌, rules, w64}
use mir.Val.{SFits}
use Rattle.std.specs.Prelude.{slice_get}
use Rattle.std.proofs.lemmas.Int.{to_z-of_z}
use Rattle.ca_model.specs.declared.value.Value.TheVariants.{Long}
use Rattle.ca_meaning.specs.Expressions.{one_in}
use Rattle.ca_sections.proofs.Worlds.{one_long}
use Rattle.ca_sections.proofs.access.put_number.Goals as goal

pub put_over-requires : goal.put_over-requires
put_over-requires c =
    let had : SFits w64 c.in-Long.old = search rules in
    let held : one_in (slice_get c.args.slots.now c.args.field) ≡ Long c.in-Long.old = sym c.one_of.ensures ∙ c.in-Long.is in
    one_long _ _ (held ∙ ap Long (sym (to_z-of_z w64 c.in-Long.old had)))

pub returns-in-Long : goal.returns-in-Long
returns-in-Long c =
    let small : SFits w64 c.args.n = search rules in
    record { put = λ e. rw (to_z-of_z w64 c.args.n small) at (c.put_over.ensures.put e); back = c.put_over.ensures.back; there = c.put_over.ensures.there }

pub returns-in_default : goal.returns-in_default
returns-in_default c =
    let small : SFits w64 c.args.n = search rules in
    record { put = λ e. rw (to_z-of_z w64 c.args.n small) at (c.put_long_anyway.ensures.put e); back = c.put_long_anyway.ensures.back; there = c.put_long_anyway.ensures.there }
