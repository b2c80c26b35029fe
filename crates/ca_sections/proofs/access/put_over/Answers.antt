use Rattle.std.proofs.Common.{ap, ◌∙◌, rules, w64}
use mir.Val.{SFits}
use Rattle.std.proofs.lemmas.Int.{to_z-of_z}
use Rattle.ca_model.specs.declared.value.Value.TheVariants.{Long}
use Rattle.ca_model.specs.Slots.{put_slot}
use Rattle.ca_sections.proofs.access.put_over.Goals as goal

pub put_number-requires : goal.put_number-requires
put_number-requires c =
    let had : SFits w64 c.args.old = search rules in
    rw (to_z-of_z w64 c.args.old had) c.requires

pub returns-then-put_number : goal.returns-then-put_number
returns-then-put_number c =
    let small : SFits w64 c.args.n = search rules in
    record { put = λ e. rw (to_z-of_z w64 c.args.n small) at (c.put_number.ensures.put c.if-put_number.true); back = c.put_number.ensures.back; there = c.put_number.ensures.there }

pub returns : goal.returns
returns c =
    let small : SFits w64 c.args.n = search rules in
    let kept = c.put_number.ensures.kept c.if-put_number.false in
    record {
      put = λ e. rw (to_z-of_z w64 c.args.n small) at (c.put_long_anyway.ensures.put e) ∙ ap (λ ss. put_slot ss c.args.field 0 (Long c.args.n)) kept;
      back = c.put_long_anyway.ensures.back ∙ c.put_number.ensures.back;
      there = λ t. c.put_long_anyway.ensures.there (c.put_number.ensures.there t);
    }
