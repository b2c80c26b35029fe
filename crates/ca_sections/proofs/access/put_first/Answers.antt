use Rattle.std.proofs.Common.{ap, ◌∙◌, rules, w64}
use mir.Val.{SFits}
use Rattle.std.proofs.lemmas.Int.{to_z-of_z}
use Rattle.ca_model.specs.declared.value.Value.TheVariants.{Long}
use Rattle.ca_model.specs.Slots.{put_slot}
use Rattle.ca_sections.proofs.access.put_first.Goals as goal

pub returns-then-put_again : goal.returns-then-put_again
returns-then-put_again c =
    let small : SFits w64 c.args.n = search rules in
    record { put = λ e. rw (to_z-of_z w64 c.args.n small) at (c.put_again.ensures.put c.if-put_again.true); back = c.put_again.ensures.back; there = c.put_again.ensures.there }

pub returns : goal.returns
returns c =
    let small : SFits w64 c.args.n = search rules in
    let kept = c.put_again.ensures.kept c.if-put_again.false in
    record {
      put = λ e. rw (to_z-of_z w64 c.args.n small) at (c.put_number.ensures.put e) ∙ ap (λ ss. put_slot ss c.args.field 0 (Long c.args.n)) kept;
      back = c.put_number.ensures.back ∙ c.put_again.ensures.back;
      there = λ t. c.put_number.ensures.there (c.put_again.ensures.there t);
    }
