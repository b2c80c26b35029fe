use Rattle.std.proofs.Common.{ap, ◌∙◌}
use Rattle.ca_model.specs.Slots.{put_slot}
use Rattle.ca_sections.proofs.access.put_value.Goals as goal

pub returns-then-put_at_hand : goal.returns-then-put_at_hand
returns-then-put_at_hand c =
    record { put = λ e. c.put_at_hand.ensures.put c.if-put_at_hand.true; back = c.put_at_hand.ensures.back; there = c.put_at_hand.ensures.there }

pub returns : goal.returns
returns c =
    let kept = c.put_at_hand.ensures.kept c.if-put_at_hand.false in
    record {
      put = λ e. c.put_anyway.ensures.put e ∙ ap (λ ss. put_slot ss c.args.field c.args.item c.args.value) kept;
      back = c.put_anyway.ensures.back ∙ c.put_at_hand.ensures.back;
      there = λ t. c.put_anyway.ensures.there (c.put_at_hand.ensures.there t);
    }
