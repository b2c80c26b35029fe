use Rattle.std.proofs.Common.{◌≡◌, sym, ap, ◌∙◌, rules, w64}
use mir.Val.{SFits}
use Rattle.std.proofs.lemmas.Int.{to_z-of_z}
use Rattle.ca_model.specs.declared.value.Value.TheVariants.{Long}
use Rattle.ca_model.specs.Slots.{put_slot}
use Rattle.ca_sections.proofs.access.put_there.Goals as goal

pub returns-then-item-eq0 : goal.returns-then-item-eq0
returns-then-item-eq0 c =
    let slots = c.args.slots.now in
    let small : SFits w64 c.in-Long.n = search rules in
    let same : put_slot slots c.args.field 0 (Long c.in-Long.n) ≡ put_slot slots c.args.field c.args.item c.args.value =
    ap (λ v. put_slot slots c.args.field 0 v) (sym c.in-Long.is) ∙ ap (λ i. put_slot slots c.args.field i c.args.value) (sym c.if-item-eq0.true) in
    record {
      put = λ e. rw (to_z-of_z w64 c.in-Long.n small) at (c.put_first.ensures.put e) ∙ same;
      back = c.put_first.ensures.back;
      there = c.put_first.ensures.there;
    }

pub returns-else-item-eq0 : goal.returns-else-item-eq0
returns-else-item-eq0 c =
    record {
      put = λ e. c.put_value.ensures.put e ∙ ap (put_slot c.args.slots.now c.args.field c.args.item) (sym c.in-Long.is);
      back = c.put_value.ensures.back;
      there = c.put_value.ensures.there;
    }

pub returns-in_default : goal.returns-in_default
returns-in_default c =
    record { put = c.put_value-in_default.ensures.put; back = c.put_value-in_default.ensures.back; there = c.put_value-in_default.ensures.there }
