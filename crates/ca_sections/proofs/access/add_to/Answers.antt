use Rattle.std.proofs.Common.{◌≡◌, sym, ap, ◌∙◌, subst, rules, w64}
use mir.Val.{SFits}
use Rattle.std.proofs.lemmas.Int.{to_z-of_z}
use Rattle.ca_model.specs.declared.value.Value.TheVariants.{Long}
use Rattle.ca_model.specs.Slots.{put_slot}
use Rattle.ca_steps.specs.Telling.{Adds}
use Rattle.ca_steps.proofs.Loading.{some_by}
use Rattle.ca_sections.proofs.access.add_to.Goals as goal

pub put_number-requires : goal.put_number-requires
put_number-requires c =
    let had : SFits w64 c.args.old = search rules in
    rw (to_z-of_z w64 c.args.old had) c.requires

pub returns-then-put_number : goal.returns-then-put_number
returns-then-put_number c =
    let sum = c.sum_of-sum.result in
    let had : SFits w64 c.args.old = search rules in
    let more : SFits w64 c.args.n = search rules in
    let small : SFits w64 sum = search rules in
    let total : Adds (Long c.args.old) c.args.n sum = rw (to_z-of_z w64 c.args.old had, to_z-of_z w64 c.args.n more) at c.sum_of-sum.ensures in
    record {
      adds = subst (λ m. Adds (Long c.args.old) c.args.n m) (sym (to_z-of_z w64 sum small)) total;
      put = c.put_number.ensures.put c.if-put_number.true;
      back = c.put_number.ensures.back;
      there = c.put_number.ensures.there;
    }

pub returns : goal.returns
returns c =
    let sum = c.sum_of-sum.result in
    let had : SFits w64 c.args.old = search rules in
    let more : SFits w64 c.args.n = search rules in
    let small : SFits w64 sum = search rules in
    let total : Adds (Long c.args.old) c.args.n sum = rw (to_z-of_z w64 c.args.old had, to_z-of_z w64 c.args.n more) at c.sum_of-sum.ensures in
    let kept = c.put_number.ensures.kept c.if-put_number.false in
    let put = rw (to_z-of_z w64 sum small) at c.put_slowly.ensures.put in
    record {
      adds = some_by _ _ c.put_slowly.result (λ m h. subst (λ m. Adds (Long c.args.old) c.args.n m) (sym h.0) total) put;
      put = some_by _ _ c.put_slowly.result (λ m h. subst (λ m. c.put_slowly.new.slots ≡ put_slot c.args.slots.now c.args.field 0 (Long m)) (sym h.0) (h.1 ∙ ap (λ ss. put_slot ss c.args.field 0 (Long sum)) kept)) put;
      back = c.put_slowly.ensures.back ∙ c.put_number.ensures.back;
      there = λ t. c.put_slowly.ensures.there (c.put_number.ensures.there t);
    }
