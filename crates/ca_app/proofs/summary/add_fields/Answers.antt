use Rattle.std.proofs.Common.{◌≡◌, ◌<◌, ◌≤◌, ◌∙◌, ◌+ℤ◌, sym, ap, length, drop, arith, rules, to_z, of_z}
use Rattle.std.specs.Int.{int_wrap, w64}
use Rattle.std.proofs.lemmas.Int.{to_z-of_z}
use Rattle.ca_app.specs.Summary.{sum_of, fields_of}
use Rattle.ca_app.proofs.Totals.{sum_of_fields, added, all_added}
use Rattle.ca_model.proofs.Stores.{found}
use Rattle.ca_app.proofs.summary.add_fields.Goals as goal

pub loop-slot-preserved : goal.loop-slot-preserved
loop-slot-preserved c =
    let slots = c.args.slots.now in
    let i = c.loop-slot.slot-index in
    let lt : i < length slots = omega arith in
    added sum_of_fields slots i _ (to_z w64 c.loop-slot.total-bits) _ (found slots i _ lt c.slot-item.is) c.add_field-total.ensures ∙ c.loop-slot.invariant

pub returns : goal.returns
returns c =
    let slots = c.args.slots.now in
    let i = c.loop-slot.slot-index in
    let past : length slots ≤ i = omega arith in
    let kept : int_wrap w64 (to_z w64 c.loop-slot.total-bits +ℤ sum_of (fields_of (drop i slots))) ≡ int_wrap w64 (to_z w64 (of_z w64 c.args.so_far) +ℤ sum_of (fields_of slots)) = c.loop-slot.invariant in
    sym (all_added sum_of_fields slots i (to_z w64 c.loop-slot.total-bits) past (search rules))
    ∙ (kept ∙ ap (λ n. int_wrap w64 (n +ℤ sum_of (fields_of slots))) (to_z-of_z w64 c.args.so_far c.ranges.so_far))
