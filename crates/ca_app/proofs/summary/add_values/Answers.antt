use Rattle.std.proofs.Common.{◌≡◌, ◌<◌, ◌≤◌, ◌∙◌, ◌+ℤ◌, sym, ap, length, get_or, drop, pos, arith, rules, to_z, of_z}
use Rattle.std.specs.Int.{int_wrap, w64}
use Rattle.std.proofs.lemmas.Int.{to_z-of_z}
use Rattle.std.proofs.lemmas.Option.{slice_get-get_or}
use Rattle.ca_model.specs.declared.value.Value.TheVariants.{Long}
use Rattle.ca_app.specs.Summary.{sum_of}
use Rattle.ca_app.proofs.Totals.{sum_of_values, added, all_added}
use Rattle.ca_app.proofs.summary.add_values.Goals as goal

pub loop-value-preserved : goal.loop-value-preserved
loop-value-preserved c =
    let values = c.args.values.now in
    let i = c.loop-value.value-index in
    let lt : i < length values = omega arith in
    let v = get_or values i (Long (pos 0)) in
    added sum_of_values values i v (to_z w64 c.loop-value.total-bits) _ (slice_get-get_or values i (Long (pos 0)) lt) c.add_value-total.ensures ∙ c.loop-value.invariant

pub returns : goal.returns
returns c =
    let values = c.args.values.now in
    let i = c.loop-value.value-index in
    let past : length values ≤ i = omega arith in
    let kept : int_wrap w64 (to_z w64 c.loop-value.total-bits +ℤ sum_of (drop i values)) ≡ int_wrap w64 (to_z w64 (of_z w64 c.args.so_far) +ℤ sum_of values) = c.loop-value.invariant in
    sym (all_added sum_of_values values i (to_z w64 c.loop-value.total-bits) past (search rules))
    ∙ (kept ∙ ap (λ n. int_wrap w64 (n +ℤ sum_of values)) (to_z-of_z w64 c.args.so_far c.ranges.so_far))
