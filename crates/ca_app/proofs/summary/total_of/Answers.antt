use Rattle.std.proofs.Common.{◌≡◌, ◌≤◌, ◌∙◌, ◌+ℤ◌, sym, ap, length, drop, arith, rules, to_z}
use Rattle.std.specs.Int.{int_wrap, w64}
use Rattle.std.proofs.Math.IntN.{+ℤ_idl}
use Rattle.ca_app.specs.Summary.{sum_of, values_of, total_of}
use Rattle.ca_app.proofs.Totals.{sum_of_objects, added, all_added}
use Rattle.ca_app.proofs.summary.total_of.Goals as goal

pub loop-id-init : goal.loop-id-init
loop-id-init c = ap (int_wrap w64) (+ℤ_idl (sum_of (values_of c.args.heap.now)))

pub loop-id-preserved : goal.loop-id-preserved
loop-id-preserved c =
    added sum_of_objects c.args.heap.now c.loop-id.id _ (to_z w64 c.loop-id.total-bits) _ c.get.ensures (rw c.as_slice.ensures at c.add_fields-total.ensures) ∙ c.loop-id.invariant

pub returns : goal.returns
returns c =
    let heap = c.args.heap.now in
    let past : length heap ≤ c.loop-id.id = omega arith in
    let kept : int_wrap w64 (to_z w64 c.loop-id.total-bits +ℤ sum_of (values_of (drop c.loop-id.id heap))) ≡ total_of heap = c.loop-id.invariant in
    sym (all_added sum_of_objects heap c.loop-id.id (to_z w64 c.loop-id.total-bits) past (search rules)) ∙ kept
