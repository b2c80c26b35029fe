use Rattle.std.proofs.Common.{◌≡◌, ◌<◌, ◌∙◌, length, refl, ap, subst, rules, w64, arith}
use mir.Val.{SFits, of_z, to_z}
use Rattle.ca_model.specs.declared.value.Value.TheVariants.{Long}
use Rattle.ca_model.specs.Heaps.{stored}
use Rattle.ca_meaning.specs.Expressions.{one_in, slot_of}
use Rattle.ca_lists.proofs.Places.{item_there as there_is}
use Rattle.ca_undo.specs.Puts.{restored}
use Rattle.ca_steps.specs.Telling.{Adds}
use Rattle.ca_replica.specs.Applied.{sums}
use Rattle.ca_replica.specs.InPlace.{IsWritten}
use Rattle.ca_replica.specs.Zeroed.{zeroed_heap}
use Rattle.ca_replica.proofs.InPlace.{keeps_put, keeps_same}
use Rattle.ca_replica.proofs.Numbers.{number_adds, told_sum}
use Rattle.ca_replica.proofs.Sums.{zeroed_many}
use Rattle.ca_replica.proofs.values.add_sum.Goals as goal

pub returns-then-n-len : goal.returns-then-n-len
returns-then-n-len c = record { adds = tt; put = tt; before = refl; keeps = λ k. k }

pub is_put-requires : goal.is_put-requires
is_put-requires c = omega (arith, c.if-n-len.false, c.len.ensures.value)

pub returns-then-not-is_put : goal.returns-then-not-is_put
returns-then-not-is_put c = record { adds = tt; put = tt; before = refl; keeps = λ k. k }

pub place_of-requires : goal.place_of-requires
place_of-requires c = omega (arith, c.if-n-len.false, c.len.ensures.value)

pub returns-in_default : goal.returns-in_default
returns-in_default c =
    let p = c.place_of.ensures in
    record {
      adds = tt;
      put = tt;
      before = ap (restored c.args.olds.now) p.same;
      keeps = λ k. keeps_same c.args.ground.now.extent.now.written c.args.ground.now.frozen.now c.args.ground.now.marks.now c.args.copies.now c.place_of.new.copies c.args.olds.now p.same p.has k;
    }

pub number_there-requires : goal.number_there-requires
number_there-requires c = c.in-Ok.ensures.place

pub returns-in_default-number_there : goal.returns-in_default-number_there
returns-in_default-number_there c =
    let p = c.place_of.ensures in
    record {
      adds = tt;
      put = tt;
      before = ap (restored c.args.olds.now) p.same;
      keeps = λ k. keeps_same c.args.ground.now.extent.now.written c.args.ground.now.frozen.now c.args.ground.now.marks.now c.args.copies.now c.place_of.new.copies c.args.olds.now p.same p.has k;
    }

pub put_at-requires : goal.put_at-requires
put_at-requires c = c.in-Ok.ensures.place

pub returns-then-put_at : goal.returns-then-put_at
returns-then-put_at c =
    let ws = c.args.ground.now.extent.now.written in
    let h = c.args.ground.now.frozen.now in
    let z = zeroed_heap ws h in
    let cs = c.args.copies.now in
    let mid = c.place_of.new.copies in
    let n = c.args.n in
    let g = c.args.f.field in
    let p = c.place_of.ensures in
    let q = c.put_at.ensures in
    let a = c.in-Some.a in
    let many : length z ≡ length h = zeroed_many ws h in
    let here : n < length h = omega (arith, c.if-n-len.false, c.len.ensures.value) in
    let lt : n < length z = omega (arith, here, many) in
    let had : SFits w64 a = search rules in
    let more : SFits w64 c.args.more = search rules in
    let small : SFits w64 c.sum_of-sum.result = search rules in
    let m = to_z w64 (of_z w64 c.sum_of-sum.result) in
    let sum = told_sum a c.args.more c.sum_of-sum.result had more small c.sum_of-sum.ensures in
    record {
      adds = subst (λ w. Adds (one_in (slot_of w n c.args.f)) c.args.more m) p.same (number_adds ws h mid c.in-Ok.place n c.args.f a c.args.more m c.in-Some.ensures here sum);
      put = q.put c.if-put_at.true z ∙ ap (λ s. stored s n g 0 (Long m)) p.same;
      before = q.before z lt ∙ ap (restored c.args.olds.now) p.same;
      keeps = λ k.
          let o = there_is h n here in
          let w : IsWritten ws h n g = record { object = o.0; there = o.1; put = c.is_put.ensures c.if-not-is_put.false k.marked o.0 o.1 } in
          keeps_put ws h c.args.ground.now.marks.now cs mid c.put_at.new.copies c.args.olds.now c.put_at.new.olds n g 0 (Long m) c.put_at.result w p.same p.has (λ e. q.put e z) q.same q.there (q.puts ws h w) k;
    }

pub returns-else-put_at : goal.returns-else-put_at
returns-else-put_at c =
    let ws = c.args.ground.now.extent.now.written in
    let h = c.args.ground.now.frozen.now in
    let z = zeroed_heap ws h in
    let n = c.args.n in
    let p = c.place_of.ensures in
    let q = c.put_at.ensures in
    let many : length z ≡ length h = zeroed_many ws h in
    let here : n < length h = omega (arith, c.if-n-len.false, c.len.ensures.value) in
    let lt : n < length z = omega (arith, here, many) in
    let m = to_z w64 (of_z w64 c.sum_of-sum.result) in
    record {
      adds = tt;
      put = tt;
      before = q.before z lt ∙ ap (restored c.args.olds.now) p.same;
      keeps = λ k.
          let o = there_is h n here in
          let w : IsWritten ws h n c.args.f.field = record { object = o.0; there = o.1; put = c.is_put.ensures c.if-not-is_put.false k.marked o.0 o.1 } in
          keeps_put ws h c.args.ground.now.marks.now c.args.copies.now c.place_of.new.copies c.put_at.new.copies c.args.olds.now c.put_at.new.olds n c.args.f.field 0 (Long m) c.put_at.result w p.same p.has (λ e. q.put e z) q.same q.there (q.puts ws h w) k;
    }
