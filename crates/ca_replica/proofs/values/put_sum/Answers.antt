use Rattle.std.proofs.Common.{◌≡◌, ◌<◌, ◌∙◌, length, refl, sym, ap, true≢false, arith}
use Rattle.ca_lists.proofs.Places.{item_there}
use Rattle.ca_model.specs.Heaps.{stored}
use Rattle.ca_undo.specs.Puts.{restored}
use Rattle.ca_replica.specs.InPlace.{IsWritten}
use Rattle.ca_replica.specs.Zeroed.{zeroed_heap}
use Rattle.ca_replica.proofs.InPlace.{keeps_put, keeps_same}
use Rattle.ca_replica.proofs.Sums.{zeroed_many}
use Rattle.ca_replica.proofs.values.put_sum.Goals as goal

pub returns-then-n-len : goal.returns-then-n-len
returns-then-n-len c = record { put = λ e. absurd (true≢false (sym e)); before = refl; keeps = λ k. k }

pub returns-then-not-is_put : goal.returns-then-not-is_put
returns-then-not-is_put c = record { put = λ e. absurd (true≢false (sym e)); before = refl; keeps = λ k. k }

pub is_put-requires : goal.is_put-requires
is_put-requires c = omega (arith, c.if-n-len.false, c.len.ensures.value)

pub place_of-requires : goal.place_of-requires
place_of-requires c = omega (arith, c.if-n-len.false, c.len.ensures.value)

pub returns-in_default : goal.returns-in_default
returns-in_default c =
    let ws = c.args.ground.now.extent.now.written in
    let h = c.args.ground.now.frozen.now in
    let p = c.place_of.ensures in
    record {
      put = λ e. absurd (true≢false (sym e));
      before = ap (restored c.args.olds.now) p.same;
      keeps = λ k. keeps_same ws h c.args.ground.now.marks.now c.args.copies.now c.place_of.new.copies c.args.olds.now p.same p.has k;
    }

pub put_at-requires : goal.put_at-requires
put_at-requires c = c.in-Ok.ensures.place

pub returns : goal.returns
returns c =
    let ws = c.args.ground.now.extent.now.written in
    let h = c.args.ground.now.frozen.now in
    let z = zeroed_heap ws h in
    let n = c.args.n in
    let g = c.args.field in
    let p = c.place_of.ensures in
    let q = c.put_at.ensures in
    let many : length z ≡ length h = zeroed_many ws h in
    let lt : n < length z = omega (arith, c.if-n-len.false, c.len.ensures.value, many) in
    record {
      put = λ e. q.put e z ∙ ap (λ h. stored h n g c.args.item c.args.value) p.same;
      before = q.before z lt ∙ ap (restored c.args.olds.now) p.same;
      keeps = λ k.
          let o = item_there h n (omega (arith, c.if-n-len.false, c.len.ensures.value)) in
          let w : IsWritten ws h n g = record { object = o.0; there = o.1; put = c.is_put.ensures c.if-not-is_put.false k.marked o.0 o.1 } in
          keeps_put ws h c.args.ground.now.marks.now c.args.copies.now c.place_of.new.copies c.put_at.new.copies c.args.olds.now c.put_at.new.olds n g c.args.item c.args.value c.put_at.result w p.same p.has (λ e. q.put e z) q.same q.there (q.puts ws h w) k;
    }
