use Rattle.std.proofs.Common.{◌≡◌, ◌<◌, ◌∙◌, length, refl, sym, ap, subst, true, true≢false, rules, w64, arith}
use Rattle.std.specs.Prelude.{Contains}
use Rattle.std.proofs.lemmas.Int.{to_z-of_z}
use Rattle.std.proofs.lemmas.Option.{slice_get_within}
use mir.Val.{SFits, of_z, to_z}
use Rattle.ca_model.specs.declared.value.Object.{Object}
use Rattle.ca_model.specs.declared.value.Value.TheVariants.{Long}
use Rattle.ca_beside.proofs.Present.{changed}
use Rattle.ca_undo.specs.Puts.{restored}
use Rattle.ca_replica.specs.InPlace.{HasNumber, IsWritten, Keeps}
use Rattle.ca_replica.specs.Zeroed.{zeroed_heap}
use Rattle.ca_replica.proofs.InPlace.{field_at, keeps_over, keeps_put, keeps_same, within_all, written_top}
use Rattle.ca_replica.proofs.Numbers.{number_adds, number_over, number_written, told_sum}
use Rattle.ca_replica.proofs.Sums.{zeroed_many}
use Rattle.ca_replica.proofs.values.add_at_once.Goals as goal

pub returns-in_default : goal.returns-in_default
returns-in_default c = record { adds = tt; put = tt; before = refl; keeps = λ k. k; same = (refl, refl) }

pub number_there-requires : goal.number_there-requires
number_there-requires c = c.in-Some.ensures

pub returns-in_default-number_there : goal.returns-in_default-number_there
returns-in_default-number_there c = record { adds = tt; put = tt; before = refl; keeps = λ k. k; same = (refl, refl) }

pub put_number-requires : goal.put_number-requires
put_number-requires c = (c.in-Some-number_there.a, c.in-Some-number_there.ensures)

pub returns-then-is_last : goal.returns-then-is_last
returns-then-is_last c =
    let ws = c.args.ground.now.extent.now.written in
    let h = c.args.ground.now.frozen.now in
    let z = zeroed_heap ws h in
    let marks = c.args.ground.now.marks.now in
    let cs = c.args.copies.now in
    let os = c.args.olds.now in
    let place = c.in-Some.place in
    let n = c.args.n in
    let g = c.args.f.field in
    let a = c.in-Some-number_there.a in
    let k = c.in-Some-number_there.ensures in
    let m = to_z w64 (of_z w64 c.sum_of-sum.result) in
    let had : SFits w64 a = search rules in
    let more : SFits w64 c.args.more = search rules in
    let small : SFits w64 c.sum_of-sum.result = search rules in
    let sum = told_sum a c.args.more c.sum_of-sum.result had more small c.sum_of-sum.ensures in
    let top = c.is_last.ensures c.if-is_last.true in
    let put = c.put_number.ensures.put z in
    record {
      adds = λ kp.
          let many : length z ≡ length h = zeroed_many ws h in
          let lt : n < length z = within_all ws h n g (written_top ws h os n g 0 kp.puts top) in
          number_adds ws h cs place n c.args.f a c.args.more m k (omega (arith, lt, many)) sum;
      put = put;
      before = ap (restored os) put ∙ number_over z cs place n g a m os k top;
      keeps = λ kp. keeps_over ws h marks cs c.put_number.new.copies os n g 0 (Long m) put c.put_number.ensures.has (written_top ws h os n g 0 kp.puts top) kp;
      same = tt;
    }

pub returns-then-n-len : goal.returns-then-n-len
returns-then-n-len c = record { adds = tt; put = tt; before = refl; keeps = λ k. k; same = (refl, refl) }

pub object_at-requires : goal.object_at-requires
object_at-requires c = slice_get_within c.args.copies.now c.in-Some.place _ c.in-Some.ensures.there

pub returns-then-not-is_put_at_once : goal.returns-then-not-is_put_at_once
returns-then-not-is_put_at_once c = record { adds = tt; put = tt; before = refl; keeps = λ k. k; same = (refl, refl) }

pub put_and_keep-requires : goal.put_and_keep-requires
put_and_keep-requires c =
    let a = c.in-Some-number_there.a in
    let had : SFits w64 a = search rules in
    subst (HasNumber c.args.copies.now c.in-Some.place c.args.n c.args.f.field) (sym (to_z-of_z w64 a had)) c.in-Some-number_there.ensures

pub returns-then-put_and_keep : goal.returns-then-put_and_keep
returns-then-put_and_keep c =
    let ws = c.args.ground.now.extent.now.written in
    let h = c.args.ground.now.frozen.now in
    let z = zeroed_heap ws h in
    let marks = c.args.ground.now.marks.now in
    let cs = c.args.copies.now in
    let os = c.args.olds.now in
    let place = c.in-Some.place in
    let n = c.args.n in
    let g = c.args.f.field in
    let a = c.in-Some-number_there.a in
    let k = c.in-Some-number_there.ensures in
    let q = c.put_and_keep.ensures in
    let m = to_z w64 (of_z w64 c.sum_of-sum.result) in
    let had : SFits w64 a = search rules in
    let more : SFits w64 c.args.more = search rules in
    let small : SFits w64 c.sum_of-sum.result = search rules in
    let sum = told_sum a c.args.more c.sum_of-sum.result had more small c.sum_of-sum.ensures in
    let here : n < length h = omega (arith, c.if-n-len.false, c.len.ensures.value) in
    let put = q.put c.if-put_and_keep.true z in
    record {
      adds = λ kp. number_adds ws h cs place n c.args.f a c.args.more m k here sum;
      put = put;
      before = q.before z;
      keeps = λ kp.
          let at = subst (λ (o : Object). Contains ws (field_at o.class g)) (c.object_at.ensures (changed n k.object) k.there) (c.is_put_at_once.ensures c.if-not-is_put_at_once.false ws kp.marked) in
          let w : IsWritten ws h n g = number_written ws h cs place n g a k here kp.classes at in
          keeps_put ws h marks cs cs c.put_and_keep.new.copies os c.put_and_keep.new.olds n g 0 (Long m) true w refl (λ j a. a) (λ e. put) (λ e. absurd (true≢false e)) q.there (q.puts ws h w) kp;
      same = tt;
    }

pub returns-else-put_and_keep : goal.returns-else-put_and_keep
returns-else-put_and_keep c =
    let ws = c.args.ground.now.extent.now.written in
    let h = c.args.ground.now.frozen.now in
    let z = zeroed_heap ws h in
    let marks = c.args.ground.now.marks.now in
    let cs = c.args.copies.now in
    let new = c.put_and_keep.new.copies in
    let os = c.args.olds.now in
    let q = c.put_and_keep.ensures in
    let same = q.same c.if-put_and_keep.false z in
    let none = q.none c.if-put_and_keep.false in
    record {
      adds = tt;
      put = tt;
      before = q.before z;
      keeps = λ kp. subst (λ xs. Keeps ws h marks new xs) (sym none) (keeps_same ws h marks cs new os same q.has kp);
      same = (same, none);
    }
