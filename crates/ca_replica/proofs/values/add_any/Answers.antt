use Rattle.std.proofs.Common.{◌≡◌, ap, subst, ◌∙◌, rules, w64}
use Rattle.std.specs.Prelude.{IfNone}
use Rattle.std.proofs.lemmas.Int.{to_z-of_z}
use mir.Val.{SFits}
use Rattle.ca_model.specs.declared.value.Value.TheVariants.{Long}
use Rattle.ca_model.specs.Heaps.{stored}
use Rattle.ca_meaning.specs.Expressions.{one_in, slot_of}
use Rattle.ca_steps.proofs.Loading.{some_by}
use Rattle.ca_steps.specs.Telling.{Adds}
use Rattle.ca_replica.specs.Applied.{sums}
use Rattle.ca_replica.proofs.values.add_any.Goals as goal

pub returns-in-Some : goal.returns-in-Some
returns-in-Some c =
    let e = c.add_at_once-sum.ensures in
    let more : SFits w64 c.args.more = search rules in
    record { adds = rw (to_z-of_z w64 c.args.more more) at e.adds; put = e.put; before = e.before; keeps = e.keeps }

pub returns-in-None : goal.returns-in-None
returns-in-None c =
    let ws = c.args.ground.now.extent.now.written in
    let h = c.args.ground.now.frozen.now in
    let n = c.args.n in
    let f = c.args.f in
    let e = c.add_at_once-sum.ensures in
    let more : SFits w64 c.args.more = search rules in
    let cs = c.add_at_once-sum.new.copies in
    let os = c.add_at_once-sum.new.olds in
    let same : (sums ws h cs ≡ sums ws h c.args.copies.now) × (os ≡ c.args.olds.now) = subst (λ r. IfNone r ((sums ws h cs ≡ sums ws h c.args.copies.now) × (os ≡ c.args.olds.now))) c.in-None.is e.same in
    let world = same.0 in
    record {
      adds = some_by _ _ c.add_sum.result (λ m a kp. subst (λ w. Adds (one_in (slot_of w n f)) c.args.more m) world a) (rw (to_z-of_z w64 c.args.more more) at c.add_sum.ensures.adds);
      put = some_by _ _ c.add_sum.result (λ m p. p ∙ ap (λ w. stored w n f.field 0 (Long m)) world) c.add_sum.ensures.put;
      before = c.add_sum.ensures.before ∙ e.before;
      keeps = λ k. c.add_sum.ensures.keeps (e.keeps k);
    }
