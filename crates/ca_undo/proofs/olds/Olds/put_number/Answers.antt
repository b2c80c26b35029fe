use Rattle.std.proofs.Common.{◌≡◌, refl, sym, ap, ◌∙◌, subst, rules, w64}
use mir.Val.{SFits}
use Rattle.std.specs.Prelude.{slice_get}
use Rattle.std.proofs.lemmas.Int.{to_z-of_z}
use Rattle.ca_model.specs.declared.value.Value.TheVariants.{Long}
use Rattle.ca_model.specs.Slots.{put_slot, HasItem}
use Rattle.ca_undo.specs.Olds.{put_back, AllThere, olds_after}
use Rattle.ca_undo.proofs.Back.{back_kept, one_there, one_undone, still_there, there_kept}
use Rattle.ca_undo.proofs.olds.Olds.put_number.Goals as goal

pub put-requires : goal.put-requires
put-requires c = one_there (slice_get c.args.slots.now c.args.field) (Long c.args.old) c.requires

pub put-requires-2 : goal.put-requires-2
put-requires-2 c =
    let slots = c.args.slots.now in
    let f = c.args.field in
    let new : SFits w64 c.args.n = search rules in
    let put : c.put.new.self ≡ put_slot slots f 0 (Long c.args.n) = rw (to_z-of_z w64 c.args.n new) at c.put.ensures in
    let there = one_there (slice_get slots f) (Long c.args.old) c.requires in
    subst (λ ss. HasItem (slice_get ss f) 0) (sym put) (still_there slots f 0 (Long c.args.n) there)

pub returns-then-keep_number : goal.returns-then-keep_number
returns-then-keep_number c =
    let olds = c.args.self.now in
    let slots = c.args.slots.now in
    let f = c.args.field in
    let after = c.put.new.self in
    let had : SFits w64 c.args.old = search rules in
    let new : SFits w64 c.args.n = search rules in
    let there = one_there (slice_get slots f) (Long c.args.old) c.requires in
    let keeps = rw (to_z-of_z w64 c.args.old had) at (c.keep_number.ensures.keeps c.if-keep_number.true) in
    let kept = keeps slots c.requires in
    let put : after ≡ put_slot slots f 0 (Long c.args.n) = rw (to_z-of_z w64 c.args.n new) at c.put.ensures in
    record {
      put = λ e. put;
      back = ap (λ os. put_back os after) kept ∙ (ap (put_back (olds_after olds slots f 0)) put ∙ back_kept olds slots f 0 (Long c.args.n) there);
      there = λ t. subst (λ os. AllThere os after) (sym kept) (subst (AllThere (olds_after olds slots f 0)) (sym put) (there_kept olds slots f 0 (Long c.args.n) there t));
      keeps = λ e. kept;
      kept = λ e. cc;
      olds = λ e. cc;
    }

pub returns : goal.returns
returns c =
    let slots = c.args.slots.now in
    let f = c.args.field in
    let after = c.put-2.new.self in
    let had : SFits w64 c.args.old = search rules in
    let new : SFits w64 c.args.n = search rules in
    let put : c.put.new.self ≡ put_slot slots f 0 (Long c.args.n) = rw (to_z-of_z w64 c.args.n new) at c.put.ensures in
    let undone : after ≡ put_slot c.put.new.self f 0 (Long c.args.old) = rw (to_z-of_z w64 c.args.old had) at c.put-2.ensures in
    let same : after ≡ slots = undone ∙ (ap (λ ss. put_slot ss f 0 (Long c.args.old)) put ∙ one_undone slots f (Long c.args.old) (Long c.args.n) c.requires) in
    let kept = c.keep_number.ensures.kept c.if-keep_number.false in
    record {
      put = λ e. cc;
      back = ap (λ os. put_back os after) kept ∙ ap (put_back c.args.self.now) same;
      there = λ t. subst (λ os. AllThere os after) (sym kept) (subst (AllThere c.args.self.now) (sym same) t);
      keeps = λ e. cc;
      kept = λ e. same;
      olds = λ e. kept;
    }
