use Rattle.std.proofs.Common.{refl, sym, ap, ◌∙◌, subst}
use Rattle.ca_undo.specs.Olds.{put_back, AllThere, olds_after}
use Rattle.ca_undo.proofs.Back.{back_kept, there_kept}
use Rattle.ca_undo.proofs.olds.Olds.put_at_hand.Goals as goal

pub returns-then-keep_at_hand : goal.returns-then-keep_at_hand
returns-then-keep_at_hand c =
    let olds = c.args.self.now in
    let slots = c.args.slots.now in
    let after = c.put.new.self in
    let kept = c.keep_at_hand.ensures.keeps c.if-keep_at_hand.true in
    record {
      put = λ e. c.put.ensures;
      back = ap (λ os. put_back os after) kept ∙ (ap (put_back (olds_after olds slots c.args.field c.args.item)) c.put.ensures ∙ back_kept olds slots c.args.field c.args.item c.args.value c.requires);
      there = λ t. subst (λ os. AllThere os after) (sym kept) (subst (AllThere (olds_after olds slots c.args.field c.args.item)) (sym c.put.ensures) (there_kept olds slots c.args.field c.args.item c.args.value c.requires t));
      keeps = λ e. kept;
      kept = λ e. cc;
      olds = λ e. cc;
    }

pub returns : goal.returns
returns c =
    let slots = c.args.slots.now in
    let kept = c.keep_at_hand.ensures.kept c.if-keep_at_hand.false in
    record {
      put = λ e. cc;
      back = ap (λ os. put_back os slots) kept;
      there = λ t. subst (λ os. AllThere os slots) (sym kept) t;
      keeps = λ e. cc;
      kept = λ e. refl;
      olds = λ e. kept;
    }
