use Rattle.std.proofs.Common.{◌∙◌, refl, ap, true≢false}
use Rattle.ca_undo.specs.Puts.{or_restored}
use Rattle.ca_undo.proofs.Restoring.{kept_added}
use Rattle.ca_undo.proofs.puts.Kept.keep.Goals as goal

pub returns-then-add : goal.returns-then-add
returns-then-add c =
    let k = c.args.self.now in
    record {
      heap = refl;
      kept = λ e g back. kept_added k.whole k.puts c.add.new.self c.args.old c.args.heap.now g (c.add.ensures.added c.if-add.true) back;
      same = λ e. absurd (true≢false e);
    }

pub returns : goal.returns
returns c =
    let k = c.args.self.now in
    let stays = ap (λ os. or_restored k.whole os c.args.heap.now) (c.add.ensures.same c.if-add.false) in
    record {
      heap = c.keep_more.ensures.heap;
      kept = λ e g back. c.keep_more.ensures.kept e g back ∙ stays;
      same = λ e. c.keep_more.ensures.same e ∙ stays;
    }
