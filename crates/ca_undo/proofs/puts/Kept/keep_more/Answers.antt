use Rattle.std.proofs.Common.{◌∙◌, refl, sym, ap, true≢false}
use Rattle.ca_undo.specs.Puts.{before, or_restored}
use Rattle.ca_undo.proofs.Restoring.{kept_added, none_by, whole_stays}
use Rattle.ca_undo.proofs.puts.Kept.keep_more.Goals as goal

pub returns-then-is_some : goal.returns-then-is_some
returns-then-is_some c =
    let k = c.args.self.now in
    record {
      heap = refl;
      kept = λ e g back. whole_stays k.whole k.puts c.forget.new.self c.args.heap.now g (sym c.is_some.ensures ∙ c.if-is_some.true);
      same = λ e. absurd (true≢false e);
    }

pub keep_whole-requires : goal.keep_whole-requires
keep_whole-requires c = none_by c.args.self.now.whole (sym c.is_some.ensures ∙ c.if-is_some.false)

pub returns-then-count-values : goal.returns-then-count-values
returns-then-count-values c =
    let now = c.keep_whole.new.self in
    record {
      heap = c.keep_whole.ensures.heap;
      kept = λ e g back. ap (λ w. or_restored w now.puts g) (c.keep_whole.ensures.whole e);
      same = λ e. ap (λ k. before k c.args.heap.now) (c.keep_whole.ensures.same e);
    }

pub returns : goal.returns
returns c =
    let k = c.args.self.now in
    record {
      heap = refl;
      kept = λ e g back. kept_added k.whole k.puts c.push.new.self c.args.old c.args.heap.now g (c.push.ensures.added e) back;
      same = λ e. ap (λ os. or_restored k.whole os c.args.heap.now) (c.push.ensures.same e);
    }
