use Rattle.std.proofs.Common.{◌∙◌, Some, refl, sym, ap, true≢false}
use Rattle.ca_undo.specs.Puts.{or_restored}
use Rattle.ca_undo.proofs.puts.Kept.keep_whole.Goals as goal

pub returns-in_default : goal.returns-in_default
returns-in_default c = record { heap = refl; whole = λ e. absurd (true≢false (sym e)); same = λ e. refl }

pub returns : goal.returns
returns c =
    let k = c.args.self.now in
    record {
      heap = c.swap.ensures.x_after ∙ c.in-Ok.ensures;
      whole = λ e. ap Some (c.swap.ensures.y_after ∙ (c.put_back.ensures.heap ∙ sym (ap (λ w. or_restored w k.puts c.args.heap.now) c.requires)));
      same = λ e. absurd (true≢false e);
    }
