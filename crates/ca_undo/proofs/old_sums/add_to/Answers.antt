use Rattle.std.proofs.Common.{◌∷◌, true≢false, ap, ◌∙◌}
use Rattle.ca_undo.proofs.old_sums.add_to.Goals as goal

pub returns-then-add : goal.returns-then-add
returns-then-add c = record { added = λ e. c.add.ensures.added c.if-add.true; same = λ e. absurd (true≢false e) }

pub returns : goal.returns
returns c = record {
  added = λ e. c.push.ensures.added e ∙ ap (λ os. c.args.old ∷ os) (c.add.ensures.same c.if-add.false);
  same = λ e. c.push.ensures.same e ∙ c.add.ensures.same c.if-add.false;
}
