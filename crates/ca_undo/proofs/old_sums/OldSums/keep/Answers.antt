use Rattle.std.proofs.Common.{◌∷◌, true≢false, sym, ap, subst, ◌∙◌}
use Rattle.ca_undo.specs.Hands.{IsHand}
use Rattle.ca_undo.proofs.old_sums.OldSums.keep.Goals as goal

pub invariant_of-self : goal.invariant_of-self
invariant_of-self c = subst (IsHand c.self.inside.hand) (sym (c.add_to.ensures.same c.if-not-add_to.true)) c.self.invariant

pub returns-then-not-add_to : goal.returns-then-not-add_to
returns-then-not-add_to c = record { added = λ e. absurd (true≢false (sym e)); same = λ e. c.add_to.ensures.same c.if-not-add_to.true ∙ c.self.view_is }

pub invariant_of-self-2 : goal.invariant_of-self-2
invariant_of-self-2 c = subst (IsHand c.hand_of-self-inside.result) (sym (c.add_to.ensures.added c.if-not-add_to.false)) (c.hand_of-self-inside.ensures c.self.inside.puts)

pub returns : goal.returns
returns c = record { added = λ e. c.add_to.ensures.added c.if-not-add_to.false ∙ ap (λ os. c.args.old ∷ os) c.self.view_is; same = λ e. absurd (true≢false e) }
