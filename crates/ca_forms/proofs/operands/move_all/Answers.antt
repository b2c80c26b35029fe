use Rattle.std.proofs.Common.{◌++◌, ◌∷◌, [], reverse, sym, ap, ◌∙◌}
use Rattle.std.proofs.lemmas.List.{append_assoc, append-nil}
use Rattle.ca_forms.proofs.Folding.{turned, nothing}
use Rattle.ca_forms.proofs.operands.move_all.Goals as goal

pub loop-item-preserved : goal.loop-item-preserved
loop-item-preserved c d =
    ap (λ z. z ++ reverse d.pop.new.self.items) d.in_ok-push.ensures.items ∙ append_assoc d.loop-item.all.items (d.in-Some.item ∷ []) (reverse d.pop.new.self.items)
    ∙ ap (λ z. d.loop-item.all.items ++ z) (sym (turned d.loop-item.from.items d.pop.new.self.items d.in-Some.item d.in-Some.ensures.items)) ∙ d.loop-item.invariant

pub returns : goal.returns
returns c d =
    sym (append-nil d.loop-item.all.items) ∙ ap (λ z. d.loop-item.all.items ++ reverse z) (sym (nothing d.loop-item.from.items _ d.in_default.ensures.cases.0 d.loop-item.from.ok.0)) ∙ d.loop-item.invariant
