use Rattle.std.proofs.Common.{rules, arith, ◌≡◌, [], ◌∷◌, ◌++◌, sym, ap, ◌∙◌}
use Rattle.ca_forms.proofs.Folding.{last_same, rest_is, one_more, on_err}
use Rattle.ca_forms.proofs.operands.move_last.Goals as goal

pub returns-in_ok-push : goal.returns-in_ok-push
returns-in_ok-push c d =
    let before : d.args.from.now.items ≡ d.pop.new.self.items ++ d.in-Some.item ∷ [] = d.in-Some.ensures.items in
    let added : d.push.new.self.items ≡ d.args.all.now.items ++ d.in-Some.item ∷ [] = search rules in
    record {
      rest = λ us x e. (last_same d.pop.new.self.items us d.in-Some.item x (sym before ∙ e)).1;
      moved = λ us x e. added ∙ ap (λ z. d.args.all.now.items ++ z ∷ []) (last_same d.pop.new.self.items us d.in-Some.item x (sym before ∙ e)).0;
    }

pub returns-in_err-push : goal.returns-in_err-push
returns-in_err-push c d =
    record { rest = λ us x e. d.pop.ensures.rest ∙ rest_is d.args.from.now.items us x _ d.args.from.now.ok.0 e; moved = on_err d.from_residual.result _ d.from_residual.ensures.0 }

pub returns-in_default : goal.returns-in_default
returns-in_default c d =
    record {
      rest = λ us x e. absurd (d.in_default.not-Some _ (d.pop.ensures.value x (omega (arith, d.args.from.now.ok.0, one_more d.args.from.now.items us x e))));
      moved = λ us x e. absurd (d.in_default.not-Some _ (d.pop.ensures.value x (omega (arith, d.args.from.now.ok.0, one_more d.args.from.now.items us x e))));
    }
