use Rattle.std.proofs.Common.{◌≡◌, ◌&&◌, not, is_some, sym, subst, ap, ◌∙◌}
use Rattle.ca_tree.specs.View.{statements_view}
use Rattle.ca_resolve.specs.Judged.{Finds, broken_if}
use Rattle.ca_resolve.specs.declared.codes.TheConstants.{WRONG_RETURN}
use Rattle.ca_types.specs.Rules.{listed, last_returns}
use Rattle.ca_types.proofs.members.ends_with_return.Goals as goal
use Rattle.ca_types.proofs.members.ends_with_return.Goals.{then-is_some, else-is_some}

pub returns : goal.returns
returns c =
    let m = c.args.method.now in
    let open_end = not (last_returns (statements_view m.body.items)) in
    let is : c.if-is_some.rule ≡ (is_some m.result && open_end) = elim c.if-is_some.branch [
      | then-is_some w ↦ w.rule-is ∙ (ap not (w.last_returns.ensures ∙ ap (λ xs. last_returns (statements_view xs)) w.deref.ensures.value) ∙ sym (ap (λ z. z && open_end) (sym c.is_some.ensures ∙ w.if-is_some.true)))
      | else-is_some w ↦ w.rule-is ∙ (w.if-is_some.false ∙ sym (ap (λ z. z && open_end) (sym c.is_some.ensures ∙ w.if-is_some.false)))
    ] in
    subst (λ z. Finds c.rule.result (listed (broken_if z m.at WRONG_RETURN))) is c.rule.ensures
