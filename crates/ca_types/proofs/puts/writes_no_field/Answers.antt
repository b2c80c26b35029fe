use Rattle.std.proofs.Common.{◌≡◌, ◌&&◌, is_some, sym, subst, ap, ◌∙◌}
use Rattle.std.specs.Option.{option_map}
use Rattle.ca_resolve.specs.Judged.{Finds, broken_if}
use Rattle.ca_resolve.specs.LocalView.{ty_view}
use Rattle.ca_resolve.specs.View.{target_view}
use Rattle.ca_resolve.specs.declared.codes.TheConstants.{VALUE_METHOD_ACTS}
use Rattle.ca_types.specs.Rules.{listed, is_own}
use Rattle.ca_types.proofs.Answering.{mapped_some}
use Rattle.ca_types.proofs.puts.writes_no_field.Goals as goal
use Rattle.ca_types.proofs.puts.writes_no_field.Goals.{then-is_some, else-is_some}

pub returns : goal.returns
returns c =
    let o = c.args.returned.now in
    let own = is_own (target_view c.args.target.now).0 in
    let is : c.if-is_some.rule ≡ (is_some (option_map ty_view o) && own) = elim c.if-is_some.branch [
      | then-is_some w ↦ w.rule-is ∙ (w.is_own.ensures ∙ sym (ap (λ z. z && own) (mapped_some ty_view o ∙ (sym c.is_some.ensures ∙ w.if-is_some.true))))
      | else-is_some w ↦ w.rule-is ∙ (w.if-is_some.false ∙ sym (ap (λ z. z && own) (mapped_some ty_view o ∙ (sym c.is_some.ensures ∙ w.if-is_some.false))))
    ] in
    subst (λ z. Finds c.rule.result (listed (broken_if z c.args.at VALUE_METHOD_ACTS))) is c.rule.ensures
