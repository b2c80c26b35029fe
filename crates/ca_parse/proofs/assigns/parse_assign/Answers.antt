use Rattle.std.proofs.Common.{[], sym, ◌∙◌, refl}
use Rattle.std.proofs.lemmas.Result.{err_from_is_err_and}
use Rattle.ca_descent.proofs.Parts.{and_ok, and_failed}
use Rattle.ca_parse.proofs.Uses.{picked_got, picked_none, picked_failed}
use Rattle.ca_parse.specs.clauses.Closed.{target_of}
use Rattle.ca_parse.proofs.AssignRules.{is_targeted, no_target, assign_answer}
use Rattle.ca_tree.specs.Plain.{field}
use Rattle.ca_expressions.proofs.Terminals.{start}
use Rattle.ca_parse.proofs.assigns.parse_assign.Goals as goal

pub returns-in_err-target : goal.returns-in_err-target
returns-in_err-target c =
    let p = err_from_is_err_and c.from_residual.result c.from_residual.ensures.1 in record { answer = rw (p.1, p.2) (assign_answer (and_failed _ (picked_failed target_of (λ x. field start x []) (λ x. refl) _ c.in_err-target.ensures.answer))) }

pub returns-then-not-is_target : goal.returns-then-not-is_target
returns-then-not-is_target c = record { answer = assign_answer (and_failed _ (picked_none target_of (λ x. field start x []) (λ x. refl) (no_target _ (rw c.deref.ensures at (sym c.is_target.ensures ∙ c.if-not-is_target.true))) c.in_ok-target.ensures.answer)) }

pub returns : goal.returns
returns c = record { answer = assign_answer (and_ok (picked_got target_of (λ x. field start x []) (λ x. refl) (is_targeted _ (rw c.deref.ensures at (sym c.is_target.ensures ∙ c.if-not-is_target.false))) c.in_ok-target.ensures.answer) c.parse_assign_to.ensures.answer) }
