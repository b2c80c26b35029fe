use Rattle.std.proofs.Common.{[], sym, ◌∙◌, refl}
use Rattle.std.proofs.lemmas.Result.{err_from_is_err_and}
use Rattle.ca_descent.proofs.Parts.{and_ok, and_failed}
use Rattle.ca_parse.proofs.Uses.{picked_got, picked_none, picked_failed}
use Rattle.ca_parse.specs.clauses.Closed.{use_of, putting, stmt_view}
use Rattle.ca_parse.proofs.ChainStatements.{call_use, no_use, put_use, simple_answer, called_answer, put_answer}
use Rattle.ca_tree.specs.Plain.{field}
use Rattle.ca_expressions.proofs.Terminals.{start}
use Rattle.ca_parse.proofs.Semicolons.{ended_answer, ended_exact}
use Rattle.ca_parse.proofs.statements.parse_simple.Goals as goal

pub returns-in_err-chain : goal.returns-in_err-chain
returns-in_err-chain c =
    let p = err_from_is_err_and c.from_residual.result c.from_residual.ensures.1 in record { answer = rw (p.1, p.2) (simple_answer (and_failed _ (picked_failed use_of (λ x. putting (field start x [])) (λ x. refl) _ c.in_err-chain.ensures.answer))) }

pub returns-then-is_call : goal.returns-then-is_call
returns-then-is_call c =
    let e = rw (c.into_inner.ensures, c.first_place-at.ensures, c.deref-then-is_call.ensures) at (ended_exact c.line.ensures.answer) in
    record { answer = simple_answer (and_ok (picked_got use_of (λ x. putting (field start x [])) (λ x. refl) (call_use _ (rw c.deref.ensures at (sym c.is_call.ensures ∙ c.if-is_call.true))) c.in_ok-chain.ensures.answer) (called_answer e)) }

pub returns-then-not-is_target : goal.returns-then-not-is_target
returns-then-not-is_target c = record { answer = simple_answer (and_failed _ (picked_none use_of (λ x. putting (field start x [])) (λ x. refl) (no_use _ (rw c.deref.ensures at (sym c.is_call.ensures ∙ c.if-is_call.false)) (rw c.deref-2.ensures at (sym c.is_target.ensures ∙ c.if-not-is_target.true))) c.in_ok-chain.ensures.answer)) }

pub returns-in_err-assign : goal.returns-in_err-assign
returns-in_err-assign c =
    let p = err_from_is_err_and c.from_residual-in_err-assign.result c.from_residual-in_err-assign.ensures.1 in record { answer = rw (p.1, p.2) (simple_answer (and_ok (picked_got use_of (λ x. putting (field start x [])) (λ x. refl) (put_use _ (rw c.deref-2.ensures at (sym c.is_target.ensures ∙ c.if-not-is_target.false))) c.in_ok-chain.ensures.answer) (put_answer (and_failed _ c.in_err-assign.ensures.answer)))) }

pub returns : goal.returns
returns c = record { answer = simple_answer (and_ok (picked_got use_of (λ x. putting (field start x [])) (λ x. refl) (put_use _ (rw c.deref-2.ensures at (sym c.is_target.ensures ∙ c.if-not-is_target.false))) c.in_ok-chain.ensures.answer) (put_answer (and_ok c.in_ok-assign.ensures.answer (ended_answer stmt_view c.ended.result c.ended.ensures.answer)))) }
