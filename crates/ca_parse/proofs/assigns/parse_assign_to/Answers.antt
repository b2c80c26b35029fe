use Rattle.std.proofs.lemmas.Result.{err_from_is_err_and}
use Rattle.ca_descent.proofs.Exact.{no_memory}
use Rattle.ca_descent.proofs.Parts.{and_ok, and_failed, and_done}
use Rattle.ca_parse.proofs.AssignRules.{assign_to_answer}
use Rattle.ca_parse.proofs.assigns.parse_assign_to.Goals as goal

pub returns-in_err-op : goal.returns-in_err-op
returns-in_err-op c =
    let p = err_from_is_err_and c.from_residual.result c.from_residual.ensures.1 in record { answer = rw (p.1, p.2) (assign_to_answer _ (and_failed _ c.in_err-op.ensures.answer)) }

pub returns-in_err-made : goal.returns-in_err-made
returns-in_err-made c =
    let p = err_from_is_err_and c.from_residual-in_err-made.result c.from_residual-in_err-made.ensures.1 in record { answer = rw (p.1, p.2) no_memory }

pub returns : goal.returns
returns c = record { answer = rw (c.in_ok-made.ensures, c.into_inner-target.ensures, c.first_place-at.ensures, c.deref.ensures) (assign_to_answer _ (and_ok c.in_ok-op.ensures.answer and_done)) }
