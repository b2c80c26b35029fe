use Rattle.std.proofs.Common.{⊎_elim, inl, inr, arith}
use Rattle.std.proofs.lemmas.Result.{err_from_is_err_and}
use Rattle.ca_replica.proofs.marks.mark_field.Goals as goal

pub returns-in_err-widen : goal.returns-in_err-widen
returns-in_err-widen c =
    let p = err_from_is_err_and c.from_residual.result c.from_residual.ensures.1 in
    record { kept = rw p.1 tt; only = rw p.1 tt; marked = rw p.1 tt }

pub mark_at-requires : goal.mark_at-requires
mark_at-requires c = omega (arith, c.in_ok-widen.ensures.room)

pub returns : goal.returns
returns c = record {
  kept = λ n k e. c.mark_at.ensures.kept n k (c.widen.ensures.kept n k e);
  only = λ n k e. ⊎_elim (λ b. inl (c.widen.ensures.only n k b)) (λ b. inr b) (c.mark_at.ensures.only n k e);
  marked = c.mark_at.ensures.marked;
}
