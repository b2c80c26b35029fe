use Rattle.std.proofs.Common.{◌≡◌, Bool, true, false, not, sym, refl, ◌∙◌, arith}
use Rattle.ca_beside.proofs.Present.{past_none}
use Rattle.ca_replica.proofs.InPlace.{field_at, not_written}
use Rattle.ca_replica.proofs.marks.is_of_none.Goals as goal

pub returns-then-n-len : goal.returns-then-n-len
returns-then-n-len c = λ e o there. absurd (past_none c.args.frozen.now c.args.n o (omega (arith, c.if-n-len.true, c.len.ensures.value)) there)

pub is_of-requires : goal.is_of-requires
is_of-requires c = omega (arith, c.if-n-len.false, c.len.ensures.value)

pub returns : goal.returns
returns c = λ e o there. not_written c.args.extent.now.written (field_at o.class c.args.field) (sym (c.is_of.ensures o there) ∙ untrue c.is_of.result e)
  where
    untrue : (b : Bool) → not b ≡ true → b ≡ false
    untrue true e = sym e
    untrue false e = refl
