use Rattle.std.proofs.Common.{◌≡◌, Bool, true, false, not, sym, refl, arith}
use Rattle.ca_beside.proofs.Present.{past_none}
use Rattle.ca_replica.proofs.marks.is_else.Goals as goal

pub returns-then-n-len : goal.returns-then-n-len
returns-then-n-len c = λ e o there. absurd (past_none c.args.frozen.now c.args.n o (omega (arith, c.if-n-len.true, c.len.ensures.value)) there)

pub is_class-requires : goal.is_class-requires
is_class-requires c = omega (arith, c.if-n-len.false, c.len.ensures.value)

pub returns : goal.returns
returns c = λ e. c.is_class.ensures.isnt (untrue c.is_class.result e)
  where
    untrue : (b : Bool) → not b ≡ true → b ≡ false
    untrue true e = sym e
    untrue false e = refl
