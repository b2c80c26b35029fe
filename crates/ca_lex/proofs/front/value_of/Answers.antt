use Rattle.std.proofs.Common.{arith}
use Rattle.ca_lex.proofs.Digits.{front-le-value}
use Rattle.ca_lex.proofs.front.value_of.Goals as goal

pub returns-then-n-d-clause-none : goal.returns-then-n-d-clause-none
returns-then-n-d-clause-none c =
    omega (arith, front-le-value c.args.digits.now c.loop-b.b-index c.loop-b.n (omega arith) c.loop-b.invariant.sofar)
