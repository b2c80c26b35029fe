use Rattle.std.proofs.Common.{◌≡◌, sym, subst}
use Rattle.ca_symbolic.specs.OtherLoops.{calls_alone}
use Rattle.ca_symbolic.proofs.loops.calls_alone.Goals as goal
use Rattle.ca_sweep.proofs.Blocks.{block_view}

pub returns-in-Block : goal.returns-in-Block
returns-in-Block c =
    subst (λ x. c.some_calls.result ≡ calls_alone x) (sym (block_view c.args.s.now c.in-Block.stmts c.in-Block.is)) (rw c.deref.ensures.value at (c.some_calls.ensures c.args.s.now.line))
