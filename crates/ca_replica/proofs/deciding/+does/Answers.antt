use Rattle.std.proofs.Common.{◌≡◌, sym, subst}
use Rattle.ca_section.proofs.HeldCalls.{block_view}
use Rattle.ca_replica.specs.Unsummed.{does_else}
use Rattle.ca_replica.proofs.deciding.+does.Goals as goal

pub does_else-returns-in-Block : goal.does_else-returns-in-Block
does_else-returns-in-Block t c =
    subst (λ x. c.any_does_else.result ≡ does_else c.args.written.now x) (sym (block_view c.args.s.now c.in-Block.stmts c.in-Block.is))
    (rw c.deref.ensures.value at c.any_does_else.ensures)
