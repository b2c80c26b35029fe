use Rattle.std.proofs.Common.{◌≡◌, sym, subst}
use Rattle.ca_note_laws.specs.Listing.{puts_nothing}
use Rattle.ca_serial.proofs.Quietness.{block_view}
use Rattle.ca_serial.proofs.targets.+puts.Goals as goal

pub puts_nothing-returns-in-Block : goal.puts_nothing-returns-in-Block
puts_nothing-returns-in-Block t c = subst (λ x. c.put_nothing.result ≡ puts_nothing x) (sym (block_view c.args.s.now c.in-Block.stmts c.in-Block.is)) (rw c.deref.ensures.value at c.put_nothing.ensures)
