use Rattle.ca_resolve.proofs.InMemory.{place_is}
use Rattle.ca_types.proofs.lines.check_printed.Goals as goal

pub returns-else-has_text : goal.returns-else-has_text
returns-else-has_text c = rw c.in_ok-value.ensures (rw (← c.has_text.ensures) (rw c.if-has_text.false (rw (place_is c.args.e.now) c.violation.ensures)))
