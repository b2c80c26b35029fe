use Rattle.ca_resolve.proofs.InMemory.{place_is}
use Rattle.ca_types.proofs.lines.check_condition.Goals as goal

pub returns-else-is_truth : goal.returns-else-is_truth
returns-else-is_truth c = rw c.in_ok-value.ensures (rw (← c.is_truth.ensures) (rw c.if-is_truth.false (rw (place_is c.args.e.now) c.violation.ensures)))
