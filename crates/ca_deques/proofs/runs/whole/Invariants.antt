use Rattle.std.proofs.Common.{◌≡◌, ◌<◌, length}
use Rattle.ca_deques.proofs.runs.whole.Given as goal

abbrev pub invariant-run : goal.invariant-run
invariant-run l = (l.at < length l.tasks) × (l.all ≡ length l.tasks)

abbrev pub decreases-run : goal.decreases-run
decreases-run l = l.at
