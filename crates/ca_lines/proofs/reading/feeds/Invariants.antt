use Rattle.std.proofs.Common.{length, ◌-◌, ◌≤◌}
use Rattle.ca_lines.proofs.reading.feeds.Given as goal

abbrev pub invariant-bytes : goal.invariant-bytes
invariant-bytes l = (l.count ≤ l.n) × (l.n ≤ length l.bytes)

abbrev pub decreases-bytes : goal.decreases-bytes
decreases-bytes l = length l.bytes - l.n
