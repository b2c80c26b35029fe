use Rattle.std.proofs.Common.{◌≤◌, ◌-◌, length}
use Rattle.ca_serial.proofs.listing.place_in.Given as goal

abbrev pub invariant-halving : goal.invariant-halving
invariant-halving l = (l.low ≤ l.high) × (l.high ≤ length l.places)

abbrev pub decreases-halving : goal.decreases-halving
decreases-halving l = l.high - l.low
