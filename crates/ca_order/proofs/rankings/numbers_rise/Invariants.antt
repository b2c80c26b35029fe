use Rattle.std.proofs.Common.{◌≡◌, ◌-◌, drop, length}
use Rattle.ca_order.specs.Rankings.{numbers_rise}
use Rattle.ca_order.proofs.rankings.numbers_rise.Given as goal

abbrev pub invariant-loop-place : goal.invariant-loop-place
invariant-loop-place l = numbers_rise l.points l.ranks ≡ numbers_rise (drop l.place l.points) (drop l.place l.ranks)

abbrev pub decreases-loop-place : goal.decreases-loop-place
decreases-loop-place l = length l.points - l.place
