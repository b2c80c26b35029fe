use Rattle.std.proofs.Common.{◌-◌}
use Rattle.ca_cells.specs.Seats.{IsSameSeat}
use Rattle.ca_pool_tests.proofs.rounds.work.Given as goal

abbrev pub invariant-loop-n : goal.invariant-loop-n
invariant-loop-n g l = IsSameSeat l.initial.seat l.seat

abbrev pub decreases-loop-n : goal.decreases-loop-n
decreases-loop-n g l = l.times - l.n
