use Rattle.std.proofs.Common.{length, ◌-◌}
use Rattle.ca_replay.proofs.machine.note_from.Given as goal

abbrev pub decreases-places : goal.decreases-places
decreases-places l = length l.ops - l.n
