use Rattle.std.proofs.Common.{length}
use Rattle.ca_serial.proofs.Flagged.{FlagsBut}
use Rattle.ca_serial.proofs.marked.flags_of.Given as goal

abbrev pub invariant-loop-first : goal.invariant-loop-first
invariant-loop-first l = FlagsBut l.flags.items l.initial.ops l.rest

abbrev pub decreases-loop-first : goal.decreases-loop-first
decreases-loop-first l = length l.rest
