use Rattle.std.proofs.Common.{◌≡◌, ◌++◌, drop, map}
use Rattle.ca_plan.specs.Told.{loop_of}
use Rattle.ca_plan.proofs.marking.loops_of.Given as goal

abbrev pub invariant-loop-n : goal.invariant-loop-n
invariant-loop-n l = l.loops.items ++ map loop_of (drop l.n-index l.numbers) ≡ map loop_of l.numbers
