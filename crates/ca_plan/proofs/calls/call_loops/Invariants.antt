use Rattle.std.proofs.Common.{◌≡◌, ◌++◌, drop}
use Rattle.ca_plan.specs.clauses.Loops.{seen}
use Rattle.ca_plan.proofs.LoopWalks.{loops_of_methods}
use Rattle.ca_plan.proofs.calls.call_loops.Given as goal

abbrev pub invariant-loop-m : goal.invariant-loop-m
invariant-loop-m l = seen l.loops.items ++ loops_of_methods (drop l.m-index l.m-items) ≡ loops_of_methods l.program.ops.items
