use Rattle.std.proofs.Common.{◌≡◌, drop}
use Rattle.ca_parallel.specs.Lists.{op_in}
use Rattle.ca_plan.proofs.modes.is_op_in.Given as goal

abbrev pub invariant-marked : goal.invariant-marked
invariant-marked l = op_in (drop l.m-index l.marked) (record { 0 = l.op }) ≡ op_in l.marked (record { 0 = l.op })
