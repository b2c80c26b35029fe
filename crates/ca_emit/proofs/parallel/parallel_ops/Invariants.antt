use Rattle.std.proofs.Common.{◌≡◌, ◌++◌, drop}
use Rattle.ca_plan.specs.Told.{shared}
use Rattle.ca_emit.specs.Annotations.{all_ops, parallel_ops, reached_by_ops, reached_by_loops}
use Rattle.ca_emit.proofs.parallel.parallel_ops.Given as goal

abbrev pub invariant-loop-n : goal.invariant-loop-n
invariant-loop-n l = l.parallel.items ++ reached_by_ops all_ops l.plan.marks.ops l.n (drop l.n (shared l.ops)) ≡ reached_by_ops all_ops l.plan.marks.ops 0 l.plan.ops

abbrev pub invariant-loop-one : goal.invariant-loop-one
invariant-loop-one l = l.parallel.items ++ reached_by_loops all_ops l.plan.marks.loops (drop l.one-index l.loops) ≡ parallel_ops l.plan
