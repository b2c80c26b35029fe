use Rattle.std.proofs.Common.{◌≡◌, ◌++◌, drop}
use Rattle.ca_program.specs.View.{program_view}
use Rattle.ca_plan.specs.Told.{shared}
use Rattle.ca_emit.specs.Annotations.{locked_in, locked_ops, reached_by_ops, reached_by_loops}
use Rattle.ca_emit.proofs.parallel.locked_ops.Given as goal

abbrev pub invariant-loop-n : goal.invariant-loop-n
invariant-loop-n l = l.locked.items ++ reached_by_ops (locked_in (program_view l.program)) l.plan.marks.ops l.n (drop l.n (shared l.ops)) ≡ reached_by_ops (locked_in (program_view l.program)) l.plan.marks.ops 0 l.plan.ops

abbrev pub invariant-loop-one : goal.invariant-loop-one
invariant-loop-one l = l.locked.items ++ reached_by_loops (locked_in (program_view l.program)) l.plan.marks.loops (drop l.one-index l.loops) ≡ locked_ops (program_view l.program) l.plan
