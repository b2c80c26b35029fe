use Rattle.std.proofs.Common.{◌≡◌, ◌++◌, drop}
use Rattle.ca_program.specs.View.{program_view}
use Rattle.ca_emit.specs.Annotations.{locked_in, locked_of}
use Rattle.ca_emit.proofs.parallel.add_all_locked.Given as goal

abbrev pub invariant-loop-op : goal.invariant-loop-op
invariant-loop-op l = l.out.items ++ locked_of (program_view l.program) l.extent.written (drop l.op-index l.ops) ≡ l.initial.out.items ++ locked_in (program_view l.program) l.extent
