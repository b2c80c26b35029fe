use Rattle.std.proofs.Common.{◌≤◌, drop}
use Rattle.ca_program.specs.View.{program_view}
use Rattle.ca_plan.specs.Texts.{extents_text}
use Rattle.ca_plan.specs.Told.{shared}
use Rattle.ca_plan.proofs.Written.{Doing}
use Rattle.ca_plan.proofs.texts.add_extents.Given as goal

-- the lines so far were added
abbrev pub invariant-loop-op : goal.invariant-loop-op
invariant-loop-op g l = record {
  texts : Doing (g.K.Sink.written l.initial.sink) (g.K.Sink.written l.sink) l.initial.line l.line (extents_text (program_view l.program) 0 (shared l.ops)) (extents_text (program_view l.program) l.op (drop l.op (shared l.ops)));
  later : g.K.Sink.faults l.initial.sink ≤ g.K.Sink.faults l.sink;
}
