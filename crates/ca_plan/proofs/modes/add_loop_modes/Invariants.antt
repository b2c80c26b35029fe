use Rattle.std.proofs.Common.{◌≤◌, drop}
use Rattle.std.specs.Prelude.{flat_map}
use Rattle.ca_plan.specs.Texts.{loop_mode_text}
use Rattle.ca_plan.proofs.Written.{Doing}
use Rattle.ca_plan.proofs.modes.add_loop_modes.Given as goal

-- the lines so far were added
abbrev pub invariant-loop-one : goal.invariant-loop-one
invariant-loop-one g l = record {
  texts : Doing (g.K.Sink.written l.initial.sink) (g.K.Sink.written l.sink) l.initial.line l.line (flat_map (loop_mode_text l.marked) l.loops) (flat_map (loop_mode_text l.marked) (drop l.one-index l.loops));
  later : g.K.Sink.faults l.initial.sink ≤ g.K.Sink.faults l.sink;
}
