use Rattle.std.proofs.Common.{◌≤◌, ◌++◌, take}
use Rattle.ca_model.specs.Lines.{Went}
use Rattle.ca_model.specs.Lines.{joined}
use Rattle.ca_model.proofs.line.add_parts.Given as goal

abbrev pub invariant-loop-part : goal.invariant-loop-part
invariant-loop-part g l = record {
  went : Went (g.K.Sink.written l.initial.sink) (g.K.Sink.written l.sink) (l.initial.line ++ joined (take l.part-index l.parts)) l.line;
  later : g.K.Sink.faults l.initial.sink ≤ g.K.Sink.faults l.sink;
}
