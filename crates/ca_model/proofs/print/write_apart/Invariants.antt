use Rattle.std.proofs.Common.{◌≡◌, ◌≤◌, ◌++◌, List, ℕ, drop}
use Rattle.ca_base.specs.Devices.{grown}
use Rattle.ca_program.specs.View.{program_view}
use Rattle.ca_model.specs.Texts.{heap_text, objects_text}
use Rattle.ca_model.proofs.print.write_apart.Given as goal

-- the lines of the objects so far were written
abbrev pub invariant-loop-id : goal.invariant-loop-id
invariant-loop-id g l = record {
  texts : (done : List ℕ) × (heap_text (program_view l.program) l.heap ≡ done ++ objects_text (program_view l.program) l.id (drop l.id l.heap)) × (g.K.Sink.written l.sink ≡ grown (g.K.Sink.written l.initial.sink) done);
  later : g.K.Sink.faults l.initial.sink ≤ g.K.Sink.faults l.sink;
}
