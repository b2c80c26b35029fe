use Rattle.std.proofs.Common.{◌≡◌, ◌≤◌, ◌++◌, List, ℕ, drop}
use Rattle.ca_model.specs.Texts.{fields_text}
use Rattle.ca_model.specs.Lines.{Went}
use Rattle.ca_model.proofs.print.add_fields.Given as goal

-- the texts of the fields so far were added
abbrev pub invariant-loop-i : goal.invariant-loop-i
invariant-loop-i g l = record {
  texts : (done : List ℕ) × (fields_text l.fields l.slots ≡ done ++ fields_text (drop l.i l.fields) (drop l.i l.slots)) × Went (g.K.Sink.written l.initial.sink) (g.K.Sink.written l.sink) (l.initial.line ++ done) l.line;
  later : g.K.Sink.faults l.initial.sink ≤ g.K.Sink.faults l.sink;
}
