use Rattle.std.proofs.Common.{◌≡◌, ◌≤◌, ◌++◌, List, ℕ, drop}
use Rattle.ca_model.specs.Texts.{further_values_text}
use Rattle.ca_model.specs.Lines.{Went}
use Rattle.ca_model.proofs.print.add_further_values.Given as goal

-- the texts of the values so far were added
abbrev pub invariant-loop-value : goal.invariant-loop-value
invariant-loop-value g l = record {
  texts : (done : List ℕ) × (further_values_text l.values ≡ done ++ further_values_text (drop l.value-index l.values)) × Went (g.K.Sink.written l.initial.sink) (g.K.Sink.written l.sink) (l.initial.line ++ done) l.line;
  later : g.K.Sink.faults l.initial.sink ≤ g.K.Sink.faults l.sink;
}
