use Rattle.std.proofs.Common.{◌≡◌, ◌≤◌, ◌++◌, List, [], ℕ, length}
use Rattle.ca_base.specs.Devices.{grown}
use Rattle.ca_base.proofs.write_whole.write_all.Given as goal

-- what was written and the rest make the piece, and an empty piece leaves the sink alone
abbrev pub invariant-loop-rest : goal.invariant-loop-rest
invariant-loop-rest g l = record {
  parts : (done : List ℕ) × (l.piece ≡ done ++ l.rest) × (g.K.Sink.written l.sink ≡ grown (g.K.Sink.written l.initial.sink) done);
  later : g.K.Sink.faults l.initial.sink ≤ g.K.Sink.faults l.sink;
  untouched : l.piece ≡ [] → l.sink ≡ l.initial.sink;
}

abbrev pub decreases-loop-rest : goal.decreases-loop-rest
decreases-loop-rest g l = length l.rest
