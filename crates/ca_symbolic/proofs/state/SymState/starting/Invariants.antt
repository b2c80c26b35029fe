use Rattle.std.proofs.Common.{◌≡◌, ◌++◌, length, drop}
use Rattle.ca_shared_terms.specs.Starts.{starts}
use Rattle.ca_symbolic.proofs.state.SymState.starting.Given as goal

abbrev pub invariant-loop-field : goal.invariant-loop-field
invariant-loop-field l = (length l.terms.items ≡ l.field-index) × (l.terms.items ++ starts l.field-index (drop l.field-index l.fields) ≡ starts 0 l.fields)
