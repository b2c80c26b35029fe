use Rattle.std.proofs.Common.{◌≡◌, ◌++◌, take}
use Rattle.ca_symbolic.proofs.state.shared_behind.Given as goal

abbrev pub invariant-loop-term : goal.invariant-loop-term
invariant-loop-term l = l.terms.items ≡ l.initial.terms.items ++ take l.term-index l.others
