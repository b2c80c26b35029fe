use Rattle.std.proofs.Common.{take}
use Rattle.ca_norm.specs.Terms.{terms_of}
use Rattle.ca_norm.specs.Measures.{MeasuresAll}
use Rattle.ca_shared_terms.proofs.light.measure_of_all.Given as goal

abbrev pub invariant-loop-term : goal.invariant-loop-term
invariant-loop-term l = MeasuresAll l.all (terms_of (take l.term-index l.terms))
