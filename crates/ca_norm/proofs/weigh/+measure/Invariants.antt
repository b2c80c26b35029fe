use Rattle.std.proofs.Common.{map, take}
use Rattle.ca_norm.specs.Terms.{shape, terms_of}
use Rattle.ca_norm.specs.Measures.{MeasuresAll}
use Rattle.ca_norm.proofs.weigh.+measure.Given as goal

abbrev pub invariant-measure_of_all-loop-term : goal.invariant-measure_of_all-loop-term
invariant-measure_of_all-loop-term l = MeasuresAll l.all (terms_of (map shape (take l.term-index l.terms)))
