use Rattle.ca_meaning.proofs.Weights.{weighed_by_tests, counted_by_weights}
use Rattle.ca_meaning.proofs.laws.tests_count_weights.Goals as goal

pub returns : goal.returns
returns c s = record { same = weighed_by_tests; counted = counted_by_weights }
