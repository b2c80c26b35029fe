use Rattle.ca_shared_terms.specs.Sizes.{term_size}
use Rattle.ca_shared_terms.proofs.light.LightTerm.+same.Given as goal

abbrev pub decreases-is_same : goal.decreases-is_same
decreases-is_same l = term_size l.self.now
