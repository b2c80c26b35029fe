use Rattle.std.proofs.Common.{◌≡◌, ◌+◌, ◌*◌, map, take}
use Rattle.ca_norm.specs.Terms.{shape}
use Rattle.ca_shared_terms.specs.Sizes.{term_size, terms_size}
use Rattle.ca_shared_terms.proofs.light.+unshared.Given as goal

abbrev pub invariant-Arguments::unshared-loop-item : goal.invariant-Arguments::unshared-loop-item
invariant-Arguments::unshared-loop-item l = map shape l.terms.items ≡ take l.item-index l.item-items

abbrev pub decreases-LightTerm::unshared : goal.decreases-LightTerm::unshared
decreases-LightTerm::unshared l = 4 * term_size l.self.now + 1

abbrev pub decreases-LightTerm::unshared_other : goal.decreases-LightTerm::unshared_other
decreases-LightTerm::unshared_other l = 4 * term_size l.self.now

abbrev pub decreases-LightTerm::boxed : goal.decreases-LightTerm::boxed
decreases-LightTerm::boxed l = 4 * term_size l.self.now + 2

abbrev pub decreases-Arguments::unshared : goal.decreases-Arguments::unshared
decreases-Arguments::unshared l = 4 * terms_size l.self.now + 3
