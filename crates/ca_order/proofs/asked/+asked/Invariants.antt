use Rattle.std.proofs.Common.{◌≡◌, drop, map}
use Rattle.ca_norm.specs.Terms.{shape, terms_of}
use Rattle.ca_order.specs.Asked.{all_asked}
use Rattle.ca_order.proofs.asked.+asked.Given as goal

abbrev pub invariant-add_all-loop-term : goal.invariant-add_all-loop-term
invariant-add_all-loop-term l = all_asked l.places (terms_of (map shape l.terms)) l.fn.pairs.items ≡ all_asked l.places (terms_of (map shape (drop l.term-index l.terms))) l.pairs.items
