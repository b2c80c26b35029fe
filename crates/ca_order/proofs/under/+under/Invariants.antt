use Rattle.std.proofs.Common.{◌≡◌, map, take}
use Rattle.ca_norm.specs.Terms.{shape}
use Rattle.ca_order.specs.Under.{under}
use Rattle.ca_order.proofs.under.+under.Given as goal

abbrev pub invariant-all_under-loop-term : goal.invariant-all_under-loop-term
invariant-all_under-loop-term l = map shape l.items.items ≡ map (under l.places) (map shape (take l.term-index l.terms))
