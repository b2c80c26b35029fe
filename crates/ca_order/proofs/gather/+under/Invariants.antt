use Rattle.std.proofs.Common.{◌≡◌, map, take}
use Rattle.ca_norm.specs.Terms.{shape}
use Rattle.ca_order.specs.Under.{under}
use Rattle.ca_norm.specs.Forms.{scalar_of}
use Rattle.ca_order.proofs.gather.+under.Given as goal

abbrev pub invariant-arguments_of-loop-term : goal.invariant-arguments_of-loop-term
invariant-arguments_of-loop-term l = l.items.items ≡ map scalar_of (map (under l.places) (map shape (take l.term-index l.terms)))
