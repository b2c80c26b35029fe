use Rattle.std.proofs.Common.{◌≡◌, ◌++◌, drop, map}
use Rattle.ca_emit.specs.Annotations.{place_number}
use Rattle.ca_emit.proofs.places.numbers_of.Given as goal

abbrev pub invariant-loop-at : goal.invariant-loop-at
invariant-loop-at l = l.numbers.items ++ map place_number (drop l.at-index l.places) ≡ map place_number l.places
