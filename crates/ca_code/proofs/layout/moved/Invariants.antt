use Rattle.std.proofs.Common.{◌≡◌, ◌+◌, ◌-◌, ℕ, map, take}
use Rattle.ca_code.proofs.layout.moved.Given as goal

abbrev pub invariant-places : goal.invariant-places
invariant-places l = l.others.items ≡ map (λ (n : ℕ). n - l.from + l.to) (take l.place-index l.places)
