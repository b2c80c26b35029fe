use Rattle.std.proofs.Common.{◌≡◌, ◌++◌, length, drop}
use Rattle.ca_symbolic.specs.States.{parameters}
use Rattle.ca_symbolic.proofs.state.parameters.Given as goal

abbrev pub invariant-loop-ty : goal.invariant-loop-ty
invariant-loop-ty l = (length l.terms.items ≡ l.ty-index) × (l.terms.items ++ parameters l.group l.ty-index (drop l.ty-index l.types) ≡ parameters l.group 0 l.types)
