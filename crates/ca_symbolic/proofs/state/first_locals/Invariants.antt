use Rattle.std.proofs.Common.{◌≡◌, ◌++◌, map, drop}
use Rattle.ca_symbolic.specs.States.{start_term}
use Rattle.ca_symbolic.proofs.state.first_locals.Given as goal

abbrev pub invariant-loop-ty : goal.invariant-loop-ty
invariant-loop-ty l = l.terms.items ++ map start_term (drop l.ty-index l.others) ≡ l.initial.terms.items ++ map start_term l.others
