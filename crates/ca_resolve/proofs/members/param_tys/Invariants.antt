use Rattle.std.proofs.Common.{◌≡◌, map, take}
use Rattle.ca_resolve.specs.Scopes.{ty_of}
use Rattle.ca_resolve.specs.LocalView.{ty_view}
use Rattle.ca_resolve.proofs.members.param_tys.Given as goal

abbrev pub invariant-loop-param : goal.invariant-loop-param
invariant-loop-param l = map ty_view l.types.items ≡ map (λ p. ty_of l.classes p.ty) (take l.param-index l.params)
