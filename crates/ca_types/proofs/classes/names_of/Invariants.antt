use Rattle.std.proofs.Common.{◌≡◌, map, take}
use Rattle.ca_tree.specs.View.{member_view}
use Rattle.ca_resolve.specs.Scopes.{member_name}
use Rattle.ca_types.proofs.classes.names_of.Given as goal

abbrev pub invariant-loop-member : goal.invariant-loop-member
invariant-loop-member l = map (λ n. n.now) l.all.items ≡ map member_name (map member_view (take l.member-index l.members))
