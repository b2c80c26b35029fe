-- Methods, members and expressions in memory, as plain ones.
use Rattle.std.specs.Prelude.{List, map, Option, Some, None}
use Rattle.std.specs.Borrow.{Bor}
use Rattle.ca_tree.specs.declared.tree.ExprNode.{ExprNode}
use Rattle.ca_tree.specs.declared.tree.Member.{Member}
use Rattle.ca_tree.specs.declared.tree.MethodNode.{MethodNode}
use Rattle.ca_tree.specs.Plain.{Expression, MethodTree, MemberTree}
use Rattle.ca_tree.specs.View.{expression_view, member_view, method_view}

abbrev pub methods_seen : List (Bor MethodNode) → List MethodTree
methods_seen ms = map (λ m. method_view m.now) ms

abbrev pub members_seen : List Member → List MemberTree
members_seen ms = map member_view ms

abbrev pub expression_seen : Option (Bor ExprNode) → Option Expression
expression_seen None = None
expression_seen (Some e) = Some (expression_view e.now)
