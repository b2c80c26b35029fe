-- Operations of a tree, found one after another.
use Rattle.std.proofs.Common.{◌≡◌, List, [], ◌∷◌, ◌++◌, map, Option, Some, None, refl}
use Rattle.ca_tree.specs.declared.tree.ClassNode.{ClassNode}
use Rattle.ca_tree.specs.declared.tree.Member.{Member}
use Rattle.ca_tree.specs.declared.tree.TypeNode.{TypeNode}
use Rattle.ca_tree.specs.Plain.{MethodTree, MemberTree, field_member, method_member}
use Rattle.ca_tree.specs.View.{class_view, member_view}
use Rattle.ca_emit.specs.Annotations.{operation_and, operations_in, operations_of}
use Rattle.ca_emit.specs.clauses.Seen.{members_seen}

by_result : (r : Option TypeNode) (m : MethodTree) (ms : List MethodTree) → operation_and r m ms ≡ operation_and r m [] ++ ms
by_result None m ms = refl
by_result (Some ty) m ms = refl

by_member : (m : MemberTree) (ms : List MemberTree) → operations_in (m ∷ ms) ≡ operations_in (m ∷ []) ++ operations_in ms
by_member (field_member f) ms = refl
by_member (method_member m) ms = by_result m.result m (operations_in ms)

-- one member, and those behind it
pub of_members : (m : Member) (ms : List Member) → operations_in (members_seen (m ∷ ms)) ≡ operations_in (member_view m ∷ []) ++ operations_in (members_seen ms)
of_members m ms = by_member (member_view m) (members_seen ms)

-- the operations of classes in memory
abbrev pub of_classes : List ClassNode → List MethodTree
of_classes cs = operations_of (map class_view cs)
