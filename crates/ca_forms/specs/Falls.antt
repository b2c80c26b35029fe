-- What stands in a part, a pointer or an argument is smaller than it.
use Rattle.std.specs.Prelude.{◌≤◌, max}
use Rattle.std.proofs.Common.{arith}
use Rattle.ca_forms.specs.declared.polynomial.Node.{Node}
use Rattle.ca_forms.specs.declared.polynomial.Node.TheVariants as node
use Rattle.ca_forms.specs.declared.polynomial.Unary.TheVariants as unary
use Rattle.ca_forms.specs.declared.polynomial.PointerNode.{PointerNode}
use Rattle.ca_forms.specs.declared.polynomial.PointerNode.TheVariants as pointer
use Rattle.ca_forms.specs.declared.polynomial.ScalarNode.{ScalarNode}
use Rattle.ca_forms.specs.declared.polynomial.ScalarNode.TheVariants as scalar
use Rattle.ca_forms.specs.declared.polynomial.Monomial.TheDeep.{deep-Node, deep-PointerNode, deep-ScalarNode}
use Rattle.ca_forms.specs.Seen.{part_of, pointer_of, scalar_of}
use Rattle.ca_forms.specs.Lists.{part_size, pointer_size, scalar_size}

pub part_falls : (n : Node) → max (deep-Node n) 0 ≤ part_size (part_of n)
part_falls (node.Variable s g n) = omega arith
part_falls (node.Over unary.Zero a) = omega arith
part_falls (node.Over (unary.Quotient n) a) = omega arith
part_falls (node.Over (unary.Modulus n) a) = omega arith
part_falls (node.Over (unary.OwnItem s g n) a) = omega arith
part_falls (node.Less a b) = omega arith
part_falls (node.SamePointer p q) = omega arith
part_falls (node.Field s p c f) = omega arith
part_falls (node.Item s p c f i) = omega arith
part_falls (node.Result s m p xs) = omega arith
part_falls (node.Fold o w xs) = omega arith

pub pointer_falls : (n : PointerNode) → max (deep-PointerNode n) 0 ≤ pointer_size (pointer_of n)
pointer_falls pointer.Null = omega arith
pointer_falls (pointer.Part p) = omega arith
pointer_falls (pointer.Choice c p q) = omega arith

pub scalar_falls : (n : ScalarNode) → max (deep-ScalarNode n) 0 ≤ scalar_size (scalar_of n)
scalar_falls (scalar.Number f) = omega arith
scalar_falls (scalar.Truth f) = omega arith
scalar_falls (scalar.Pointer p) = omega arith
