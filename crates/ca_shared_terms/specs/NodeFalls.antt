-- What stands below a node is smaller than it.
use Rattle.std.specs.Prelude.{◌≤◌, max}
use Rattle.std.proofs.Common.{arith}
use Rattle.ca_shared_terms.specs.declared.light.Node.{Node}
use Rattle.ca_shared_terms.specs.declared.light.Node.TheVariants as node
use Rattle.ca_shared_terms.specs.declared.light.Arguments.TheDeep.{deep-Node}
use Rattle.ca_shared_terms.specs.Sizes.{term_size}
use Rattle.ca_shared_terms.specs.Nodes.{node_of}

pub node_falls : (n : Node) → max (deep-Node n) 0 ≤ term_size (node_of n)
node_falls (node.Number n) = omega arith
node_falls (node.Truth b) = omega arith
node_falls node.Null = omega arith
node_falls (node.Atom s g n) = omega arith
node_falls (node.Add a b) = omega arith
node_falls (node.Sub a b) = omega arith
node_falls (node.Neg a) = omega arith
node_falls (node.Mul a b) = omega arith
node_falls (node.Divide a n) = omega arith
node_falls (node.Remainder a n) = omega arith
node_falls (node.Less a b) = omega arith
node_falls (node.LessEqual a b) = omega arith
node_falls (node.Same a b) = omega arith
node_falls (node.Not a) = omega arith
node_falls (node.And a b) = omega arith
node_falls (node.Or a b) = omega arith
node_falls (node.Choose c a b) = omega arith
node_falls (node.Read s p c f) = omega arith
node_falls (node.ReadAt s p c f i) = omega arith
node_falls (node.Result s m p ts) = omega arith
node_falls (node.Select a i) = omega arith
node_falls (node.Put a i v) = omega arith
node_falls (node.AddAt a i v) = omega arith
node_falls (node.Fold o a b) = omega arith
node_falls (node.Sweep a f t v) = omega arith
