-- The term that a node in memory stands for, over the terms below it.
use Rattle.ca_shared_terms.specs.declared.light.Node.{Node}
use Rattle.ca_shared_terms.specs.declared.light.Node.TheVariants as node
use Rattle.ca_norm.specs.Terms.{PlainTerm, number, truth, null, atom, add, sub, neg, mul, divide, remainder, less, less_equal, same, not, and, or, choose, read, read_at, result, select, put, add_at, fold, sweep}

abbrev pub node_of : Node → PlainTerm
node_of (node.Number n) = number n
node_of (node.Truth b) = truth b
node_of node.Null = null
node_of (node.Atom s g n) = atom s g n
node_of (node.Add a b) = add a b
node_of (node.Sub a b) = sub a b
node_of (node.Neg a) = neg a
node_of (node.Mul a b) = mul a b
node_of (node.Divide a n) = divide a n
node_of (node.Remainder a n) = remainder a n
node_of (node.Less a b) = less a b
node_of (node.LessEqual a b) = less_equal a b
node_of (node.Same a b) = same a b
node_of (node.Not a) = not a
node_of (node.And a b) = and a b
node_of (node.Or a b) = or a b
node_of (node.Choose c a b) = choose c a b
node_of (node.Read s p c f) = read s p c f
node_of (node.ReadAt s p c f i) = read_at s p c f i
node_of (node.Result s m p ts) = result s m p ts
node_of (node.Select a i) = select a i
node_of (node.Put a i v) = put a i v
node_of (node.AddAt a i v) = add_at a i v
node_of (node.Fold o a b) = fold o a b
node_of (node.Sweep a f t v) = sweep a f t v
