-- The assignments that change what their target holds, by their signs.
use Rattle.std.specs.Prelude.{List, [], ◌∷◌, Option, None, find}
use Rattle.ca_tree.specs.declared.name.Place.{Place}
use Rattle.ca_tree.specs.declared.token.Token.{Token}
use Rattle.ca_tree.specs.declared.token.Kind.{Kind}
use Rattle.ca_tree.specs.declared.token.Kind.TheVariants.{Sign as SignKind}
use Rattle.ca_tree.specs.declared.token.Sign.{Sign}
use Rattle.ca_tree.specs.declared.tree.AssignOp.{AssignOp}
use Rattle.ca_tree.specs.declared.tree.AssignOp.TheVariants.{Add, Sub, Mul, BitAnd, BitOr, BitXor}
use Rattle.ca_tree.specs.Codes.{same_sign}
use Rattle.ca_tree.specs.Operators.{assign_sign}

abbrev pub compounds : List AssignOp
compounds = Add ∷ Sub ∷ Mul ∷ BitAnd ∷ BitOr ∷ BitXor ∷ []

-- the one that is written by the sign, if there is one
abbrev pub compound_of_sign : Sign → Option AssignOp
compound_of_sign s = find (λ o. same_sign s (assign_sign o)) compounds

abbrev pub compound_of : Kind → Place → Option AssignOp
compound_of (SignKind s) at = compound_of_sign s
compound_of other at = None

-- the sign of one carries which one it is
abbrev pub compound : Token → Option AssignOp
compound t = compound_of t.kind t.at
