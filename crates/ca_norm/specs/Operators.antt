-- Terms by their operators.
use Rattle.ca_norm.specs.declared.operators.Unary.{Unary}
use Rattle.ca_norm.specs.declared.operators.Unary.TheVariants as unary
use Rattle.ca_norm.specs.declared.operators.Binary.{Binary}
use Rattle.ca_norm.specs.declared.operators.Binary.TheVariants as binary
use Rattle.ca_norm.specs.declared.operators.Ternary.{Ternary}
use Rattle.ca_norm.specs.declared.operators.Ternary.TheVariants as ternary
use Rattle.ca_norm.specs.Terms.{PlainTerm, add, sub, neg, mul, divide, remainder, less, less_equal, same, not, and, or, choose, select, put, add_at, fold}

abbrev pub over_one : Unary → PlainTerm → PlainTerm
over_one unary.Neg a = neg a
over_one unary.Not a = not a
over_one (unary.Divide n) a = divide a n
over_one (unary.Remainder n) a = remainder a n

abbrev pub over_two : Binary → PlainTerm → PlainTerm → PlainTerm
over_two binary.Add a b = add a b
over_two binary.Sub a b = sub a b
over_two binary.Mul a b = mul a b
over_two binary.Less a b = less a b
over_two binary.LessEqual a b = less_equal a b
over_two binary.Same a b = same a b
over_two binary.And a b = and a b
over_two binary.Or a b = or a b
over_two binary.Select a i = select a i
over_two (binary.Fold o) a b = fold o a b

abbrev pub over_three : Ternary → PlainTerm → PlainTerm → PlainTerm → PlainTerm
over_three ternary.Choose c a b = choose c a b
over_three ternary.Put a i v = put a i v
over_three ternary.AddAt a i v = add_at a i v
