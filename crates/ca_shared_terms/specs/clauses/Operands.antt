-- What a term is made of by an operator.
use Rattle.std.specs.Prelude.{◌≡◌}
use Rattle.ca_norm.specs.Terms.{PlainTerm}
use Rattle.ca_norm.specs.Operators.{over_one, over_two, over_three}
use Rattle.ca_shared_terms.specs.declared.operands.Operands.{Operands}
use Rattle.ca_shared_terms.specs.declared.operands.Operands.TheVariants as operands

abbrev pub AreOperands : Operands → PlainTerm → Type 0
AreOperands (operands.One f a) t = over_one f a.now ≡ t
AreOperands (operands.Two f a b) t = over_two f a.now b.now ≡ t
AreOperands (operands.Three f a b c) t = over_three f a.now b.now c.now ≡ t
AreOperands operands.Other t = Unit {0}
