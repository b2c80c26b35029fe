-- Derivations of short expressions.
use Rattle.std.proofs.Common.{◌≡◌, ℕ, zero, suc, ◌+◌, ◌≤◌, List, ◌∷◌, ◌++◌, length, refl, subst, arith, inl}
use Rattle.std.specs.Prelude.{ℤ}
use Rattle.ca_descent.specs.Exact.{sees, Short}
use Rattle.ca_tree.specs.declared.name.Place.{Place}
use Rattle.ca_tree.specs.declared.token.Kind.TheVariants.{Word, Number}
use Rattle.ca_tree.specs.declared.token.Token.{Token}
use Rattle.ca_tree.specs.declared.tree.BinaryOp.TheVariants.{Less, Plus, Times}
use Rattle.ca_tree.specs.declared.operators.TheConstants.{LEVELS}
use Rattle.ca_tree.specs.Operators.{level}
use Rattle.ca_tree.specs.Plain.{Expression, number, named}
use Rattle.ca_expressions.specs.Grammar.{Level, operands, one_operand, operands_end, Unary, unary_last, a_literal, a_chain, Chain, name_chain, tails_end}

-- an expression of a level is one operand of each weaker level
weakest : {s r : List Token} {x : Expression} (k : ℕ) → k ≤ LEVELS → Level k s x r → Level 0 s x r
weakest zero h d = d
weakest {s} {r} {x} (suc k) h d =
    let e : suc k ≡ k + 1 = omega arith in
    weakest k (omega (arith, h)) (operands (omega (arith, h)) (subst (λ n. Level n s x r) e d) operands_end)

-- an expression without binary operators, at the level of a sum's operands, of a comparison's, and of all
pub a_factor : {s r : List Token} {x : Expression} → Unary s x r → Level (level Times) s x r
a_factor d = operands (omega arith) (one_operand (omega arith) d) operands_end

pub a_summand : {s r : List Token} {x : Expression} → Unary s x r → Level (level Plus) s x r
a_summand d = operands (omega arith) (a_factor d) operands_end

pub from_sum : {s r : List Token} {x : Expression} → Level (level Plus) s x r → Level 0 s x r
from_sum d = weakest (level Plus) (omega arith) d

pub from_comparison : {s r : List Token} {x : Expression} → Level (level Less) s x r → Level 0 s x r
from_comparison d = weakest (level Less) (omega arith) d

pub alone : {s r : List Token} {x : Expression} → Unary s x r → Level 0 s x r
alone d = from_sum (a_summand d)

pub chain_alone : {s r : List Token} {x : Expression} → Chain s x r → Level 0 s x r
chain_alone d = alone (unary_last (a_chain d))

pub a_name : {n : List ℕ} {at : Place} {start len : ℕ} {r : List Token} → Level 0 (record { kind = Word n; at = at; start = start; len = len } ∷ r) (named at n) r
a_name = chain_alone (name_chain (sees refl) tails_end)

pub a_number : {n : ℤ} {at : Place} {start len : ℕ} {r : List Token} → Level 0 (record { kind = Number n; at = at; start = start; len = len } ∷ r) (number at n) r
a_number = alone (unary_last (a_literal (sees refl)))

-- an expression or a chain of these tokens, whatever stands behind them
pub short : {G : List Token → Expression → List Token → Type 0} {free : ℕ} {x : Expression} (front r : List Token)
    → ((z : List Token) → G (front ++ z) x z) → length front ≤ 1000 → Short 1000 G free (front ++ r) x r
short front r d h = record { front = front; cut = refl; derives = d; within = inl h }
