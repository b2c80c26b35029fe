-- Expressions and chains that stand in no other, as parts of what stands round them.
use Rattle.std.proofs.Common.{◌≡◌, ℕ, List, Option, None, subst, sym}
use Rattle.ca_descent.specs.Exact.{head_of}
use Rattle.ca_descent.proofs.Parts.{Part}
use Rattle.ca_descent.proofs.Short.{short_default}
use Rattle.ca_tree.specs.declared.name.Place.{Place}
use Rattle.ca_tree.specs.declared.token.Token.{Token}
use Rattle.ca_tree.specs.declared.token.Kind.{Kind}
use Rattle.ca_tree.specs.Plain.{Expression}
use Rattle.ca_expressions.specs.Grammar.{OuterExpression, OuterChain, ExpressionEnded}
use Rattle.ca_expressions.proofs.Terminals.{test}
use Rattle.ca_expressions.proofs.Follow.{NoFront, NoChainFront, level_begins, chain_front}
use Rattle.ca_expressions.proofs.Rules.{a_level}

abbrev pub an_expression : Part Token Expression
an_expression = record { D = OuterExpression; C = ExpressionEnded; some = short_default 1000 (a_level 0).some }

-- a test that holds of no token with which it can begin does not hold of its first token
pub expression_begins : {A : Type 0} (f : Kind → Place → Option A) → NoFront f → (free : ℕ) (s r : List Token) (x : Expression)
    → OuterExpression free s x r → head_of (test f) s ≡ None
expression_begins f h free s r x d = subst (λ z. head_of (test f) z ≡ None) (sym d.cut) (level_begins f h (d.derives r))

pub outer_chain_begins : {A : Type 0} (f : Kind → Place → Option A) → NoChainFront f → (free : ℕ) (s r : List Token) (x : Expression)
    → OuterChain free s x r → head_of (test f) s ≡ None
outer_chain_begins f h free s r x d = subst (λ z. head_of (test f) z ≡ None) (sym d.cut) (chain_front f h (d.derives r))
