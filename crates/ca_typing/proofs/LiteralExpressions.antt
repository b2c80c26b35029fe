-- Where each number among the tokens fits, each number in an expression that they derive fits. No sign makes a number
-- greater: a minus in front of a number is a node of its own.
use Rattle.std.proofs.Common.{ℕ, List, Option, Some, None, subst}
use Rattle.ca_descent.specs.Exact.{Sees, sees}
use Rattle.ca_tree.specs.declared.name.Place.{Place}
use Rattle.ca_tree.specs.declared.token.Token.{Token}
use Rattle.ca_tree.specs.declared.token.Keyword.{Keyword}
use Rattle.ca_tree.specs.declared.token.Keyword.TheVariants.{True}
use Rattle.ca_tree.specs.declared.token.Kind.{Kind}
use Rattle.ca_tree.specs.declared.token.Kind.TheVariants.{Word, Number, Key, Sign}
use Rattle.ca_tree.specs.declared.tree.BinaryOp.{BinaryOp}
use Rattle.ca_tree.specs.Plain.{Expression}
use Rattle.ca_expressions.specs.Terminals.{literal, literal_of, literal_of_key}
use Rattle.ca_expressions.specs.Grammar.{expressions, Level, operands, one_operand, Operands, operands_end, operands_more, Unary, unary_first, unary_last, Primary, a_literal, a_chain, in_brackets, by_word, Sides, sides, Chain, this_chain, name_chain, call_chain, Tails, tails_end, tails_more, Tail, field_tail, method_tail, index_tail, Args, args, Listed, listed_none, listed, Further, further_none, further, OuterExpression, OuterChain}
use Rattle.ca_typing.proofs.Fits.{KindFits, TokensFit, NumbersFit, AllNumbersFit}

-- the tokens behind the first
pub behind : {A : Type 0} {want : Token → Option A} {s r : List Token} {a : A} → Sees want s a r → TokensFit s → TokensFit r
behind (sees e) h = h.1

-- what a token carries fits, if it carries an expression
abbrev CarriedFits : Option Expression → Type 0
CarriedFits None = Unit {0}
CarriedFits (Some x) = NumbersFit x

key_fits : (k : Keyword) (at : Place) → CarriedFits (literal_of_key k at)
key_fits True at = tt
key_fits other at = tt

kind_fits : (k : Kind) (at : Place) → KindFits k → CarriedFits (literal_of k at)
kind_fits (Number n) at h = h
kind_fits (Word name) at h = tt
kind_fits (Key k) at h = key_fits k at
kind_fits (Sign sign) at h = tt

literal_fits : {s r : List Token} {x : Expression} → Sees literal s x r → TokensFit s → NumbersFit x × TokensFit r
literal_fits (sees {t = t} e) h = (subst CarriedFits e (kind_fits t.kind t.at h.0), h.1)

mutual
  pub level_fits : {k : ℕ} {s r : List Token} {x : Expression} → Level k s x r → TokensFit s → NumbersFit x × TokensFit r
  level_fits (operands few l o) h = let first = level_fits l h in operands_fit o first.0 first.1
  level_fits (one_operand deep u) h = unary_fits u h

  operands_fit : {k : ℕ} {a x : Expression} {s r : List Token} → Operands k a s x r → NumbersFit a → TokensFit s → NumbersFit x × TokensFit r
  operands_fit operands_end f h = (f, h)
  operands_fit (operands_more o l d) f h = let next = level_fits l (behind o h) in operands_fit d (f, next.0) next.1

  unary_fits : {s r : List Token} {x : Expression} → Unary s x r → TokensFit s → NumbersFit x × TokensFit r
  unary_fits (unary_first o u) h = unary_fits u (behind o h)
  unary_fits (unary_last d) h = primary_fits d h

  primary_fits : {s r : List Token} {x : Expression} → Primary s x r → TokensFit s → NumbersFit x × TokensFit r
  primary_fits (a_literal d) h = literal_fits d h
  primary_fits (a_chain c) h = chain_fits c h
  primary_fits (in_brackets o l c d) h = let inner = level_fits l (behind o h) in tails_fit d inner.0 (behind c inner.1)
  primary_fits (by_word w d) h = sides_fit d (behind w h)

  sides_fit : {o : BinaryOp × Place} {s r : List Token} {x : Expression} → Sides o s x r → TokensFit s → NumbersFit x × TokensFit r
  sides_fit (sides p a c b d) h =
      let first = level_fits a (behind p h) in
      let next = level_fits b (behind c first.1) in
      ((first.0, next.0), behind d next.1)

  pub chain_fits : {s r : List Token} {x : Expression} → Chain s x r → TokensFit s → NumbersFit x × TokensFit r
  chain_fits (this_chain k d) h = tails_fit d tt (behind k h)
  chain_fits (name_chain n d) h = tails_fit d tt (behind n h)
  chain_fits (call_chain n a d) h = let all = args_fit a (behind n h) in tails_fit d all.0 all.1

  tails_fit : {a x : Expression} {s r : List Token} → Tails a s x r → NumbersFit a → TokensFit s → NumbersFit x × TokensFit r
  tails_fit tails_end f h = (f, h)
  tails_fit (tails_more t d) f h = let next = tail_fits t f h in tails_fit d next.0 next.1

  tail_fits : {a x : Expression} {s r : List Token} → Tail a s x r → NumbersFit a → TokensFit s → NumbersFit x × TokensFit r
  tail_fits (field_tail p n) f h = (f, behind n (behind p h))
  tail_fits (method_tail p n a) f h = let all = args_fit a (behind n (behind p h)) in ((f, all.0), all.1)
  tail_fits (index_tail o l c) f h = let inner = level_fits l (behind o h) in ((f, inner.0), behind c inner.1)

  args_fit : {s r : List Token} {xs : List Expression} → Args s xs r → TokensFit s → AllNumbersFit (expressions xs) × TokensFit r
  args_fit (args o d) h = listed_fit d (behind o h)

  listed_fit : {s r : List Token} {xs : List Expression} → Listed s xs r → TokensFit s → AllNumbersFit (expressions xs) × TokensFit r
  listed_fit (listed_none c) h = (tt, behind c h)
  listed_fit (listed l d) h = let first = level_fits l h in let rest = further_fit d first.1 in ((first.0, rest.0), rest.1)

  further_fit : {s r : List Token} {xs : List Expression} → Further s xs r → TokensFit s → AllNumbersFit (expressions xs) × TokensFit r
  further_fit (further_none c) h = (tt, behind c h)
  further_fit (further c l d) h = let first = level_fits l (behind c h) in let rest = further_fit d first.1 in ((first.0, rest.0), rest.1)

pub expression_fits : {free : ℕ} {s r : List Token} {x : Expression} → OuterExpression free s x r → TokensFit s → NumbersFit x × TokensFit r
expression_fits {r = r} d h = level_fits (d.derives r) (subst TokensFit d.cut h)

pub outer_chain_fits : {free : ℕ} {s r : List Token} {x : Expression} → OuterChain free s x r → TokensFit s → NumbersFit x × TokensFit r
outer_chain_fits {r = r} d h = chain_fits (d.derives r) (subst TokensFit d.cut h)
