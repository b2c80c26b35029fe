-- Each derivation of an expression or a chain is what an exact answer says, so tokens derive one.
use Rattle.std.proofs.Common.{◌≡◌, ◌<◌, ◌≤◌, ◌+◌, ℕ, List, Option, Some, None, refl, sym, subst, arith}
use Rattle.ca_descent.specs.Exact.{Unlimited, Got, Exact, head_of}
use Rattle.ca_descent.proofs.Exact.{sees_got, sees_head, sees_parts}
use Rattle.ca_descent.proofs.Parts.{and_ok, and_done}
use Rattle.ca_descent.proofs.Separated.{following_more, following_stop, separated_stop, separated_more}
use Rattle.ca_tree.specs.declared.name.Place.{Place}
use Rattle.ca_tree.specs.declared.token.Token.{Token}
use Rattle.ca_tree.specs.declared.token.Keyword.TheVariants.{This}
use Rattle.ca_tree.specs.declared.token.Sign.TheVariants.{OpenParenthesis, CloseParenthesis, OpenBracket, CloseBracket, Comma, Arrow}
use Rattle.ca_tree.specs.declared.tree.BinaryOp.{BinaryOp}
use Rattle.ca_tree.specs.declared.operators.TheConstants.{LEVELS}
use Rattle.ca_tree.specs.Operators.{unary_level}
use Rattle.ca_tree.specs.Plain.{Expression}
use Rattle.ca_expressions.specs.Terminals.{key, key_of, sign, sign_of, goes_on, goes_on_of, literal, unary_operator, operator, word_operator, tail_front, tail_of}
use Rattle.ca_expressions.specs.Grammar.{Level, operands, one_operand, Operands, operands_end, operands_more, Unary, unary_first, unary_last, Primary, a_literal, a_chain, in_brackets, by_word, Sides, sides, Chain, this_chain, name_chain, call_chain, Tails, tails_end, tails_more, Tail, field_tail, method_tail, index_tail, Args, args, Listed, listed_none, listed, Further, further_none, further, Expr, OuterExpression, ExpressionEnded, OuterChain, ChainEnded}
use Rattle.ca_expressions.specs.Readers.{Closed}
use Rattle.ca_expressions.proofs.Terminals.{sign_gives, name_gives}
use Rattle.ca_expressions.proofs.Follow.{primary_no_unary, chain_no_literal, chain_no_word, chain_no_bracket, operator_goes_on, operands_follow, tail_goes_on, tails_follow}
use Rattle.ca_expressions.proofs.Lists.{InBrackets, MoreItems}
use Rattle.ca_expressions.proofs.Rules.{level_answer, unary_answer, operand_answer, operands_stop, sign_answer, primary_answer, literal_answer, bracket_answer, word_answer, sides_answer, chain_answer}
use Rattle.ca_expressions.proofs.ChainRules.{TailClosed, this_answer, name_answer, plain_answer, called_answer, tails_answer, tails_stop, index_answer, member_answer, field_answer, method_answer, argument_rule, args_answer}
use Rattle.ca_parse.proofs.Alone.{Alone, exact_alone}

no_operator : (k : ℕ) (s : List Token) → head_of (goes_on k) s ≡ None → head_of (operator k) s ≡ None
no_operator k s h = at (head_of (operator k) s) refl
  where
    at : (o : Option (BinaryOp × Place)) → head_of (operator k) s ≡ o → head_of (operator k) s ≡ None
    at None e = e
    at (Some b) e = absurd (operator_goes_on k s b e h)

no_tail : (s : List Token) → head_of (goes_on unary_level) s ≡ None → head_of tail_front s ≡ None
no_tail s h = at (head_of tail_front s) refl
  where
    at : (o : Option Place) → head_of tail_front s ≡ o → head_of tail_front s ≡ None
    at None e = e
    at (Some p) e = absurd (tail_goes_on s p e h)

tail_head : {a b : Expression} {s r : List Token} → Tail a s b r → (p : Place) × (head_of tail_front s ≡ Some p)
tail_head (field_tail {p = p} d n) = (p, sign_gives tail_of Arrow d)
tail_head (method_tail {p = p} d n l) = (p, sign_gives tail_of Arrow d)
tail_head (index_tail {p = p} d i c) = (p, sign_gives tail_of OpenBracket d)

args_head : {s r : List Token} {xs : List Expression} → Args s xs r → (p : Place) × (head_of (sign OpenParenthesis) s ≡ Some p)
args_head (args {o = p} o l) = (p, sees_head (sign OpenParenthesis) o)

further_follow : {s r : List Token} {xs : List Expression} → Further s xs r → head_of (goes_on 0) s ≡ None
further_follow (further_none c) = sign_gives (goes_on_of 0) CloseParenthesis c
further_follow (further c l m) = sign_gives (goes_on_of 0) Comma c

mutual
  pub level_tells : (k : ℕ) {s r : List Token} {x : Expression} → k ≤ LEVELS → Level k s x r → head_of (goes_on k) r ≡ None
      → Exact (Unlimited (Level k)) (Closed k (Level k)) s (Got x r)
  level_tells k h (operands g l m) e = level_answer g (and_ok (level_tells (k + 1) (omega (arith, g)) l (operands_follow m e)) (operands_tells k g m e))
  level_tells k {s} {r} {x} h (one_operand g u) e =
      let f : LEVELS ≡ k = omega (arith, g, h) in
      subst (λ z. Exact (Unlimited (Level z)) (Closed z (Level z)) s (Got x r)) f
      (unary_answer (unary_tells u (subst (λ z. head_of (goes_on z) r ≡ None) (sym f) e)))

  operands_tells : (k : ℕ) {a x : Expression} {s r : List Token} → k < LEVELS → Operands k a s x r → head_of (goes_on k) r ≡ None
      → Exact (Unlimited (Operands k a)) (Closed k (Operands k a)) s (Got x r)
  operands_tells k {a} {s = s} g operands_end e = operands_stop k a (no_operator k s e)
  operands_tells k {a} g (operands_more o l m) e = operand_answer k a (sees_head (operator k) o) (and_ok (sees_got o)
      (and_ok (level_tells (k + 1) (omega (arith, g)) l (operands_follow m e)) (operands_tells k g m e)))

  unary_tells : {s r : List Token} {x : Expression} → Unary s x r → head_of (goes_on unary_level) r ≡ None
      → Exact (Unlimited Unary) (Closed unary_level Unary) s (Got x r)
  unary_tells (unary_first o u) e = sign_answer (sees_head unary_operator o) (and_ok (sees_got o) (and_ok (unary_tells u e) and_done))
  unary_tells (unary_last p) e = primary_answer (primary_no_unary p) (primary_tells p e)

  primary_tells : {s r : List Token} {x : Expression} → Primary s x r → head_of (goes_on unary_level) r ≡ None
      → Exact (Unlimited Primary) (Closed unary_level Primary) s (Got x r)
  primary_tells (a_literal d) e = literal_answer (sees_head literal d) (and_ok (sees_got d) and_done)
  primary_tells (a_chain c) e = chain_answer (chain_no_literal c) (chain_no_word c) (chain_no_bracket c) (chain_tells c e)
  primary_tells (in_brackets o l c t) e = bracket_answer (sees_head (sign OpenParenthesis) o) (and_ok (sees_got o)
      (and_ok (level_tells 0 (omega arith) l (sign_gives (goes_on_of 0) CloseParenthesis c)) (and_ok (sees_got c) (tails_tells t e))))
  primary_tells (by_word w l) e = word_answer (sees_head word_operator w) (and_ok (sees_got w) (sides_tells l))

  sides_tells : {o : BinaryOp × Place} {s r : List Token} {x : Expression} → Sides o s x r → Exact (Unlimited (Sides o)) (Unlimited (Sides o)) s (Got x r)
  sides_tells {o} (sides p a c b d) = sides_answer o (and_ok (sees_got p) (and_ok (level_tells 0 (omega arith) a (sign_gives (goes_on_of 0) Comma c))
      (and_ok (sees_got c) (and_ok (level_tells 0 (omega arith) b (sign_gives (goes_on_of 0) CloseParenthesis d)) (and_ok (sees_got d) and_done)))))

  pub chain_tells : {s r : List Token} {x : Expression} → Chain s x r → head_of (goes_on unary_level) r ≡ None
      → Exact (Unlimited Chain) (Closed unary_level Chain) s (Got x r)
  chain_tells (this_chain d t) e = this_answer (sees_head (key This) d) (and_ok (sees_got d) (tails_tells t e))
  chain_tells (name_chain n t) e = name_answer (name_gives (key_of This) n) (and_ok (sees_got n) (plain_answer _ (tails_follow t e) (tails_tells t e)))
  chain_tells (call_chain n a t) e = name_answer (name_gives (key_of This) n) (and_ok (sees_got n)
      (called_answer _ (args_head a).1 (and_ok (args_tells a) (tails_tells t e))))

  tails_tells : {a x : Expression} {s r : List Token} → Tails a s x r → head_of (goes_on unary_level) r ≡ None
      → Exact (Unlimited (Tails a)) (Closed unary_level (Tails a)) s (Got x r)
  tails_tells {a} {s = s} tails_end e = tails_stop a (no_tail s e)
  tails_tells {a} (tails_more t m) e = tails_answer a (tail_head t).1 (and_ok (tail_tells t (tails_follow m e)) (tails_tells m e))

  tail_tells : {a b : Expression} {s r : List Token} → Tail a s b r → head_of (sign OpenParenthesis) r ≡ None
      → Exact (Unlimited (Tail a)) (TailClosed a) s (Got b r)
  tail_tells {a} (index_tail p i c) e = index_answer a (sees_head (sign OpenBracket) p) (and_ok (sees_got p)
      (and_ok (level_tells 0 (omega arith) i (sign_gives (goes_on_of 0) CloseBracket c)) (and_ok (sees_got c) and_done)))
  tail_tells {a} (field_tail p n) e = member_answer a (sign_gives (sign_of OpenBracket) Arrow p) (and_ok (sees_got p)
      (and_ok (sees_got n) (field_answer a _ _ e)))
  tail_tells {a} (method_tail p n l) e = member_answer a (sign_gives (sign_of OpenBracket) Arrow p) (and_ok (sees_got p)
      (and_ok (sees_got n) (method_answer a _ _ (args_head l).1 (and_ok (args_tells l) and_done))))

  args_tells : {s r : List Token} {xs : List Expression} → Args s xs r → Exact (Unlimited Args) (Unlimited Args) s (Got xs r)
  args_tells (args o l) = args_answer (and_ok (sees_got o) (listed_tells l))

  listed_tells : {s r : List Token} {xs : List Expression} → Listed s xs r → Exact (InBrackets (Unlimited Expr)) (InBrackets (Unlimited Expr)) s (Got xs r)
  listed_tells (listed_none c) = let p = sees_parts c in separated_stop argument_rule p.1 p.2
  listed_tells (listed l m) = separated_more argument_rule (argument_rule.begins 0 _ _ _ l) (level_tells 0 (omega arith) l (further_follow m)) (further_tells m)

  further_tells : {s r : List Token} {xs : List Expression} → Further s xs r → Exact (MoreItems (Unlimited Expr)) (MoreItems (Unlimited Expr)) s (Got xs r)
  further_tells (further_none c) = let p = sees_parts c in following_stop argument_rule p.1 p.2
  further_tells (further c l m) = let p = sees_parts c in
      following_more argument_rule p.1 p.2 (level_tells 0 (omega arith) l (further_follow m)) (further_tells m)

-- those that stand in no other
pub expression_alone : (free : ℕ) (s r : List Token) (x : Expression) → OuterExpression free s x r → head_of (goes_on 0) r ≡ None → Alone ExpressionEnded s x r
expression_alone free s r x d h = record {
  only = λ free' q y c. (exact_alone (level_tells 0 (omega arith) (subst (λ z. Level 0 z x r) (sym d.cut) (d.derives r)) h)).only 0 q y
      (record { it = subst (λ z. Level 0 z y q) (sym c.it.cut) (c.it.derives q); stop = c.stop });
}

pub chain_alone : (free : ℕ) (s r : List Token) (x : Expression) → OuterChain free s x r → head_of (goes_on unary_level) r ≡ None → Alone ChainEnded s x r
chain_alone free s r x d h = record {
  only = λ free' q y c. (exact_alone (chain_tells (subst (λ z. Chain z x r) (sym d.cut) (d.derives r)) h)).only 0 q y
      (record { it = subst (λ z. Chain z y q) (sym c.it.cut) (c.it.derives q); stop = c.stop });
}
