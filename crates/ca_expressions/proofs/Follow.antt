-- What stands at the front of an expression, and behind it.
use Rattle.std.proofs.Common.{◌≡◌, ℕ, ◌+◌, ℤ, List, [], ◌∷◌, Bool, true, false, cond, nat_eq, nat_le, Option, Some, None, is_some, refl, ◌∙◌, arith}
use Rattle.std.proofs.lemmas.Bool.{eqb-true, le-leb, lt-leb, leb-false}
use Rattle.ca_descent.specs.Exact.{Sees, sees, head_of}
use Rattle.ca_tree.specs.declared.name.Place.{Place}
use Rattle.ca_tree.specs.declared.token.Token.{Token}
use Rattle.ca_tree.specs.declared.token.Kind.{Kind}
use Rattle.ca_tree.specs.declared.token.Kind.TheVariants.{Word, Number}
use Rattle.ca_tree.specs.declared.token.Kind.TheVariants.{Key as KeyKind, Sign as SignKind}
use Rattle.ca_tree.specs.declared.token.Keyword.{Keyword}
use Rattle.ca_tree.specs.declared.token.Keyword.TheVariants.{Nullptr, This, True, False}
use Rattle.ca_tree.specs.declared.token.Sign.{Sign}
use Rattle.ca_tree.specs.declared.token.Sign.TheVariants.{OpenParenthesis, OpenBracket, Minus, Not, Arrow}
use Rattle.ca_tree.specs.declared.tree.UnaryOp.{UnaryOp}
use Rattle.ca_tree.specs.declared.tree.BinaryOp.{BinaryOp}
use Rattle.ca_tree.specs.Plain.{Expression}
use Rattle.ca_tree.specs.Operators.{level, unary_level, binary_of_sign, binary_of_word, unary_of_sign}
use Rattle.ca_expressions.specs.Terminals.{sign, sign_of, literal_of_key, literal_of, unary_of, word_of, with_place, of_level, operator_of, is_tail_sign, binds, goes_on_of, tail_of, literal, unary_operator, operator, word_operator, goes_on, tail_front}
use Rattle.ca_expressions.specs.Grammar.{Level, operands, one_operand, Operands, operands_end, operands_more, Unary, unary_first, unary_last, Primary, a_literal, a_chain, in_brackets, by_word, Chain, this_chain, name_chain, call_chain, Tails, tails_end, tails_more, Tail, field_tail, method_tail, index_tail}
use Rattle.ca_expressions.proofs.Terminals.{test, sign_kind, key_gives, sign_gives, name_gives}

-- a test that holds of no token with which an expression can begin
pub record NoFront {A : Type 0} (f : Kind → Place → Option A) : Type 0 where
  pub number : (n : ℤ) (at : Place) → f (Number n) at ≡ None
  pub word : (n : List ℕ) (at : Place) → f (Word n) at ≡ None
  pub truth : (at : Place) → f (KeyKind True) at ≡ None
  pub falsehood : (at : Place) → f (KeyKind False) at ≡ None
  pub null : (at : Place) → f (KeyKind Nullptr) at ≡ None
  pub this : (at : Place) → f (KeyKind This) at ≡ None
  pub minus : (at : Place) → f (SignKind Minus) at ≡ None
  pub negation : (at : Place) → f (SignKind Not) at ≡ None
  pub bracket : (at : Place) → f (SignKind OpenParenthesis) at ≡ None
  pub by_word : (w : Keyword) (at : Place) → is_some (binary_of_word w) ≡ true → f (KeyKind w) at ≡ None

-- a test that holds of no token with which a chain can begin
pub record NoChainFront {A : Type 0} (f : Kind → Place → Option A) : Type 0 where
  pub word : (n : List ℕ) (at : Place) → f (Word n) at ≡ None
  pub this : (at : Place) → f (KeyKind This) at ≡ None

module _ {A : Type 0} (f : Kind → Place → Option A) where
  pub chain_front : NoChainFront f → {s r : List Token} {x : Expression} → Chain s x r → head_of (test f) s ≡ None
  chain_front h (this_chain {p = p} d t) = key_gives f This d ∙ h.this p
  chain_front h (name_chain {n = n} d t) = name_gives f d ∙ h.word n.0 n.1
  chain_front h (call_chain {n = n} d a t) = name_gives f d ∙ h.word n.0 n.1

  literal_key : NoFront f → (w : Keyword) (at : Place) (x : Expression) → literal_of_key w at ≡ Some x → f (KeyKind w) at ≡ None
  literal_key h Nullptr at x e = h.null at
  literal_key h True at x e = h.truth at
  literal_key h False at x e = h.falsehood at
  literal_key h other at x e = absurd cc

  literal_kind : NoFront f → (k : Kind) (at : Place) (x : Expression) → literal_of k at ≡ Some x → f k at ≡ None
  literal_kind h (Number n) at x e = h.number n at
  literal_kind h (KeyKind w) at x e = literal_key h w at x e
  literal_kind h (SignKind w) at x e = absurd cc
  literal_kind h (Word n) at x e = absurd cc

  literal_front : NoFront f → {s r : List Token} {x : Expression} → Sees literal s x r → head_of (test f) s ≡ None
  literal_front h (sees {t = t} {a = x} e) = literal_kind h t.kind t.at x e

  unary_at_sign : NoFront f → (w : Sign) (at : Place) (o : UnaryOp × Place) → with_place at (unary_of_sign w) ≡ Some o
      → f (SignKind w) at ≡ None
  unary_at_sign h Minus at o e = h.minus at
  unary_at_sign h Not at o e = h.negation at
  unary_at_sign h other at o e = absurd cc

  unary_at_kind : NoFront f → (k : Kind) (at : Place) (o : UnaryOp × Place) → unary_of k at ≡ Some o → f k at ≡ None
  unary_at_kind h (SignKind w) at o e = unary_at_sign h w at o e
  unary_at_kind h (KeyKind w) at o e = absurd cc
  unary_at_kind h (Number w) at o e = absurd cc
  unary_at_kind h (Word w) at o e = absurd cc

  unary_front : NoFront f → {s r : List Token} {o : UnaryOp × Place} → Sees unary_operator s o r → head_of (test f) s ≡ None
  unary_front h (sees {t = t} {a = o} e) = unary_at_kind h t.kind t.at o e

  word_at_kind : ((w : Keyword) (at : Place) → is_some (binary_of_word w) ≡ true → f (KeyKind w) at ≡ None) → (k : Kind) (at : Place) (o : BinaryOp × Place) → word_of k at ≡ Some o → f k at ≡ None
  word_at_kind h (KeyKind w) at o e = h w at (found (binary_of_word w) e)
    where
      found : (m : Option BinaryOp) → with_place at m ≡ Some o → is_some m ≡ true
      found (Some p) g = refl
      found None g = cc
  word_at_kind h (SignKind w) at o e = absurd cc
  word_at_kind h (Number w) at o e = absurd cc
  word_at_kind h (Word w) at o e = absurd cc

  pub word_front : ((w : Keyword) (at : Place) → is_some (binary_of_word w) ≡ true → f (KeyKind w) at ≡ None) → {s r : List Token} {o : BinaryOp × Place} → Sees word_operator s o r → head_of (test f) s ≡ None
  word_front h (sees {t = t} {a = o} e) = word_at_kind h t.kind t.at o e

  primary_begins : NoFront f → {s r : List Token} {x : Expression} → Primary s x r → head_of (test f) s ≡ None
  primary_begins h (a_literal d) = literal_front h d
  primary_begins h (a_chain d) = chain_front (record { word = h.word; this = h.this }) d
  primary_begins h (in_brackets {o = p} o e c t) = sign_gives f OpenParenthesis o ∙ h.bracket p
  primary_begins h (by_word d l) = word_front h.by_word d

  unary_begins : NoFront f → {s r : List Token} {x : Expression} → Unary s x r → head_of (test f) s ≡ None
  unary_begins h (unary_first o u) = unary_front h o
  unary_begins h (unary_last p) = primary_begins h p

  pub level_begins : NoFront f → {k : ℕ} {s r : List Token} {x : Expression} → Level k s x r → head_of (test f) s ≡ None
  level_begins h (operands k l o) = level_begins h l
  level_begins h (one_operand k u) = unary_begins h u

-- what stands in front of a primary expression is no unary operator
primary_kind : (k : Kind) (at : Place) (x : Expression) → literal_of k at ≡ Some x → unary_of k at ≡ None
primary_kind (Number n) at x e = refl
primary_kind (KeyKind w) at x e = refl
primary_kind (SignKind w) at x e = absurd cc
primary_kind (Word n) at x e = absurd cc

pub primary_no_unary : {s r : List Token} {x : Expression} → Primary s x r → head_of unary_operator s ≡ None
primary_no_unary (a_literal (sees {t = t} {a = x} e)) = primary_kind t.kind t.at x e
primary_no_unary (a_chain d) = chain_front unary_of (record { word = λ n at. refl; this = λ at. refl }) d
primary_no_unary (in_brackets o e c t) = sign_gives unary_of OpenParenthesis o
primary_no_unary (by_word d l) = word_front unary_of (λ w at h. refl) d

-- a chain begins with no literal
pub chain_no_literal : {s r : List Token} {x : Expression} → Chain s x r → head_of literal s ≡ None
chain_no_literal d = chain_front literal_of (record { word = λ n at. refl; this = λ at. refl }) d

pub chain_no_bracket : {s r : List Token} {x : Expression} → Chain s x r → head_of (sign OpenParenthesis) s ≡ None
chain_no_bracket d = chain_front (sign_of OpenParenthesis) (record { word = λ n at. refl; this = λ at. refl }) d

-- a literal is no bracket
literal_sign : (k : Kind) (at : Place) (x : Expression) → literal_of k at ≡ Some x → sign_of OpenParenthesis k at ≡ None
literal_sign (Number n) at x e = refl
literal_sign (KeyKind w) at x e = refl
literal_sign (SignKind w) at x e = absurd cc
literal_sign (Word n) at x e = absurd cc

pub literal_no_bracket : {s r : List Token} {x : Expression} → Sees literal s x r → head_of (sign OpenParenthesis) s ≡ None
literal_no_bracket (sees {t = t} {a = x} e) = literal_sign t.kind t.at x e

-- an operator of a level goes on with what binds as tightly, and not with what binds more tightly
binds_at : (k : ℕ) (b : Option BinaryOp) (tail : Bool) (o : BinaryOp) → of_level k b ≡ Some o
    → (binds k b tail ≡ true) × (binds (k + 1) b tail ≡ false)
binds_at k None tail o e = absurd cc
binds_at k (Some p) tail o e = at (nat_eq (level p) k) refl e
  where
    at : (b : Bool) → nat_eq (level p) k ≡ b → cond b (Some p) None ≡ Some o → (nat_le k (level p) ≡ true) × (nat_le (k + 1) (level p) ≡ false)
    at false h e = absurd cc
    at true h e =
        let m = eqb-true (level p) k h in (le-leb k (level p) (omega (arith, m)), lt-leb (k + 1) (level p) (omega (arith, m)))

operator_binds : (k : ℕ) (x : Kind) (at : Place) (o : BinaryOp × Place) → operator_of k x at ≡ Some o
    → (goes_on_of k x at ≡ Some at) × (goes_on_of (k + 1) x at ≡ None)
operator_binds k (KeyKind w) at o e = absurd cc
operator_binds k (Word w) at o e = absurd cc
operator_binds k (Number w) at o e = absurd cc
operator_binds k (SignKind w) at o e = go (of_level k (binary_of_sign w)) refl e
  where
    go : (m : Option BinaryOp) → of_level k (binary_of_sign w) ≡ m → with_place at m ≡ Some o
        → (goes_on_of k (SignKind w) at ≡ Some at) × (goes_on_of (k + 1) (SignKind w) at ≡ None)
    go None h e = absurd cc
    go (Some p) h e = let b = binds_at k (binary_of_sign w) (is_tail_sign w) p h in (rw b.0 refl, rw b.1 refl)

pub operator_above : (k : ℕ) {s r : List Token} {o : BinaryOp × Place} → Sees (operator k) s o r → head_of (goes_on (k + 1)) s ≡ None
operator_above k (sees {t = t} {a = o} e) = (operator_binds k t.kind t.at o e).1

pub operator_goes_on : (k : ℕ) (s : List Token) (o : BinaryOp × Place) → head_of (operator k) s ≡ Some o
    → head_of (goes_on k) s ≡ None → ⊥
operator_goes_on k [] o e h = absurd cc
operator_goes_on k (t ∷ s) o e h = let b = (operator_binds k t.kind t.at o e).0 in cc

-- what does not go on with an expression does not with what binds more tightly
binds_lower : (k : ℕ) (b : Option BinaryOp) (tail : Bool) → binds k b tail ≡ false → binds (k + 1) b tail ≡ false
binds_lower k None tail h = h
binds_lower k (Some o) tail h = let n = leb-false k (level o) h in lt-leb (k + 1) (level o) (omega (arith, n))

goes_on_lower : (k : ℕ) (x : Kind) (at : Place) → goes_on_of k x at ≡ None → goes_on_of (k + 1) x at ≡ None
goes_on_lower k (KeyKind w) at h = refl
goes_on_lower k (Word w) at h = refl
goes_on_lower k (Number w) at h = refl
goes_on_lower k (SignKind w) at h = go (binds k (binary_of_sign w) (is_tail_sign w)) refl h
  where
    go : (b : Bool) → binds k (binary_of_sign w) (is_tail_sign w) ≡ b → cond b (Some at) None ≡ None → goes_on_of (k + 1) (SignKind w) at ≡ None
    go true e h = absurd cc
    go false e h = rw (binds_lower k (binary_of_sign w) (is_tail_sign w) e) refl

pub lower : (k : ℕ) (s : List Token) → head_of (goes_on k) s ≡ None → head_of (goes_on (k + 1)) s ≡ None
lower k [] h = refl
lower k (t ∷ s) h = goes_on_lower k t.kind t.at h

-- what stands behind an operand of level k + 1
pub operands_follow : {k : ℕ} {a x : Expression} {s r : List Token} → Operands k a s x r → head_of (goes_on k) r ≡ None
    → head_of (goes_on (k + 1)) s ≡ None
operands_follow {k = k} {s = s} operands_end h = lower k s h
operands_follow {k = k} (operands_more o l m) h = operator_above k o

-- the first token of tails
tail_goes_on_at : (x : Kind) (at p : Place) → tail_of x at ≡ Some p → goes_on_of unary_level x at ≡ Some at
tail_goes_on_at (SignKind Arrow) at p e = refl
tail_goes_on_at (SignKind OpenBracket) at p e = refl
tail_goes_on_at (SignKind other) at p e = absurd cc
tail_goes_on_at other at p e = absurd cc

pub tail_goes_on : (s : List Token) (p : Place) → head_of tail_front s ≡ Some p → head_of (goes_on unary_level) s ≡ None → ⊥
tail_goes_on [] p e h = absurd cc
tail_goes_on (t ∷ s) p e h = let b = tail_goes_on_at t.kind t.at p e in cc

bracket_goes_on_at : (x : Kind) (at : Place) → goes_on_of unary_level x at ≡ None → (o : Option Place) → sign_of OpenParenthesis x at ≡ o → o ≡ None
bracket_goes_on_at x at h None e = refl
bracket_goes_on_at x at h (Some p) e = let b = sign_kind (goes_on_of unary_level) OpenParenthesis x at p e in absurd cc

pub no_bracket : (s : List Token) → head_of (goes_on unary_level) s ≡ None → head_of (sign OpenParenthesis) s ≡ None
no_bracket [] h = refl
no_bracket (t ∷ s) h = bracket_goes_on_at t.kind t.at h (sign_of OpenParenthesis t.kind t.at) refl

-- a test where a sign stands
pub head_gives : {A : Type 0} (f : Kind → Place → Option A) (k : Sign) (s : List Token) (p : Place) → head_of (sign k) s ≡ Some p
    → head_of (test f) s ≡ f (SignKind k) p
head_gives f k [] p h = absurd cc
head_gives f k (t ∷ s) p h = sign_kind f k t.kind t.at p h

tail_begins : {a b : Expression} {s r : List Token} → Tail a s b r → (p : Place) × (head_of tail_front s ≡ Some p) × (head_of (sign OpenParenthesis) s ≡ None)
tail_begins (field_tail {p = p} d n) = (p, sign_gives tail_of Arrow d, sign_gives (sign_of OpenParenthesis) Arrow d)
tail_begins (method_tail {p = p} d n a) = (p, sign_gives tail_of Arrow d, sign_gives (sign_of OpenParenthesis) Arrow d)
tail_begins (index_tail {p = p} d i c) = (p, sign_gives tail_of OpenBracket d, sign_gives (sign_of OpenParenthesis) OpenBracket d)

-- no bracket stands behind a tail of a chain, or in front of its tails
pub tails_follow : {a x : Expression} {s r : List Token} → Tails a s x r → head_of (goes_on unary_level) r ≡ None
    → head_of (sign OpenParenthesis) s ≡ None
tails_follow {s = s} tails_end h = no_bracket s h
tails_follow (tails_more t m) h = (tail_begins t).2

-- tails begin with the sign of one, or are none
pub tails_nothing : {a x : Expression} {s r : List Token} → Tails a s x r → head_of tail_front s ≡ None → (x ≡ a) × (r ≡ s)
tails_nothing tails_end h = (refl, refl)
tails_nothing (tails_more t m) h = let b = (tail_begins t).1 in absurd cc

-- the key word of an operator is no literal, and no chain begins with it
no_literal_word : (w : Keyword) (at : Place) → is_some (binary_of_word w) ≡ true → literal_of (KeyKind w) at ≡ None
no_literal_word True at h = absurd cc
no_literal_word False at h = absurd cc
no_literal_word Nullptr at h = absurd cc
no_literal_word other at h = refl

pub word_no_literal : {s r : List Token} {o : BinaryOp × Place} → Sees word_operator s o r → head_of literal s ≡ None
word_no_literal d = word_front literal_of no_literal_word d

pub word_no_bracket : {s r : List Token} {o : BinaryOp × Place} → Sees word_operator s o r → head_of (sign OpenParenthesis) s ≡ None
word_no_bracket d = word_front (sign_of OpenParenthesis) (λ w at h. refl) d

pub chain_no_word : {s r : List Token} {x : Expression} → Chain s x r → head_of word_operator s ≡ None
chain_no_word d = chain_front word_of (record { word = λ n at. refl; this = λ at. refl }) d

literal_key_word : (w : Keyword) (at : Place) (x : Expression) → literal_of_key w at ≡ Some x → word_of (KeyKind w) at ≡ None
literal_key_word True at x e = refl
literal_key_word False at x e = refl
literal_key_word Nullptr at x e = refl
literal_key_word other at x e = absurd cc

literal_kind_word : (k : Kind) (at : Place) (x : Expression) → literal_of k at ≡ Some x → word_of k at ≡ None
literal_kind_word (Number n) at x e = refl
literal_kind_word (KeyKind w) at x e = literal_key_word w at x e
literal_kind_word (SignKind w) at x e = refl
literal_kind_word (Word n) at x e = refl

pub literal_no_word : {s r : List Token} {x : Expression} → Sees literal s x r → head_of word_operator s ≡ None
literal_no_word (sees {t = t} {a = x} e) = literal_kind_word t.kind t.at x e
