-- Single tokens that are read back, and what they were in a text.
use Rattle.std.proofs.Common.{◌≡◌, ℕ, ℤ, List, [], ◌∷◌, Bool, true, false, refl, ap, ◌∙◌, subst}
use Rattle.std.specs.Prelude.{Option, Some, None, cond}
use Rattle.std.proofs.lemmas.Bool.{eq-eqb}
use Rattle.std.proofs.lemmas.Option.{same_Some}
use Rattle.ca_descent.specs.Exact.{Sees, sees}
use Rattle.ca_tree.specs.declared.name.Place.{Place}
use Rattle.ca_tree.specs.declared.token.Kind.{Kind}
use Rattle.ca_tree.specs.declared.token.Kind.TheVariants.{Word, Number, Key, Sign}
use Rattle.ca_tree.specs.declared.token.Keyword.{Keyword}
use Rattle.ca_tree.specs.declared.token.Keyword.TheVariants as key
use Rattle.ca_tree.specs.declared.token.Sign.{Sign as TheSign}
use Rattle.ca_tree.specs.declared.token.Token.{Token}
use Rattle.ca_tree.specs.declared.tree.BinaryOp.{BinaryOp}
use Rattle.ca_tree.specs.declared.tree.UnaryOp.{UnaryOp}
use Rattle.ca_tree.specs.Codes.{key_code, sign_code}
use Rattle.ca_tree.specs.declared.operators.Writing.TheVariants.{Between, Before}
use Rattle.ca_tree.specs.Operators.{level, writing, binary_of_sign, binary_of_word, unary_sign}
use Rattle.ca_tree.proofs.Table.{IsBack, binary_back, unary_back}
use Rattle.ca_tree.specs.Plain.{Expression, number, truth, null}
use Rattle.ca_expressions.specs.Terminals as terminal
use Rattle.ca_expressions.specs.Terminals.{key_of, sign_of, name_of, number_of, literal_of, literal_of_key, with_place, of_level, operator_of, word_of, unary_of}
use Rattle.ca_canonical.specs.Spell.{spell_truth}
use Rattle.ca_canonical.specs.Bare.{bare_expression, nowhere}
use Rattle.ca_canonical.proofs.ReadBack.{Writable, IsName}
use Rattle.ca_canonical.proofs.Texts.{kinds, AllWritable}
use Rattle.ca_canonical.proofs.Fronts.{Spelled, one}

pub a_sign : (k : TheSign) → Spelled (Sees (terminal.sign k)) (λ p. Unit {0}) (Sign k ∷ [])
a_sign k = one (terminal.sign k) (λ p. Unit {0}) (Sign k) (λ t e. (t.at, tt, ap (λ z. sign_of k z t.at) e ∙ ap (λ b. cond b (Some t.at) None) (eq-eqb (sign_code k) (sign_code k) refl)))

pub a_key : (k : Keyword) → Spelled (Sees (terminal.key k)) (λ p. Unit {0}) (Key k ∷ [])
a_key k = one (terminal.key k) (λ p. Unit {0}) (Key k) (λ t e. (t.at, tt, ap (λ z. key_of k z t.at) e ∙ ap (λ b. cond b (Some t.at) None) (eq-eqb (key_code k) (key_code k) refl)))

pub a_name : (n : List ℕ) → Spelled (Sees terminal.name) (λ a. a.0 ≡ n) (Word n ∷ [])
a_name n = one terminal.name (λ a. a.0 ≡ n) (Word n) (λ t e. ((n, t.at), refl, ap (λ z. name_of z t.at) e))

pub a_number : (n : ℤ) → Spelled (Sees terminal.number) (λ a. a.0 ≡ n) (Number n ∷ [])
a_number n = one terminal.number (λ a. a.0 ≡ n) (Number n) (λ t e. ((n, t.at), refl, ap (λ z. number_of z t.at) e))

pub a_number_literal : (n : ℤ) → Spelled (Sees terminal.literal) (λ x. bare_expression x ≡ number nowhere n) (Number n ∷ [])
a_number_literal n = one terminal.literal (λ x. bare_expression x ≡ number nowhere n) (Number n) (λ t e. (number t.at n, refl, ap (λ z. literal_of z t.at) e))

pub a_truth : (b : Bool) → Spelled (Sees terminal.literal) (λ x. bare_expression x ≡ truth nowhere b) (spell_truth b ∷ [])
a_truth true = one terminal.literal (λ x. bare_expression x ≡ truth nowhere true) (Key key.True) (λ t e. (truth t.at true, refl, ap (λ z. literal_of z t.at) e))
a_truth false = one terminal.literal (λ x. bare_expression x ≡ truth nowhere false) (Key key.False) (λ t e. (truth t.at false, refl, ap (λ z. literal_of z t.at) e))

pub a_null : Spelled (Sees terminal.literal) (λ x. bare_expression x ≡ null nowhere) (Key key.Nullptr ∷ [])
a_null = one terminal.literal (λ x. bare_expression x ≡ null nowhere) (Key key.Nullptr) (λ t e. (null t.at, refl, ap (λ z. literal_of z t.at) e))

known_operator : (o : BinaryOp) (k : TheSign) (at : Place) → writing o ≡ Between k → operator_of (level o) (Sign k) at ≡ Some (o, at)
known_operator o k at e =
    let back : binary_of_sign k ≡ Some o = subst (IsBack o) e (binary_back o) in
    ap (λ p. with_place at (of_level (level o) p)) back ∙ ap (λ t. with_place at (cond t (Some o) None)) (eq-eqb (level o) (level o) refl)

pub an_operator : (o : BinaryOp) (k : TheSign) → writing o ≡ Between k → Spelled (Sees (terminal.operator (level o))) (λ a. a.0 ≡ o) (Sign k ∷ [])
an_operator o k h = one (terminal.operator (level o)) (λ a. a.0 ≡ o) (Sign k) (λ t e. ((o, t.at), refl, ap (λ z. operator_of (level o) z t.at) e ∙ known_operator o k t.at h))

known_word : (o : BinaryOp) (w : Keyword) (at : Place) → writing o ≡ Before w → word_of (Key w) at ≡ Some (o, at)
known_word o w at e = let back : binary_of_word w ≡ Some o = subst (IsBack o) e (binary_back o) in ap (with_place at) back

pub a_word_operator : (o : BinaryOp) (w : Keyword) → writing o ≡ Before w → Spelled (Sees terminal.word_operator) (λ a. a.0 ≡ o) (Key w ∷ [])
a_word_operator o w h = one terminal.word_operator (λ a. a.0 ≡ o) (Key w) (λ t e. ((o, t.at), refl, ap (λ z. word_of z t.at) e ∙ known_word o w t.at h))

known_unary : (o : UnaryOp) (at : Place) → unary_of (Sign (unary_sign o)) at ≡ Some (o, at)
known_unary o at = ap (with_place at) (unary_back o)

pub a_unary : (o : UnaryOp) → Spelled (Sees terminal.unary_operator) (λ a. a.0 ≡ o) (Sign (unary_sign o) ∷ [])
a_unary o = one terminal.unary_operator (λ a. a.0 ≡ o) (Sign (unary_sign o)) (λ t e. ((o, t.at), refl, ap (λ z. unary_of z t.at) e ∙ known_unary o t.at))

-- some tokens are all tokens of a text
abbrev pub AllRead : List Token → Type 0
AllRead ts = AllWritable (kinds ts)

pub behind : {A : Type 0} {want : Token → Option A} {s r : List Token} {a : A} → AllRead s → Sees want s a r → AllRead r
behind h (sees e) = h.1

named_by : (k : Kind) (at : Place) (n : List ℕ × Place) → name_of k at ≡ Some n → Writable k → IsName n.0
named_by (Word w) at n e h = subst (λ m. IsName m.0) (same_Some _ _ e) h
named_by (Number m) at n e h = cc
named_by (Key k) at n e h = cc
named_by (Sign k) at n e h = cc

pub name_read : {s r : List Token} {n : List ℕ × Place} → AllRead s → Sees terminal.name s n r → IsName n.0
name_read {n = n} h (sees {t = t} e) = named_by t.kind t.at n e h.0

number_by : (k : Kind) (at : Place) (n : ℤ × Place) → number_of k at ≡ Some n → Writable k → Writable (Number n.0)
number_by (Number m) at n e h = subst (λ m. Writable (Number m.0)) (same_Some _ _ e) h
number_by (Word w) at n e h = cc
number_by (Key k) at n e h = cc
number_by (Sign k) at n e h = cc

pub number_read : {s r : List Token} {n : ℤ × Place} → AllRead s → Sees terminal.number s n r → Writable (Number n.0)
number_read {n = n} h (sees {t = t} e) = number_by t.kind t.at n e h.0

-- what a literal is
pub data Literal : Expression → Type 0 where
  number_literal : {at : Place} {n : ℤ} → Writable (Number n) → Literal (number at n)
  truth_literal : {at : Place} {b : Bool} → Literal (truth at b)
  null_literal : {at : Place} → Literal (null at)

key_literal : (k : Keyword) (at : Place) (x : Expression) → literal_of_key k at ≡ Some x → Literal x
key_literal key.Nullptr at x e = subst Literal (same_Some _ _ e) (null_literal {at = at})
key_literal key.True at x e = subst Literal (same_Some _ _ e) (truth_literal {at = at} {b = true})
key_literal key.False at x e = subst Literal (same_Some _ _ e) (truth_literal {at = at} {b = false})
key_literal other at x e = cc

literal_by : (k : Kind) (at : Place) (x : Expression) → literal_of k at ≡ Some x → Writable k → Literal x
literal_by (Number n) at x e h = subst Literal (same_Some _ _ e) (number_literal {at = at} {n = n} h)
literal_by (Key k) at x e h = key_literal k at x e
literal_by (Word w) at x e h = cc
literal_by (Sign k) at x e h = cc

pub literal_read : {s r : List Token} {x : Expression} → AllRead s → Sees terminal.literal s x r → Literal x
literal_read {x = x} h (sees {t = t} e) = literal_by t.kind t.at x e h.0
