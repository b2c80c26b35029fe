-- What the code has found in front of the tokens is the terminal.
use Rattle.std.proofs.Common.{◌≡◌, ◌≤◌, ◌-◌, ℕ, List, [], ◌∷◌, Bool, true, false, cond, Option, Some, None, is_some, refl, sym, ◌∙◌, ap, subst, take, drop, get_or, length, arith}
use Rattle.std.proofs.Math.Seq.{take-length}
use Rattle.std.proofs.lemmas.Bool.{eq-eqb}
use Rattle.ca_descent.specs.Exact.{Sees, sees, head_of}
use Rattle.ca_tree.specs.declared.name.Place.{Place}
use Rattle.ca_tree.specs.declared.token.Token.{Token}
use Rattle.ca_tree.specs.declared.token.Kind.{Kind}
use Rattle.ca_tree.specs.declared.token.Kind.TheVariants.{Word, Number}
use Rattle.ca_tree.specs.declared.token.Kind.TheVariants.{Key as KeyKind, Sign as SignKind}
use Rattle.ca_tree.specs.declared.token.Keyword.{Keyword}
use Rattle.ca_tree.specs.declared.token.Keyword.TheVariants.{Nullptr, True, False}
use Rattle.ca_tree.specs.declared.token.Sign.{Sign}
use Rattle.ca_tree.specs.declared.token.Sign.TheVariants.{Minus, Not}
use Rattle.ca_tree.specs.declared.tree.BinaryOp.{BinaryOp}
use Rattle.ca_tree.specs.Codes.{same_sign}
use Rattle.ca_tree.specs.Operators.{level, binary_of_sign, binary_of_word, unary_of_sign}
use Rattle.ca_expressions.specs.Terminals.{key_of, sign_of, name_of, number_of, literal_of_key, literal_of, unary_of, of_level, with_place, operator_of, word_of, key, sign, number, literal, unary_operator}

-- how a test of the code tells
pub some_of : {A : Type 0} (o : Option A) → is_some o ≡ true → (a : A) × (o ≡ Some a)
some_of (Some a) h = (a, refl)
some_of None h = absurd cc

pub none_of : {A : Type 0} (o : Option A) → is_some o ≡ false → o ≡ None
none_of (Some a) h = absurd cc
none_of None h = refl

-- the first token is the terminal, and the rest stands behind it
pub front_sees : {A : Type 0} (want : Token → Option A) (s : List Token) (t : Token) (a : A) → 1 ≤ length s
    → t ≡ get_or s 0 t → want t ≡ Some a
    → Sees want s a (take (length s - 1) (drop 1 s))
front_sees want [] t a h e f = absurd (omega (arith, h))
front_sees want (u ∷ s) t a h e f =
    let g : want u ≡ Some a = subst (λ z. want z ≡ Some a) e f in
    let n : length (u ∷ s) - 1 ≡ length s = omega arith in
    subst (λ z. Sees want (u ∷ s) a z) (sym (ap (λ m. take m s) n ∙ take-length s)) (sees g)

-- a test of the list is one of its first token
pub front_is : {A : Type 0} (want : Token → Option A) (s : List Token) (t : Token) → 1 ≤ length s
    → t ≡ get_or s 0 t → head_of want s ≡ want t
front_is want [] t h e = absurd (omega (arith, h))
front_is want (u ∷ s) t h e = ap want (sym e)

pub empty_is : {A : Type 0} (want : Token → Option A) (s : List Token) → length s ≡ 0 → head_of want s ≡ None
empty_is want [] h = refl
empty_is want (u ∷ s) h = absurd (omega (arith, h))

held : (b : Bool) (p : Place) → is_some (cond b (Some p) None) ≡ true → cond b (Some p) None ≡ Some p
held true p h = refl
held false p h = absurd cc

-- the code tests the list, and takes its first token
pub front_holds : {A : Type 0} (want : Token → Option A) (s : List Token) (t : Token) (a : A) → 1 ≤ length s
    → t ≡ get_or s 0 t → is_some (head_of want s) ≡ true
    → (is_some (want t) ≡ true → want t ≡ Some a) → Sees want s a (take (length s - 1) (drop 1 s))
front_holds want s t a h e k f = front_sees want s t a h e (f (subst (λ z. is_some z ≡ true) (front_is want s t h e) k))

pub not_word : (x : Kind) (at : Place) → ((n : List ℕ) → x ≡ Word n → ⊥) → name_of x at ≡ None
not_word (Word n) at f = absurd (f n refl)
not_word (Number n) at f = refl
not_word (KeyKind n) at f = refl
not_word (SignKind n) at f = refl

-- a key word and a sign carry their places
pub key_carries : (k : Keyword) (x : Kind) (at : Place) → is_some (key_of k x at) ≡ true → key_of k x at ≡ Some at
key_carries k (KeyKind w) at h = held _ at h
key_carries k (SignKind w) at h = absurd cc
key_carries k (Word n) at h = absurd cc
key_carries k (Number n) at h = absurd cc

pub sign_carries : (k : Sign) (x : Kind) (at : Place) → is_some (sign_of k x at) ≡ true → sign_of k x at ≡ Some at
sign_carries k (SignKind w) at h = held _ at h
sign_carries k (KeyKind w) at h = absurd cc
sign_carries k (Word n) at h = absurd cc
sign_carries k (Number n) at h = absurd cc

pub sign_is : (k : Sign) (t : Token) (w : Sign) → t.kind ≡ SignKind w
    → is_some (sign k t) ≡ same_sign w k
sign_is k t w e = ap (λ z. is_some (sign_of k z t.at)) e ∙ told (same_sign w k) t.at
  where
    told : (b : Bool) (p : Place) → is_some (cond b (Some p) None) ≡ b
    told true p = refl
    told false p = refl

-- no literal stands there, if none of the four does
key_no_literal : (w : Keyword) (at : Place) → key_of True (KeyKind w) at ≡ None → key_of False (KeyKind w) at ≡ None
    → key_of Nullptr (KeyKind w) at ≡ None → literal_of_key w at ≡ None
key_no_literal True at t f n = absurd cc
key_no_literal False at t f n = absurd cc
key_no_literal Nullptr at t f n = absurd cc
key_no_literal other at t f n = refl

no_literal_kind : (x : Kind) (at : Place) → number_of x at ≡ None → key_of True x at ≡ None → key_of False x at ≡ None
    → key_of Nullptr x at ≡ None → literal_of x at ≡ None
no_literal_kind (Number n) at d t f n' = absurd cc
no_literal_kind (KeyKind w) at d t f n = key_no_literal w at t f n
no_literal_kind (SignKind w) at d t f n = refl
no_literal_kind (Word w) at d t f n = refl

pub no_literal : (s : List Token) → head_of number s ≡ None → head_of (key True) s ≡ None → head_of (key False) s ≡ None
    → head_of (key Nullptr) s ≡ None → head_of literal s ≡ None
no_literal [] d t f n = refl
no_literal (u ∷ s) d t f n = no_literal_kind u.kind u.at d t f n

-- no unary operator stands there, if none of the two does
sign_no_unary : (w : Sign) (at : Place) → sign_of Minus (SignKind w) at ≡ None → sign_of Not (SignKind w) at ≡ None
    → unary_of_sign w ≡ None
sign_no_unary Minus at m n = absurd cc
sign_no_unary Not at m n = absurd cc
sign_no_unary other at m n = refl

no_unary_kind : (x : Kind) (at : Place) → sign_of Minus x at ≡ None → sign_of Not x at ≡ None → unary_of x at ≡ None
no_unary_kind (SignKind w) at m n = ap (with_place at) (sign_no_unary w at m n)
no_unary_kind (KeyKind w) at m n = refl
no_unary_kind (Word w) at m n = refl
no_unary_kind (Number w) at m n = refl

pub no_unary : (s : List Token) → head_of (sign Minus) s ≡ None → head_of (sign Not) s ≡ None → head_of unary_operator s ≡ None
no_unary [] m n = refl
no_unary (u ∷ s) m n = no_unary_kind u.kind u.at m n

-- the operator that the table gives for the sign is of the level, or not
pub operator_is : (k : ℕ) (x : Kind) (w : Sign) (o : Option BinaryOp) (at : Place) → x ≡ SignKind w → o ≡ binary_of_sign w
    → operator_of k x at ≡ with_place at (of_level k o)
operator_is k x w o at e h = ap (λ z. operator_of k z at) e ∙ ap (λ z. with_place at (of_level k z)) (sym h)

pub of_the_level : (k : ℕ) (o : BinaryOp) (at : Place) → level o ≡ k → with_place at (of_level k (Some o)) ≡ Some (o, at)
of_the_level k o at e = rw (eq-eqb (level o) k e) refl

-- the operator that the table gives for the key word
pub word_is : (x : Kind) (w : Keyword) (o : BinaryOp) (at : Place) → x ≡ KeyKind w → Some o ≡ binary_of_word w → word_of x at ≡ Some (o, at)
word_is x w o at e h = ap (λ z. word_of z at) e ∙ ap (with_place at) (sym h)
