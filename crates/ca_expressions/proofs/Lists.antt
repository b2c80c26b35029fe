-- Lists that a loop reads into a Vec: items with commas between, up to and with a closing token.
use Rattle.std.proofs.Common.{◌≡◌, ℕ, List, [], ◌∷◌, ◌++◌, Option, Some, None, refl, ap, map}
use Rattle.ca_descent.specs.Exact.{Grammar, Failure, Got, Failed, Wrong, Exact, Sees, head_of, Gathers, Separated, Following}
use Rattle.ca_descent.proofs.Exact.{sees_parts}
use Rattle.ca_descent.proofs.Many.{gathers_more, gathers_end, gathers_failed}
use Rattle.ca_descent.proofs.Separated.{Punctuated, following_more, following_failed, following_stop, following_missing, separated_stop, separated_more, separated_failed}
use Rattle.ca_tree.specs.declared.name.Place.{Place}
use Rattle.ca_tree.specs.declared.token.Token.{Token}
use Rattle.ca_tree.specs.declared.token.Kind.TheVariants.{Sign as SignKind}
use Rattle.ca_tree.specs.declared.token.Sign.{Sign}
use Rattle.ca_tree.specs.declared.token.Sign.TheVariants.{Comma, CloseParenthesis}
use Rattle.ca_tree.specs.declared.tree.ExprNode.{ExprNode}
use Rattle.ca_tree.specs.Plain.{expression_and}
use Rattle.ca_tree.specs.View.{expression_view, expressions_view}
use Rattle.ca_expressions.specs.Terminals.{sign, sign_of}
use Rattle.ca_expressions.specs.Grammar.{expressions}
use Rattle.ca_expressions.proofs.Terminals.{sign_kind, token, start, sign_sees}

-- [ item { "," item } ] ")", and what stands behind the first item
abbrev pub InBrackets : {A : Type 0} → Grammar Token A → Grammar Token (List A)
InBrackets D = Separated D (sign Comma) (sign CloseParenthesis)

abbrev pub MoreItems : {A : Type 0} → Grammar Token A → Grammar Token (List A)
MoreItems D = Following D (sign Comma) (sign CloseParenthesis)

-- a loop has read xs of all that All derives, and in the rest stand items of D behind commas, and the closing sign
abbrev pub Commas : {A : Type 0} → Grammar Token A → Sign → Grammar Token (List A) → List Token → List A → List Token → Type 0
Commas D close All all xs rest = Gathers All All (Following D (sign Comma) (sign close)) (Following D (sign Comma) (sign close)) all xs rest

-- a list in brackets, if neither sign goes on with an item and no item begins with the bracket
pub comma_rule : {A : Type 0} (D C : Grammar Token A)
    → ((free : ℕ) (s q : List Token) (x : A) (c : Place) → D free s x q → head_of (sign Comma) q ≡ Some c → C free s x q)
    → ((free : ℕ) (s q : List Token) (x : A) (c : Place) → D free s x q → head_of (sign CloseParenthesis) q ≡ Some c → C free s x q)
    → ((free : ℕ) (s r : List Token) (x : A) → D free s x r → head_of (sign CloseParenthesis) s ≡ None)
    → Punctuated D C (sign Comma) (sign CloseParenthesis)
comma_rule D C f g h = record {
  before_comma = f;
  before_close = g;
  begins = h;
  apart = λ t e k. sign_kind (sign_of CloseParenthesis) Comma t.kind t.at e k;
  token = token (SignKind CloseParenthesis);
  carried = start;
  closes = sign_sees CloseParenthesis;
}

module _ {A F : Type 0} {D C : Grammar Token A} {close : Token → Option F} (rule : Punctuated D C (sign Comma) close) where
  pub listed_none : {s r : List Token} {c : F} → Sees close s c r
      → Exact (Separated D (sign Comma) close) (Separated D (sign Comma) close) s (Got [] r)
  listed_none d = let p = sees_parts d in separated_stop rule p.1 p.2

  pub listed_failed : {s : List Token} (f : Failure Token) → head_of close s ≡ None
      → Exact D C s (Failed f) → Exact (Separated D (sign Comma) close) (Separated D (sign Comma) close) s (Failed f)
  listed_failed f h d = separated_failed rule f h d

  pub listed_first : {s q : List Token} {x : A} → head_of close s ≡ None → Exact D C s (Got x q)
      → Gathers (Separated D (sign Comma) close) (Separated D (sign Comma) close) (Following D (sign Comma) close) (Following D (sign Comma) close) s (x ∷ []) q
  listed_first h d = record { go = λ o f. separated_more rule h d f }

  -- a loop that has read xs, where what it reads is the end of G
  module _ {G H : Grammar Token (List A)} {all rest : List Token} {xs : List A}
      (gathers : Gathers G H (Following D (sign Comma) close) (Following D (sign Comma) close) all xs rest) where
    pub commas_more : {m q : List Token} {c : Place} {x : A} → Sees (sign Comma) rest c m → Exact D C m (Got x q)
        → Gathers G H (Following D (sign Comma) close) (Following D (sign Comma) close) all (xs ++ x ∷ []) q
    commas_more k d = let p = sees_parts k in gathers_more gathers (λ o f. following_more rule p.1 p.2 d f)

    pub commas_failed : {m : List Token} {c : Place} (f : Failure Token) → Sees (sign Comma) rest c m → Exact D C m (Failed f)
        → Exact G H all (Failed f)
    commas_failed f k d = let p = sees_parts k in gathers_failed f gathers (following_failed rule f p.1 p.2 d)

    pub commas_end : {r : List Token} {c : F} → Sees close rest c r → Exact G H all (Got xs r)
    commas_end k = let p = sees_parts k in gathers_end gathers (following_stop rule p.1 p.2)

    pub commas_wrong : head_of (sign Comma) rest ≡ None → head_of close rest ≡ None → Exact G H all (Failed (Wrong rest))
    commas_wrong h k = gathers_failed (Wrong rest) gathers (following_missing rule h k)

-- arguments as the tree has them
pub expressions_are : (es : List ExprNode) → expressions_view es ≡ expressions (map expression_view es)
expressions_are [] = refl
expressions_are (e ∷ es) = ap (λ z. expression_and (expression_view e) z) (expressions_are es)
