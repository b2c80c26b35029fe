-- What a terminal that was read says of the token that stands there, and of every other test of it.
use Rattle.std.proofs.Common.{◌≡◌, ℕ, ℤ, pos, List, [], cond, nat_eq, Option, Some, None, refl, ◌∙◌, ap}
use Rattle.std.proofs.lemmas.Bool.{eq-eqb}
use Rattle.std.proofs.lemmas.Option.{cond_some}
use Rattle.ca_descent.specs.Exact.{Unlimited, Sees, sees, head_of}
use Rattle.ca_descent.proofs.Exact.{sees_default}
use Rattle.ca_descent.proofs.Parts.{Part}
use Rattle.ca_tree.specs.declared.name.Place.{Place}
use Rattle.ca_tree.specs.declared.token.Token.{Token}
use Rattle.ca_tree.specs.declared.token.Kind.{Kind}
use Rattle.ca_tree.specs.declared.token.Kind.TheVariants.{Word, Number}
use Rattle.ca_tree.specs.declared.token.Kind.TheVariants.{Key as KeyKind, Sign as SignKind}
use Rattle.ca_tree.specs.declared.token.Keyword.{Keyword}
use Rattle.ca_tree.specs.declared.token.Sign.{Sign}
use Rattle.ca_tree.specs.Codes.{key_code, sign_code}
use Rattle.ca_tree.proofs.Table.{is_key, is_sign}
use Rattle.ca_expressions.specs.Terminals.{key_of, sign_of, name_of, number_of, key, sign, name, number}

-- a test of a token is one of its kind and its place
abbrev pub test : {A : Type 0} → (Kind → Place → Option A) → Token → Option A
test f t = f t.kind t.at

pub key_kind : {A : Type 0} (f : Kind → Place → Option A) (k : Keyword) (x : Kind) (at p : Place) → key_of k x at ≡ Some p
    → f x at ≡ f (KeyKind k) p
key_kind f k (KeyKind w) at p h =
    let e = cond_some _ at p h in ap (λ z. f (KeyKind z) at) (is_key w k e.0) ∙ ap (λ z. f (KeyKind k) z) e.1
key_kind f k (SignKind w) at p h = absurd cc
key_kind f k (Word n) at p h = absurd cc
key_kind f k (Number n) at p h = absurd cc

pub sign_kind : {A : Type 0} (f : Kind → Place → Option A) (k : Sign) (x : Kind) (at p : Place) → sign_of k x at ≡ Some p
    → f x at ≡ f (SignKind k) p
sign_kind f k (SignKind w) at p h =
    let e = cond_some _ at p h in ap (λ z. f (SignKind z) at) (is_sign w k e.0) ∙ ap (λ z. f (SignKind k) z) e.1
sign_kind f k (KeyKind w) at p h = absurd cc
sign_kind f k (Word n) at p h = absurd cc
sign_kind f k (Number n) at p h = absurd cc

pub name_kind : {A : Type 0} (f : Kind → Place → Option A) (x : Kind) (at : Place) (n : List ℕ × Place) → name_of x at ≡ Some n
    → f x at ≡ f (Word n.0) n.1
name_kind f (Word m) at n h = let e : (m, at) ≡ n = cc in ap (λ z. f (Word z.0) z.1) e
name_kind f (Number m) at n h = absurd cc
name_kind f (KeyKind w) at n h = absurd cc
name_kind f (SignKind w) at n h = absurd cc

number_kind : {A : Type 0} (f : Kind → Place → Option A) (x : Kind) (at : Place) (n : ℤ × Place) → number_of x at ≡ Some n
    → f x at ≡ f (Number n.0) n.1
number_kind f (Number m) at n h = let e : (m, at) ≡ n = cc in ap (λ z. f (Number z.0) z.1) e
number_kind f (Word m) at n h = absurd cc
number_kind f (KeyKind w) at n h = absurd cc
number_kind f (SignKind w) at n h = absurd cc

-- what any test f says, where the terminal stands
pub key_gives : {A : Type 0} (f : Kind → Place → Option A) (k : Keyword) {s r : List Token} {p : Place} → Sees (key k) s p r
    → head_of (test f) s ≡ f (KeyKind k) p
key_gives f k (sees {t = t} {a = p} h) = key_kind f k t.kind t.at p h

pub sign_gives : {A : Type 0} (f : Kind → Place → Option A) (k : Sign) {s r : List Token} {p : Place} → Sees (sign k) s p r
    → head_of (test f) s ≡ f (SignKind k) p
sign_gives f k (sees {t = t} {a = p} h) = sign_kind f k t.kind t.at p h

pub name_gives : {A : Type 0} (f : Kind → Place → Option A) {s r : List Token} {n : List ℕ × Place} → Sees name s n r
    → head_of (test f) s ≡ f (Word n.0) n.1
name_gives f (sees {t = t} {a = n} h) = name_kind f t.kind t.at n h

pub number_gives : {A : Type 0} (f : Kind → Place → Option A) {s r : List Token} {n : ℤ × Place} → Sees number s n r
    → head_of (test f) s ≡ f (Number n.0) n.1
number_gives f (sees {t = t} {a = n} h) = number_kind f t.kind t.at n h

-- a terminal is seen wherever its test holds
pub sees_also : {A B : Type 0} {one : Token → Option A} {other : Token → Option B} {s r : List Token} {a : A} {b : B} → Sees one s a r
    → head_of other s ≡ Some b → Sees other s b r
sees_also (sees h) e = sees e

-- each terminal stands somewhere
abbrev pub start : Place
start = record { line = 1; column = 1 }

abbrev pub token : Kind → Token
token x = record { kind = x; at = start; start = 0; len = 0 }

same_code : (n : ℕ) → cond (nat_eq n n) (Some start) None ≡ Some start
same_code n = rw (eq-eqb n n refl) refl

pub key_sees : (k : Keyword) → key k (token (KeyKind k)) ≡ Some start
key_sees k = same_code (key_code k)

pub sign_sees : (s : Sign) → sign s (token (SignKind s)) ≡ Some start
sign_sees s = same_code (sign_code s)

pub name_sees : name (token (Word [])) ≡ Some ([], start)
name_sees = refl

pub number_sees : number (token (Number (pos 0))) ≡ Some (pos 0, start)
number_sees = refl

-- terminals as parts
abbrev pub terminal : {A : Type 0} (want : Token → Option A) {t : Token} {a : A} → want t ≡ Some a → Part Token A
terminal want h = record { D = Unlimited (Sees want); C = Unlimited (Sees want); some = sees_default want h }

abbrev pub word : Keyword → Part Token Place
word k = terminal (key k) {t = token (KeyKind k)} (key_sees k)

abbrev pub mark : Sign → Part Token Place
mark k = terminal (sign k) {t = token (SignKind k)} (sign_sees k)

abbrev pub a_name : Part Token (List ℕ × Place)
a_name = terminal name {t = token (Word [])} name_sees

abbrev pub a_number : Part Token (ℤ × Place)
a_number = terminal number {t = token (Number (pos 0))} number_sees
