-- The names of the operations of an accepted text stand at places of their own: tokens stand behind each other, and so do the
-- methods that they derive.
use Prim.Native.Char.{code}
use Rattle.std.proofs.Common.{◌≡◌, ℕ, zero, suc, ◌+◌, ◌≤◌, Bool, true, false, List, [], ◌∷◌, ◌++◌, length, map, take, drop, Option, Some, None, refl, sym, ap, subst, ◌∙◌, arith, length-take, length-drop, append_assoc, append-nil, if◌then◌else◌}
use Rattle.std.specs.Prelude.{ℤ, slice_get, ◌==◌}
use Rattle.std.proofs.lemmas.List.{map-append}
use Rattle.std.proofs.lemmas.Option.{slice_get-map}
use Rattle.ca_descent.specs.Exact.{Sees, sees, Short, Following, following_end, following, separated_none, separated}
use Rattle.ca_tree.specs.declared.name.Place.{Place}
use Rattle.ca_tree.specs.declared.token.Kind.{Kind}
use Rattle.ca_tree.specs.declared.token.Kind.TheVariants.{Word, Number, Key, Sign}
use Rattle.ca_tree.specs.declared.token.Token.{Token}
use Rattle.ca_tree.specs.declared.tree.TypeNode.{TypeNode}
use Rattle.ca_tree.specs.declared.tree.ParamNode.{ParamNode}
use Rattle.ca_tree.specs.declared.tree.AssignOp.{AssignOp}
use Rattle.ca_tree.specs.Plain.{RightSide, Statement, TextTree, MethodTree, MemberTree, ClassTree, field_member, method_member}
use Rattle.ca_lex.specs.Places.{start, step, advance}
use Rattle.ca_lex.specs.Tokens.{TokensFrom, at_end, blank, comment, token}
use Rattle.ca_lex.proofs.Sizes.{blank_size, comment_size, token_size}
use Rattle.ca_expressions.specs.Terminals.{name, name_of}
use Rattle.ca_parse.specs.Grammar.{Deriving, TypeName, long, bool, pointer, Right, expression, creation, creation_call, Local, declares, begins, Change, puts, changes, increments, decrements, Assign, assigns, AssignLine, assign_line, First, first_local, first_assign, Stmt, nothing, a_block, an_assign, a_call, an_if, an_if_else, a_while, a_for, a_return, a_print, Item, a_local, a_statement, Items, items_end, items_and, Lines, lines_end, lines_and, Listed, Param, param, Signature, signature, Length, scalar, array, Further, further_plain, further_pointer, Member, fields, operation, value_method, Declaration, forward, a_class, program, DerivesFree}
use Rattle.ca_program.specs.Plain.{PlainProgram}
use Rattle.ca_emit.specs.Annotations.{operation_and, operations_in, operations_of, place_number}
use Rattle.ca_emit.specs.Locks.{NamesApart}
use Rattle.ca_app.specs.Accepted.{Accepted}

-- ---- places rise along a text

abbrev stepped : Place → Bool → Place
stepped p c = if c then record { line = p.line + 1; column = 1 } else record { line = p.line; column = p.column + 1 }

-- a byte leads to a later place, and by one column at most
one_step : (p : Place) (c : Bool) → p.column ≤ 4294967296 → (place_number p + 1 ≤ place_number (stepped p c)) × ((stepped p c).column ≤ p.column + 1)
one_step p true h = (omega (arith, h), omega arith)
one_step p false h = (omega arith, omega arith)

moved : (p : Place) (bs : List ℕ) → p.column + length bs ≤ 4294967296 → (place_number p + length bs ≤ place_number (advance p bs)) × ((advance p bs).column ≤ p.column + length bs)
moved p [] h = (omega arith, omega arith)
moved p (b ∷ bs) h =
    let one : (place_number p + 1 ≤ place_number (step p b)) × ((step p b).column ≤ p.column + 1) = one_step p (b == code "\n") (omega (arith, h)) in
    let rest = moved (step p b) bs (omega (arith, h, one.1)) in
    (omega (arith, one.0, rest.0), omega (arith, one.1, rest.1))

-- the tokens stand behind each other, the first at this place or behind it
abbrev Ahead : ℕ → List Token → Type 0
Ahead n [] = Unit {0}
Ahead n (t ∷ ts) = (n ≤ place_number t.at) × Ahead (suc (place_number t.at)) ts

record Above (n : ℕ) (ts : List Token) : Type 0 where
  holds : Ahead n ts

ahead_less : (m n : ℕ) (ts : List Token) → m ≤ n → Ahead n ts → Ahead m ts
ahead_less m n [] l h = tt
ahead_less m n (t ∷ ts) l h = (omega (arith, l, h.0), h.1)

-- behind a piece of k bytes
behind_piece : (p : Place) (k : ℕ) (s : List ℕ) → k ≤ length s → p.column + length s ≤ 4294967296
    → (place_number p + k ≤ place_number (advance p (take k s))) × ((advance p (take k s)).column + length (drop k s) ≤ 4294967296)
behind_piece p k s l h =
    let taken = length-take k s in
    let left = length-drop k s in
    let it = moved p (take k s) (omega (arith, h, l, taken)) in
    (omega (arith, it.0, taken, l), omega (arith, it.1, taken, left, l, h))

tokens_ahead : {p : Place} {n : ℕ} {s : List ℕ} {ts : List Token} → TokensFrom p n s ts → p.column + length s ≤ 4294967296 → Ahead (place_number p) ts
tokens_ahead at_end h = tt
tokens_ahead {p = p} {s = s} (blank {k = k} {ts = ts} e d) h =
    let w = behind_piece p k s (blank_size s e).1 h in
    ahead_less (place_number p) (place_number (advance p (take k s))) ts (omega (arith, w.0)) (tokens_ahead d w.1)
tokens_ahead {p = p} {s = s} (comment {k = k} {ts = ts} e d) h =
    let w = behind_piece p k s (comment_size s e).1 h in
    ahead_less (place_number p) (place_number (advance p (take k s))) ts (omega (arith, w.0)) (tokens_ahead d w.1)
tokens_ahead {p = p} {s = s} (token {k = k} {ts = ts} e d) h =
    let size = token_size s e in
    let w = behind_piece p k s size.1 h in
    (omega arith, ahead_less (suc (place_number p)) (place_number (advance p (take k s))) ts (omega (arith, w.0, size.0)) (tokens_ahead d w.1))

-- ---- what is left of tokens stands behind what was read

next : {A : Type 0} {want : Token → Option A} {s r : List Token} {a : A} {n : ℕ} → Sees want s a r → Above n s → Above n r
next {r = r} {n = n} (sees {t = t} e) h = record { holds = ahead_less n (suc (place_number t.at)) r (omega (arith, h.holds.0)) h.holds.1 }

cut_off : (f : List Token) (r : List Token) (n : ℕ) → Ahead n (f ++ r) → Ahead n r
cut_off [] r n h = h
cut_off (t ∷ f) r n h = ahead_less n (suc (place_number t.at)) r (omega (arith, h.0)) (cut_off f r (suc (place_number t.at)) h.1)

short_on : {A : Type 0} {m : ℕ} {G : List Token → A → List Token → Type 0} {free : ℕ} {s r : List Token} {x : A} {n : ℕ} → Short m G free s x r → Above n s → Above n r
short_on {r = r} {n = n} d h = record { holds = cut_off d.front r n (subst (Ahead n) d.cut h.holds) }

abbrev Goes : {A : Type 0} → Deriving A → Type 0
Goes {A} D = (free : ℕ) (s r : List Token) (x : A) (n : ℕ) → D free s x r → Above n s → Above n r

type_on : {free : ℕ} {s r : List Token} {ty : TypeNode × Place} {n : ℕ} → TypeName free s ty r → Above n s → Above n r
type_on (long k) h = next k h
type_on (bool k) h = next k h
type_on (pointer m t) h = next t (next m h)

right_on : {free : ℕ} {s r : List Token} {x : RightSide} {n : ℕ} → Right free s x r → Above n s → Above n r
right_on (expression e) h = short_on e h
right_on (creation w m) h = next m (next w h)
right_on (creation_call w m o c) h = next c (next o (next m (next w h)))

local_on : {free : ℕ} {s r : List Token} {x : Statement} {n : ℕ} → Local free s x r → Above n s → Above n r
local_on (declares t m e) h = next e (next m (type_on t h))
local_on (begins t m a x e) h = next e (right_on x (next a (next m (type_on t h))))

change_on : {free : ℕ} {s r : List Token} {c : AssignOp × RightSide} {n : ℕ} → Change free s c r → Above n s → Above n r
change_on (puts a x) h = right_on x (next a h)
change_on (changes c e) h = short_on e (next c h)
change_on (increments p) h = next p h
change_on (decrements p) h = next p h

assign_on : {free : ℕ} {s r : List Token} {x : Statement} {n : ℕ} → Assign free s x r → Above n s → Above n r
assign_on (assigns t is c) h = change_on c (short_on t h)

assign_line_on : {free : ℕ} {s r : List Token} {x : Statement} {n : ℕ} → AssignLine free s x r → Above n s → Above n r
assign_line_on (assign_line d e) h = next e (assign_on d h)

first_on : {free : ℕ} {s r : List Token} {x : Statement} {n : ℕ} → First free s x r → Above n s → Above n r
first_on (first_local d) h = local_on d h
first_on (first_assign d) h = assign_line_on d h

mutual
  statement_on : {depth free : ℕ} {s r : List Token} {x : Statement} {n : ℕ} → Stmt depth free s x r → Above n s → Above n r
  statement_on (nothing p) h = next p h
  statement_on (a_block m o d) h = items_on d (next o h)
  statement_on (an_assign d) h = assign_line_on d h
  statement_on (a_call d is e) h = next e (short_on d h)
  statement_on (an_if m k o e c d) h = statement_on d (next c (short_on e (next o (next k h))))
  statement_on (an_if_else m k o e c d closed l b) h = statement_on b (next l (statement_on d (next c (short_on e (next o (next k h))))))
  statement_on (a_while m k o e c d) h = statement_on d (next c (short_on e (next o (next k h))))
  statement_on (a_for m k o f e i a c d) h = statement_on d (next c (assign_on a (next i (short_on e (first_on f (next o (next k h)))))))
  statement_on (a_return k e m) h = next m (short_on e (next k h))
  statement_on (a_print k o e c m) h = next m (next c (short_on e (next o (next k h))))

  item_on : {depth free : ℕ} {s r : List Token} {x : Statement} {n : ℕ} → Item depth free s x r → Above n s → Above n r
  item_on (a_local d) h = local_on d h
  item_on (a_statement d) h = statement_on d h

  items_on : {depth free : ℕ} {s r : List Token} {xs : List Statement} {n : ℕ} → Items depth free s xs r → Above n s → Above n r
  items_on (items_end c) h = next c h
  items_on (items_and d ds) h = items_on ds (item_on d h)

following_on : {A E F : Type 0} {D : Deriving A} {comma : Token → Option E} {close : Token → Option F} → Goes D → Goes (Following D comma close)
following_on g free s r xs n (following_end c) h = next c h
following_on g free s r xs n (following {mid = m} {q = q} {x = x} {xs = ys} c d ds) h = following_on g free q r ys n ds (g free m q x n d (next c h))

listed_on : {A : Type 0} {D : Deriving A} → Goes D → Goes (Listed D)
listed_on g free s r xs n (separated_none c) h = next c h
listed_on g free s r xs n (separated {q = q} {x = x} {xs = ys} d ds) h = following_on g free q r ys n ds (g free s q x n d h)

param_on : Goes Param
param_on free s r x n (param t m) h = next m (type_on t h)

signature_on : {free : ℕ} {s r : List Token} {m : List ParamNode × List Statement} {n : ℕ} → Signature free s m r → Above n s → Above n r
signature_on {free} {n = n} (signature {s1 = s1} {s2 = s2} {ps = ps} o p b d) h = items_on d (next b (listed_on param_on free s1 s2 ps n p (next o h)))

length_on : {free : ℕ} {s r : List Token} {l : Option ℤ} {n : ℕ} → Length free s l r → Above n s → Above n r
length_on scalar h = h
length_on (array o m c) h = next c (next m (next o h))

further_on : (ty : TypeNode) → Goes (Further ty)
further_on ty free s r x n (further_plain is m l) h = length_on l (next m h)
further_on ty free s r x n (further_pointer is t m l) h = length_on l (next m (next t h))

-- ---- names of operations rise

-- numbers from the first on, each below the next and the last below the end
abbrev Rise : ℕ → List ℕ → ℕ → Type 0
Rise n [] m = n ≤ m
Rise n (x ∷ xs) m = (n ≤ x) × Rise (suc x) xs m

rise_from : (k n : ℕ) (xs : List ℕ) (m : ℕ) → k ≤ n → Rise n xs m → Rise k xs m
rise_from k n [] m l h = omega (arith, l, h)
rise_from k n (x ∷ xs) m l h = (omega (arith, l, h.0), h.1)

rise_on : (n : ℕ) (xs : List ℕ) (m : ℕ) (ys : List ℕ) (k : ℕ) → Rise n xs m → Rise m ys k → Rise n (xs ++ ys) k
rise_on n [] m ys k h g = rise_from n m ys k h g
rise_on n (x ∷ xs) m ys k h g = (h.0, rise_on (suc x) xs m ys k h.1 g)

-- none is below the first
not_below : (n : ℕ) (xs : List ℕ) (m i a : ℕ) → Rise n xs m → slice_get xs i ≡ Some a → n ≤ a
not_below n [] m i a h e = absurd cc
not_below n (x ∷ xs) m zero a h e = let same : x ≡ a = cc in subst (λ z. n ≤ z) same h.0
not_below n (x ∷ xs) m (suc i) a h e = omega (arith, h.0, not_below (suc x) xs m i a h.1 e)

one_place : (n : ℕ) (xs : List ℕ) (m i j a : ℕ) → Rise n xs m → slice_get xs i ≡ Some a → slice_get xs j ≡ Some a → i ≡ j
one_place n [] m i j a h e f = absurd cc
one_place n (x ∷ xs) m zero zero a h e f = refl
one_place n (x ∷ xs) m zero (suc j) a h e f = let same : x ≡ a = cc in absurd (omega (arith, same, not_below (suc x) xs m j a h.1 f))
one_place n (x ∷ xs) m (suc i) zero a h e f = let same : x ≡ a = cc in absurd (omega (arith, same, not_below (suc x) xs m i a h.1 e))
one_place n (x ∷ xs) m (suc i) (suc j) a h e f = ap suc (one_place (suc x) xs m i j a h.1 e f)

abbrev numbers : List MethodTree → List ℕ
numbers ms = map (λ (m : MethodTree). place_number m.at) ms

-- these names stand from a place on, and in front of what is left
record Stand (n : ℕ) (ms : List MethodTree) (r : List Token) : Type 0 where
  to : ℕ
  rises : Rise n (numbers ms) to
  left : Above to r

none_stand : (n : ℕ) (r : List Token) → Above n r → Stand n [] r
none_stand n r h = record { to = n; rises = omega arith; left = h }

both_stand : (n : ℕ) (ms ks : List MethodTree) (q r : List Token) (one : Stand n ms q) → Stand one.to ks r → Stand n (ms ++ ks) r
both_stand n ms ks q r one two = record {
  to = two.to;
  rises = subst (λ z. Rise n z two.to) (sym (map-append (λ (m : MethodTree). place_number m.at) ms ks)) (rise_on n (numbers ms) one.to (numbers ks) two.to one.rises two.rises);
  left = two.left;
}

-- the name that a token carries stands where the token does
abbrev Carried : Place → Option (List ℕ × Place) → Type 0
Carried at None = Unit {0}
Carried at (Some x) = x.1 ≡ at

kind_carries : (k : Kind) (at : Place) → Carried at (name_of k at)
kind_carries (Word n) at = refl
kind_carries (Number n) at = tt
kind_carries (Key k) at = tt
kind_carries (Sign s) at = tt

name_on : {s r : List Token} {x : List ℕ × Place} {n : ℕ} → Sees name s x r → Above n s → (n ≤ place_number x.1) × Above (suc (place_number x.1)) r
name_on {r = r} {x = x} {n = n} (sees {t = t} e) h =
    let at : x.1 ≡ t.at = subst (Carried t.at) e (kind_carries t.kind t.at) in
    let w : (n ≤ place_number x.1) × Ahead (suc (place_number x.1)) r = subst (λ (z : Place). (n ≤ place_number z) × Ahead (suc (place_number z)) r) (sym at) h.holds in
    (w.0, record { holds = w.1 })

no_operations : {E F : Type 0} {comma : Token → Option E} {close : Token → Option F} (ty : TypeNode) {free : ℕ} {s r : List Token} {fs : List MemberTree} → Following (Further ty) comma close free s fs r → operations_in fs ≡ []
no_operations ty (following_end c) = refl
no_operations ty (following c (further_plain is m l) ds) = no_operations ty ds
no_operations ty (following c (further_pointer is t m l) ds) = no_operations ty ds

in_append : (xs ys : List MemberTree) → operations_in (xs ++ ys) ≡ operations_in xs ++ operations_in ys
in_append [] ys = refl
in_append (field_member f ∷ xs) ys = in_append xs ys
in_append (method_member m ∷ xs) ys = ap (operation_and m.result m) (in_append xs ys) ∙ with_one m.result
  where
    with_one : (o : Option TypeNode) → operation_and o m (operations_in xs ++ operations_in ys) ≡ operation_and o m (operations_in xs) ++ operations_in ys
    with_one None = refl
    with_one (Some ty) = refl

of_append : (xs ys : List ClassTree) → operations_of (xs ++ ys) ≡ operations_of xs ++ operations_of ys
of_append [] ys = refl
of_append (c ∷ xs) ys = ap (λ zs. operations_in c.members ++ zs) (of_append xs ys) ∙ sym (append_assoc (operations_in c.members) (operations_of xs) (operations_of ys))

-- what lines give, by what one gives
abbrev Stands : {A : Type 0} → (List A → List MethodTree) → Deriving (List A) → Type 0
Stands {A} f D = (free : ℕ) (s r : List Token) (xs : List A) (n : ℕ) → D free s xs r → Above n s → Stand n (f xs) r

lines_stand : {A B : Type 0} {D : Deriving (List A)} {close : Token → Option B} (f : List A → List MethodTree) → f [] ≡ [] → ((xs ys : List A) → f (xs ++ ys) ≡ f xs ++ f ys) → Stands f D → Stands f (Lines D close)
lines_stand f nil joins g free s r xs n (lines_end c) h = subst (λ ms. Stand n ms r) (sym nil) (none_stand n r (next c h))
lines_stand f nil joins g free s r xs n (lines_and {q = q} {xs = us} {ys = vs} d ds) h =
    let first = g free s q us n d h in
    subst (λ ms. Stand n ms r) (sym (joins us vs)) (both_stand n (f us) (f vs) q r first (lines_stand f nil joins g free q r vs first.to ds first.left))

member_stands : Stands operations_in Member
member_stands free s r xs n (fields {s3 = s3} {ty = ty} {fs = fs} t m l ds) h =
    subst (λ ms. Stand n ms r) (sym (no_operations ty.0 ds)) (none_stand n r (following_on (further_on ty.0) free s3 r fs n ds (length_on l (next m (type_on t h)))))
member_stands free s r xs n (operation {n = m} v k d) h =
    let there = name_on k (next v h) in
    record { to = suc (place_number m.1); rises = (there.0, omega arith); left = signature_on d there.1 }
member_stands free s r xs n (value_method t k d) h = none_stand n r (signature_on d (next k (type_on t h)))

declaration_stands : Stands operations_of Declaration
declaration_stands free s r xs n (forward c m e) h = none_stand n r (next e (next m (next c h)))
declaration_stands free s r xs n (a_class {s5 = s5} {s6 = s6} {ms = ms} c m o p d l e) h =
    let all = lines_stand operations_in refl in_append member_stands free s5 s6 ms n l (next d (next p (next o (next m (next c h))))) in
    subst (λ ks. Stand n ks r) (sym (append-nil (operations_in ms))) (record { to = all.to; rises = all.rises; left = next e all.left })

tree_stands : {free : ℕ} {ts : List Token} {t : TextTree} (n : ℕ) → DerivesFree free ts t → Above n ts → (m : ℕ) × Rise n (numbers (operations_of t.classes)) m
tree_stands {free} {ts} n (program {s1 = s1} {cs = cs} ds m o c b d) h =
    let all = lines_stand operations_of refl of_append declaration_stands free ts s1 cs n ds h in
    (all.to, all.rises)

-- ---- of an accepted text

pub names_apart : {text : List ℕ} {p : PlainProgram} (a : Accepted text p) → NamesApart a.tree
names_apart {text} a k n x y e f same =
    let short : length text ≤ 1048576 = a.has_tree.has_tokens.short in
    let all = tree_stands (place_number start) a.has_tree.derived (record { holds = tokens_ahead a.has_tree.has_tokens.lexed (omega (arith, short)) }) in
    let number : MethodTree → ℕ = λ m. place_number m.at in
    let one : slice_get (numbers (operations_of a.tree.classes)) k ≡ Some (place_number x.at) = rw (slice_get-map number (operations_of a.tree.classes) k, e) refl in
    let other : slice_get (numbers (operations_of a.tree.classes)) n ≡ Some (place_number x.at) = rw (slice_get-map number (operations_of a.tree.classes) n, f) (ap Some (sym same)) in
    one_place (place_number start) (numbers (operations_of a.tree.classes)) all.0 k n (place_number x.at) all.1 one other
