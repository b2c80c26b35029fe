-- Names that are given once: an item of the number that its name has first.
use Rattle.std.proofs.Common.{◌≡◌, ℕ, zero, suc, ◌+◌, ◌<◌, ◌≤◌, ◌⊎◌, inl, inr, List, [], ◌∷◌, ◌++◌, Bool, true, false, length, map, get_or, refl, sym, subst, ap, ◌∙◌, arith, append_assoc}
use Rattle.std.proofs.lemmas.List.{length_push}
use Rattle.std.specs.Prelude.{Option, Some, None, slice_get, not}
use Rattle.std.proofs.lemmas.Bool.{eqb-true}
use Rattle.std.proofs.lemmas.Option.{same_Some}
use Rattle.ca_tree.specs.declared.name.Place.{Place}
use Rattle.ca_tree.specs.Plain.{MethodTree, MemberTree, ClassTree, TextTree, field_member, method_member}
use Rattle.ca_program.specs.declared.program.ValueType.{ValueType}
use Rattle.ca_program.specs.Plain.{PlainProgram, PlainClass, PlainMethod}
use Rattle.ca_program.specs.Plain as program
use Rattle.ca_resolve.specs.Judged.{Violation, Judged, fine, faulty, both, unless, beside, each, broken_if}
use Rattle.ca_resolve.specs.Scopes.{classes_of, member_name, number_of}
use Rattle.ca_resolve.proofs.Holding.{Holds, within_any, both_hold, of_fine, within_holds}
use Rattle.ca_types.specs.Rules.{class_once, member_once, is_number, class_limit}
use Rattle.ca_types.specs.Classes.{MemberEnv, Member, a_field, a_method, Members, members_of, method_and, judge_field_member, judge_method, judge_member, judge_members, judge_parts, method_of, method_limit, behind_member, along, ClassEnv, class_begin, behind_class, judge_class, judge_named, judge_classes, Parts, parts_of, first_class, judge, program_of, main_begin}
use Rattle.ca_types.specs.Statements.{judge_statements, behind_all}
use Rattle.ca_typing.specs.Names.{NamedOnce}

pub first_holds : {A B : Type 0} (P : A → Type 0) (j : Judged A) (k : Judged B) → Holds P j → Holds (λ (p : A × B). P p.0) (both j k)
first_holds P (fine a) (fine b) h = h
first_holds P (fine a) (faulty u us) h = tt
first_holds P (faulty v vs) k h = tt

-- a rule that is kept is told
pub unless_told : {A : Type 0} (P : A → Type 0) (v : Option Violation) (a : A) → (v ≡ None → P a) → Holds P (unless v a)
unless_told P None a h = h refl
unless_told P (Some v) a h = tt

pub beside_told : {A : Type 0} (P : A → Type 0) (v : Option Violation) (j : Judged A) → (v ≡ None → Holds P j) → Holds P (beside v j)
beside_told P None j h = h refl
beside_told P (Some v) j h = tt

not_true : (b : Bool) (at : Place) (code : ℕ) → broken_if (not b) at code ≡ None → b ≡ true
not_true true at code h = refl
not_true false at code h = absurd (cc)

is_that : (n : ℕ) (o : Option ℕ) → is_number n o ≡ true → o ≡ Some n
is_that n None h = absurd (cc)
is_that n (Some m) h = ap (λ (x : ℕ). Some x) (eqb-true m n h)

-- the name's first place is this one
IsFirst : List (List ℕ) → ℕ → List ℕ → Type 0
IsFirst names n name = number_of names name ≡ Some n

class_first : (names : List (List ℕ)) (n : ℕ) (name : List ℕ) (at : Place) → class_once names n name at ≡ None → number_of names name ≡ Some n
class_first names n name at h = is_that n (number_of names name) (not_true (is_number n (number_of names name)) at _ h)

member_first : (names : List (List ℕ)) (n : ℕ) (name : List ℕ) (at : Place) → member_once names n name at ≡ None → number_of names name ≡ Some n
member_first names n name at h = is_that n (number_of names name) (not_true (is_number n (number_of names name)) at _ h)

-- ---- members

-- the methods among members of a class have its number, and their names stand first where they stand
abbrev Named : List (List ℕ) → ℕ → ℕ → List Member → Type 0
Named names class k [] = Unit {0}
Named names class k (a_field f ∷ xs) = Named names class (k + 1) xs
Named names class k (a_method m ∷ xs) = (m.class.0 ≡ class) × (number_of names m.name ≡ Some k) × Named names class (k + 1) xs

abbrev MethodNamed : List (List ℕ) → ℕ → ℕ → PlainMethod → Type 0
MethodNamed names class k m = (m.class.0 ≡ class) × (number_of names m.name ≡ Some k)

abbrev OneNamed : List (List ℕ) → ℕ → ℕ → Member → Type 0
OneNamed names class k (a_field f) = Unit {0}
OneNamed names class k (a_method m) = MethodNamed names class k m

one_and : (names : List (List ℕ)) (class k : ℕ) (x : Member) (xs : List Member) → OneNamed names class k x → Named names class (k + 1) xs → Named names class k (x ∷ xs)
one_and names class k (a_field f) xs h g = g
one_and names class k (a_method m) xs h g = (h.0, h.1, g)

parts_named : (c : MemberEnv) (m : MethodTree) (parts : Judged (Option ValueType × (Unit {0} × List program.Statement))) → Holds (MethodNamed c.names c.class.0 c.number) (judge_parts c m parts)
parts_named c m parts =
    within_any (MethodNamed c.names c.class.0 c.number) (beside (method_limit c.numbers m.result m.at) parts) _
    (λ p. beside_told (MethodNamed c.names c.class.0 c.number) (member_once c.names c.number m.name m.at) _
    (λ e. unless_told (MethodNamed c.names c.class.0 c.number) _ (method_of c m p.0 p.1.1) (λ g. (refl, member_first c.names c.number m.name m.at e))))

member_named : (c : MemberEnv) (m : MemberTree) → Holds (OneNamed c.names c.class.0 c.number) (judge_member c m)
member_named c (field_member f) = within_any (OneNamed c.names c.class.0 c.number) (judge_field_member c f) (λ i. fine (a_field i)) (λ i. tt)
member_named c (method_member m) = within_holds (MethodNamed c.names c.class.0 c.number) (OneNamed c.names c.class.0 c.number) (judge_method c m) (λ x. fine (a_method x)) (parts_named c m _) (λ x h. h)

members_named : (c : MemberEnv) (ms : List MemberTree) → Holds (Named c.names c.class.0 c.number) (each (along behind_member judge_member c ms))
members_named c [] = tt
members_named c (m ∷ ms) =
    within_holds (λ (p : Member × List Member). OneNamed c.names c.class.0 c.number p.0 × Named c.names c.class.0 (c.number + 1) p.1) (Named c.names c.class.0 c.number)
    (both (judge_member c m) (each (along behind_member judge_member (behind_member c m) ms))) (λ p. fine (p.0 ∷ p.1))
    (both_hold (OneNamed c.names c.class.0 c.number) (Named c.names c.class.0 (c.number + 1)) (judge_member c m) (each (along behind_member judge_member (behind_member c m) ms)) (member_named c m) (members_named (behind_member c m) ms))
    (λ p h. one_and c.names c.class.0 c.number p.0 p.1 h.0 h.1)

-- ---- operations in the order of their classes and of the places of their names

module _ (names : ℕ → List (List ℕ)) where
  abbrev Behind : ℕ → ℕ → PlainMethod → ℕ → Type 0
  Behind c k m r = (c < m.class.0) ⊎ ((c ≡ m.class.0) × (k ≤ r))

  abbrev InOrder : ℕ → ℕ → List PlainMethod → Type 0
  InOrder c k [] = Unit {0}
  InOrder c k (m ∷ ms) = (r : ℕ) × (number_of (names m.class.0) m.name ≡ Some r) × Behind c k m r × InOrder m.class.0 (r + 1) ms

  later : (c k d l : ℕ) (m : PlainMethod) (r : ℕ) → (d < c) ⊎ ((d ≡ c) × (l ≤ k)) → Behind c k m r → Behind d l m r
  later c k d l m r (inl a) (inl b) = inl (omega (arith, a, b))
  later c k d l m r (inl a) (inr b) = inl (omega (arith, a, b.0))
  later c k d l m r (inr a) (inl b) = inl (omega (arith, a.0, b))
  later c k d l m r (inr a) (inr b) = inr (omega (arith, a.0, b.0), omega (arith, a.1, b.1))

  weaker : (c k d l : ℕ) (ms : List PlainMethod) → (d < c) ⊎ ((d ≡ c) × (l ≤ k)) → InOrder c k ms → InOrder d l ms
  weaker c k d l [] e h = tt
  weaker c k d l (m ∷ ms) e h = (h.0, h.1, later c k d l m h.0 e h.2, h.3)

  there : (c k : ℕ) (ms : List PlainMethod) (i : ℕ) (m : PlainMethod) → InOrder c k ms → slice_get ms i ≡ Some m → (r : ℕ) × (number_of (names m.class.0) m.name ≡ Some r) × Behind c k m r
  there c k [] i m h e = absurd (let z = e in cc)
  there c k (x ∷ ms) zero m h e = let same : x ≡ m = some_same x m e in subst (λ y. (r : ℕ) × (number_of (names y.class.0) y.name ≡ Some r) × Behind c k y r) same (h.0, h.1, h.2)
    where
      some_same : (a b : PlainMethod) → Some a ≡ Some b → a ≡ b
      some_same a b e = cc
  there c k (x ∷ ms) (suc i) m h e = let w = there x.class.0 (h.0 + 1) ms i m h.3 e in (w.0, w.1, later x.class.0 (h.0 + 1) c k m w.0 (back h.2) w.2)
    where
      back : Behind c k x h.0 → (c < x.class.0) ⊎ ((c ≡ x.class.0) × (k ≤ h.0 + 1))
      back (inl a) = inl a
      back (inr b) = inr (b.0, omega (arith, b.1))

  apart : (d r : ℕ) (ms : List PlainMethod) (j : ℕ) (x n : PlainMethod) → InOrder d (r + 1) ms → slice_get ms j ≡ Some n → d ≡ x.class.0 → number_of (names x.class.0) x.name ≡ Some r → x.class.0 ≡ n.class.0 → x.name ≡ n.name → ⊥
  apart d r ms j x n h f u w g q = from (there d (r + 1) ms j n h f)
    where
      from : (s : ℕ) × (number_of (names n.class.0) n.name ≡ Some s) × Behind d (r + 1) n s → ⊥
      from (s, is, inl l) = omega (arith, l, u, g)
      from (s, is, inr l) =
          let e : Some r ≡ Some s = sym w ∙ ap (λ z. number_of (names z) x.name) g ∙ ap (λ z. number_of (names n.class.0) z) q ∙ is in
          let same : r ≡ s = same_Some r s e in
          omega (arith, l.1, same)

  -- two of one class and name stand at one place
  once : (c k : ℕ) (ms : List PlainMethod) (i j : ℕ) (m n : PlainMethod) → InOrder c k ms → slice_get ms i ≡ Some m → slice_get ms j ≡ Some n → m.class.0 ≡ n.class.0 → m.name ≡ n.name → i ≡ j
  once c k [] i j m n h e f g q = absurd (let z = e in cc)
  once c k (x ∷ ms) zero zero m n h e f g q = refl
  once c k (x ∷ ms) (suc i) (suc j) m n h e f g q = ap (λ z. suc z) (once x.class.0 (h.0 + 1) ms i j m n h.3 e f g q)
  once c k (x ∷ ms) zero (suc j) m n h e f g q = absurd (apart x.class.0 h.0 ms j x n h.3 f refl h.1 (ap (λ (z : PlainMethod). z.class.0) (same_Some x m e) ∙ g) (ap (λ (z : PlainMethod). z.name) (same_Some x m e) ∙ q))
  once c k (x ∷ ms) (suc i) zero m n h e f g q = absurd (apart x.class.0 h.0 ms i x m h.3 e refl h.1 (ap (λ (z : PlainMethod). z.class.0) (same_Some x n f) ∙ sym g) (ap (λ (z : PlainMethod). z.name) (same_Some x n f) ∙ sym q))

  -- ---- the operations of a class, and of all classes

  abbrev AllOf : ℕ → List PlainMethod → Type 0
  AllOf c [] = Unit {0}
  AllOf c (m ∷ ms) = (m.class.0 ≡ c) × AllOf c ms

  with_method : (c k : ℕ) (m : PlainMethod) (r : Option ValueType) (p : Members) → m.class.0 ≡ c → number_of (names c) m.name ≡ Some k → InOrder c (k + 1) p.ops × AllOf c p.ops → InOrder c k (method_and r m p).ops × AllOf c (method_and r m p).ops
  with_method c k m None p e w h = ((k, ap (λ z. number_of (names z) m.name) e ∙ w, inr (sym e, omega arith), subst (λ z. InOrder z (k + 1) p.ops) (sym e) h.0), (e, h.1))
  with_method c k m (Some t) p e w h = (weaker c (k + 1) c k p.ops (inr (refl, omega arith)) h.0, h.1)

  of_class : (c k : ℕ) (xs : List Member) → Named (names c) c k xs → InOrder c k (members_of xs).ops × AllOf c (members_of xs).ops
  of_class c k [] h = (tt, tt)
  of_class c k (a_field f ∷ xs) h = let w = of_class c (k + 1) xs h in (weaker c (k + 1) c k (members_of xs).ops (inr (refl, omega arith)) w.0, w.1)
  of_class c k (a_method m ∷ xs) h = with_method c k m m.result (members_of xs) h.0 h.1 (of_class c (k + 1) xs h.2)

  joined : (c k d : ℕ) (xs ys : List PlainMethod) → c ≤ d → InOrder c k xs → AllOf d xs → InOrder (d + 1) 0 ys → InOrder c k (xs ++ ys)
  joined c k d [] ys l h a g = weaker (d + 1) 0 c k ys (inl (omega (arith, l))) g
  joined c k d (x ∷ xs) ys l h a g = (h.0, h.1, h.2, joined x.class.0 (h.0 + 1) d xs ys (omega (arith, a.0)) h.3 a.1 g)

  module _ (all : List (List ℕ)) where
    abbrev OneClass : ℕ → List ℕ × Members → Type 0
    OneClass c x = (number_of all x.0 ≡ Some c) × InOrder c 0 x.1.ops × AllOf c x.1.ops

    abbrev ClassesNamed : ℕ → List (List ℕ × Members) → Type 0
    ClassesNamed c [] = Unit {0}
    ClassesNamed c (x ∷ xs) = OneClass c x × ClassesNamed (c + 1) xs

    all_ops : (c : ℕ) (xs : List (List ℕ × Members)) → ClassesNamed c xs → InOrder c 0 (parts_of xs).ops
    all_ops c [] h = tt
    all_ops c (x ∷ xs) h = joined c 0 c x.1.ops (parts_of xs).ops (omega arith) h.0.1 h.0.2 (all_ops (c + 1) xs h.1)

    class_there : (c : ℕ) (xs : List (List ℕ × Members)) (i : ℕ) (k : PlainClass) → ClassesNamed c xs → slice_get (parts_of xs).classes i ≡ Some k → number_of all k.name ≡ Some (c + i)
    class_there c [] i k h e = absurd (let z = e in cc)
    class_there c (x ∷ xs) zero k h e =
        let same : x.0 ≡ k.name = ap (λ (z : PlainClass). z.name) (same_Some (record { name = x.0; fields = x.1.fields }) k e) in
        let one : c ≡ c + 0 = omega arith in
        ap (λ z. number_of all z) (sym same) ∙ h.0.0 ∙ ap (λ (z : ℕ). Some z) one
    class_there c (x ∷ xs) (suc i) k h e =
        let one : c + 1 + i ≡ c + suc i = omega arith in
        class_there (c + 1) xs i k h.1 e ∙ ap (λ (z : ℕ). Some z) one

    classes_once : (xs : List (List ℕ × Members)) → ClassesNamed 0 xs → (i j : ℕ) (c d : PlainClass) → slice_get (parts_of xs).classes i ≡ Some c → slice_get (parts_of xs).classes j ≡ Some d → c.name ≡ d.name → i ≡ j
    classes_once xs h i j c d e f q =
        let z : Some (0 + i) ≡ Some (0 + j) = sym (class_there 0 xs i c h e) ∙ ap (λ (n : List ℕ). number_of all n) q ∙ class_there 0 xs j d h f in
        let same : 0 + i ≡ 0 + j = same_Some (0 + i) (0 + j) z in
        omega (arith, same)

    class_named : (c : ClassEnv) (t : ClassTree) → c.classes.names ≡ all → names c.number ≡ map member_name t.members → Holds (OneClass c.number) (judge_named c t)
    class_named c t e w =
        within_holds (λ (m : Members). (number_of all t.name ≡ Some c.number) × InOrder c.number 0 m.ops × AllOf c.number m.ops) (OneClass c.number) (judge_class c t) (λ m. fine (t.name, m))
        (within_holds (λ (m : Members). InOrder c.number 0 m.ops × AllOf c.number m.ops) (λ (m : Members). (number_of all t.name ≡ Some c.number) × InOrder c.number 0 m.ops × AllOf c.number m.ops)
        (beside (class_limit c.number t.at) (judge_members (class_begin c t.members) t.members)) (λ p. unless (class_once c.classes.names c.number t.name t.at) p)
        (beside_told (λ (m : Members). InOrder c.number 0 m.ops × AllOf c.number m.ops) (class_limit c.number t.at) (judge_members (class_begin c t.members) t.members) (λ g. inside))
        (λ m h. unless_told (λ (x : Members). (number_of all t.name ≡ Some c.number) × InOrder c.number 0 x.ops × AllOf c.number x.ops) (class_once c.classes.names c.number t.name t.at) m
        (λ g. (ap (λ z. number_of z t.name) (sym e) ∙ class_first c.classes.names c.number t.name t.at g, h.0, h.1))))
        (λ m h. h)
      where
        inside : Holds (λ (m : Members). InOrder c.number 0 m.ops × AllOf c.number m.ops) (judge_members (class_begin c t.members) t.members)
        inside = within_holds (Named (map member_name t.members) c.number 0) (λ (m : Members). InOrder c.number 0 m.ops × AllOf c.number m.ops)
            (each (along behind_member judge_member (class_begin c t.members) t.members)) (λ xs. fine (members_of xs)) (members_named (class_begin c t.members) t.members)
            (λ xs h. of_class c.number 0 xs (subst (λ z. Named z c.number 0 xs) (sym w) h))

    abbrev NamesAre : ℕ → List ClassTree → Type 0
    NamesAre c [] = Unit {0}
    NamesAre c (t ∷ ts) = (names c ≡ map member_name t.members) × NamesAre (c + 1) ts

    classes_named : (c : ClassEnv) (ts : List ClassTree) → c.classes.names ≡ all → NamesAre c.number ts → Holds (ClassesNamed c.number) (each (along behind_class judge_named c ts))
    classes_named c [] e w = tt
    classes_named c (t ∷ ts) e w =
        within_holds (λ (p : (List ℕ × Members) × List (List ℕ × Members)). OneClass c.number p.0 × ClassesNamed (c.number + 1) p.1) (ClassesNamed c.number)
        (both (judge_named c t) (each (along behind_class judge_named (behind_class c t) ts))) (λ p. fine (p.0 ∷ p.1))
        (both_hold (OneClass c.number) (ClassesNamed (c.number + 1)) (judge_named c t) (each (along behind_class judge_named (behind_class c t) ts)) (class_named c t e w.0) (classes_named (behind_class c t) ts e w.1))
        (λ p h. h)

-- the names of the members of a class, by its number
abbrev names_in : List (List (List ℕ)) → ℕ → List (List ℕ)
names_in rows n = get_or rows n []

members_in : ClassTree → List (List ℕ)
members_in t = map member_name t.members

at_end : (front : List (List (List ℕ))) (x : List (List ℕ)) (xs : List (List (List ℕ))) → get_or (front ++ x ∷ xs) (length front) [] ≡ x
at_end [] x xs = refl
at_end (y ∷ front) x xs = at_end front x xs

names_are : (all : List (List ℕ)) (rows front : List (List (List ℕ))) (n : ℕ) (ts : List ClassTree) → rows ≡ front ++ map (λ (t : ClassTree). map member_name t.members) ts → length front ≡ n → NamesAre (names_in rows) all n ts
names_are all rows front n [] e l = tt
names_are all rows front n (t ∷ ts) e l = (
  ap (λ r. get_or r n []) e ∙ ap (λ k. get_or (front ++ map (λ (u : ClassTree). map member_name u.members) (t ∷ ts)) k []) (sym l) ∙ at_end front (map member_name t.members) (map (λ (u : ClassTree). map member_name u.members) ts),
  names_are all rows (front ++ map member_name t.members ∷ []) (n + 1) ts (e ∙ sym (append_assoc front (map member_name t.members ∷ []) (map (λ (u : ClassTree). map member_name u.members) ts))) (length_push front (map member_name t.members) ∙ ap (λ k. k + 1) l),
)

pub names_once : (tree : TextTree) (p : PlainProgram) → judge tree ≡ fine p → NamedOnce p
names_once tree p h = of_fine NamedOnce (judge tree) p
    (within_holds (λ (x : Parts × List program.Statement). PartsOnce x.0) NamedOnce
    (both (judge_classes (first_class (classes_of tree.classes)) tree.classes) (judge_statements (main_begin tree) tree.main)) (λ x. fine (program_of (behind_all (main_begin tree) tree.main).locals x))
    (first_holds PartsOnce (judge_classes (first_class (classes_of tree.classes)) tree.classes) (judge_statements (main_begin tree) tree.main) parts)
    (λ x k. record { classes = k.0; ops = k.1 })) h
  where
    rows : List (List (List ℕ))
    rows = map (λ (t : ClassTree). map member_name t.members) tree.classes

    PartsOnce : Parts → Type 0
    PartsOnce x = ((i j : ℕ) (c d : PlainClass) → slice_get x.classes i ≡ Some c → slice_get x.classes j ≡ Some d → c.name ≡ d.name → i ≡ j) × ((i j : ℕ) (m n : PlainMethod) → slice_get x.ops i ≡ Some m → slice_get x.ops j ≡ Some n → m.class.0 ≡ n.class.0 → m.name ≡ n.name → i ≡ j)

    cn : List (List ℕ)
    cn = (classes_of tree.classes).names

    parts : Holds PartsOnce (judge_classes (first_class (classes_of tree.classes)) tree.classes)
    parts = within_holds (ClassesNamed (names_in rows) cn 0) PartsOnce (each (along behind_class judge_named (first_class (classes_of tree.classes)) tree.classes)) (λ cs. fine (parts_of cs))
        (classes_named (names_in rows) cn (first_class (classes_of tree.classes)) tree.classes refl (names_are cn rows [] 0 tree.classes refl refl))
        (λ cs k. (classes_once (names_in rows) cn cs k, λ i j m n. once (names_in rows) 0 0 (parts_of cs).ops i j m n (all_ops (names_in rows) cn 0 cs k)))
