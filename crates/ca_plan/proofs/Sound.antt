-- The marks of a plan are sound where its verdicts are right: the calls and the loops that it marks may run in any order.
use Rattle.std.proofs.Common.{◌≡◌, ◌⊎◌, inl, inr, Bool, true, false, List, [], ◌∷◌, ◌++◌, refl, sym, ap, subst, ◌∙◌, if◌then◌else◌, Option, Some, None, slice_get}
use Rattle.std.specs.Prelude.{ℕ, zero, suc, Contains}
use Rattle.std.proofs.lemmas.Bool.{eq-eqb}
use Rattle.std.proofs.lemmas.List.Elements.{Contains-append_left, Contains-append_right, Contains-append_cases}
use Rattle.ca_lists.proofs.Members.{has_first, has_nothing, has_only, place_has}
use Rattle.ca_program.specs.declared.program.ClassId.{ClassId}
use Rattle.ca_program.specs.declared.program.FieldId.{FieldId}
use Rattle.ca_program.specs.declared.program.OpId.{OpId}
use Rattle.ca_program.specs.Plain.{PlainProgram, PlainMethod, Statement}
use Rattle.ca_meaning.specs.Commuting.{Commutes as Commute, SameOutcome}
use Rattle.ca_meaning.specs.Sections.{Outcome}
use Rattle.ca_meaning.specs.WellTyped.{IsMethodOf}
use Rattle.ca_parallel.specs.Extents.Invokes.{root}
use Rattle.ca_parallel.specs.Bodies.{calls_of}
use Rattle.ca_parallel.specs.Marks.{loops_of_program, SoundLoop, SoundMarks}
use Rattle.ca_parallel.specs.Parallel.{Parallel, ParallelFrom}
use Rattle.ca_symbolic.specs.OtherLoops.{is_call_loop}
use Rattle.ca_symbolic.proofs.CallLoops.{call_loops_are_told}
use Rattle.ca_section.proofs.Members.{pick}
use Rattle.ca_extent.proofs.Members.{from_map}
use Rattle.ca_plan.specs.Pairs.{Pair, is_one_class, of_one_class, pairs_with, pairs_in}
use Rattle.ca_plan.specs.Checked.{OneLoopEach}
use Rattle.ca_plan.specs.Plans.{Judged, IsJudged, AnyOrder, CommuteIn, CommuteAsTold, pair_of, PlainPlan, PlanOf, call_loops_of}

-- Commuting has no first and second

back : (m n : Outcome) → SameOutcome m n → SameOutcome n m
back m n s = record { object = sym s.object; listed = record { weighed = λ f. sym (s.listed.weighed f) }; steps = sym s.steps }

turned : (p : PlainProgram) (written : List FieldId) (a b : OpId) → Commute p written a b → Commute p written b a
turned p written a b q =
    λ c i j h t r xs ys u w o is as_frozen.
    let k = q c j i h t r ys xs w u o is as_frozen in
    record { complete = (k.complete.1, k.complete.0); same = λ m n d e. back n m (k.same n m e d) }

-- The pairs of an extent

abbrev pair : OpId → OpId → Pair
pair a b = record { a = a; b = b }

behind_if : (t : Bool) (y z : Pair) (ys : List Pair) → Contains ys y → Contains (if t then z ∷ ys else ys) y
behind_if true y z ys c = Contains-append_right (z ∷ []) ys y c
behind_if false y z ys c = c

in_front : (t : Bool) (y : Pair) (ys : List Pair) → t ≡ true → Contains (if t then y ∷ ys else ys) y
in_front t y ys e = subst (λ b. Contains (if b then y ∷ ys else ys) y) (sym e) (has_first y ys)

with_found : (p : PlainProgram) (a b : OpId) (bs : List OpId) → of_one_class p a b ≡ true → Contains bs b → Contains (pairs_with p a bs) (pair a b)
with_found p a b [] e c = absurd (has_nothing b c)
with_found p a b (x ∷ xs) e c =
    pick (Contains-append_cases (x ∷ []) xs b c)
    (λ z. subst (λ o. Contains (pairs_with p a (o ∷ xs)) (pair a b)) (sym (has_only x b z)) (in_front (of_one_class p a b) (pair a b) (pairs_with p a xs) e))
    (λ z. behind_if (of_one_class p a x) (pair a b) (pair a x) (pairs_with p a xs) (with_found p a b xs e z))

pub found : (p : PlainProgram) (xs : List OpId) (a b : OpId) → Contains xs a → Contains xs b → of_one_class p a b ≡ true → of_one_class p b a ≡ true → Contains (pairs_in p xs) (pair a b) ⊎ Contains (pairs_in p xs) (pair b a)
found p [] a b c d e f = absurd (has_nothing a c)
found p (x ∷ xs) a b c d e f =
    pick (Contains-append_cases (x ∷ []) xs a c)
    (λ z. inl (subst (λ o. Contains (pairs_with p o (x ∷ xs) ++ pairs_in p xs) (pair a b)) (sym (has_only x a z)) (Contains-append_left (pairs_with p a (x ∷ xs)) (pairs_in p xs) (pair a b) (with_found p a b (x ∷ xs) e d))))
    (λ y. pick (Contains-append_cases (x ∷ []) xs b d)
    (λ z. inr (subst (λ o. Contains (pairs_with p o (x ∷ xs) ++ pairs_in p xs) (pair b a)) (sym (has_only x b z)) (Contains-append_left (pairs_with p b (x ∷ xs)) (pairs_in p xs) (pair b a) (with_found p b a (x ∷ xs) f c))))
    (λ z. pick (found p xs a b y z e f)
    (λ w. inl (Contains-append_right (pairs_with p x (x ∷ xs)) (pairs_in p xs) (pair a b) w))
    (λ w. inr (Contains-append_right (pairs_with p x (x ∷ xs)) (pairs_in p xs) (pair b a) w))))

one_class : (c : ClassId) (m n : Option PlainMethod) → IsMethodOf m c → IsMethodOf n c → is_one_class m n ≡ true
one_class c None n i j = absurd i
one_class c (Some m) None i j = absurd j
one_class c (Some m) (Some n) i j = eq-eqb m.class.0 n.class.0 (ap (λ k. k.0) i ∙ sym (ap (λ k. k.0) j))

-- Extents

listed_commute : (p : PlainProgram) (roots : List OpId) (j : Judged) → CommuteIn p j → IsJudged p roots j → AnyOrder p j → (a b : OpId) → Contains (pairs_in p j.extent.ops) (pair a b) → Commute p j.extent.written a b
listed_commute p roots j right is any a b listed =
    let (x, inside, same) = from_map pair_of j.pairs (pair a b) (subst (λ xs. Contains xs (pair a b)) (sym is.pairs) listed) in
    let told : Commute p j.extent.written x.a x.b = right x inside (any.commute x inside) in
    subst (λ q. Commute p j.extent.written q.a q.b) same told

parallel_of : (p : PlainProgram) (roots : List OpId) (j : Judged) → CommuteIn p j → IsJudged p roots j → AnyOrder p j → Parallel p j.extent
parallel_of p roots j right is any = record {
  separable = any.separable;
  commute = λ a b c d cl k l.
      pick (found p j.extent.ops a b c d (one_class cl (slice_get p.ops a.0) (slice_get p.ops b.0) k l) (one_class cl (slice_get p.ops b.0) (slice_get p.ops a.0) l k))
      (λ z. listed_commute p roots j right is any a b z cl k l)
      (λ z. turned p j.extent.written b a (listed_commute p roots j right is any b a z) cl k l);
}

parallel_from : (p : PlainProgram) (roots : List OpId) (j : Judged) → CommuteIn p j → IsJudged p roots j → AnyOrder p j → ParallelFrom p roots
parallel_from p roots j right is any = record {
  roots = roots;
  extent = j.extent;
  is = is.extent.holds;
  holds = λ op c. (is.extent.holds.ops op).1 (root c);
  parallel = parallel_of p roots j right is any;
}

-- Marks

Among : List Statement → Statement → Type 0
Among xs loop = Contains xs loop × (is_call_loop loop ≡ true)

more : (x : Statement) (xs : List Statement) (loop : Statement) → Among xs loop → Among (x ∷ xs) loop
unfolding Among
more x xs loop (c, f) = (Contains-append_right (x ∷ []) xs loop c, f)

first : (x : Statement) (xs ys : List Statement) (loop : Statement) (k : ℕ) → is_call_loop x ≡ true → slice_get (x ∷ ys) k ≡ Some loop → ((m : ℕ) → slice_get ys m ≡ Some loop → Among xs loop) → Among (x ∷ xs) loop
unfolding Among
first x xs ys loop zero f i later = let s : x ≡ loop = cc in (subst (λ y. Contains (x ∷ xs) y) s (has_first x xs), subst (λ y. is_call_loop y ≡ true) s f)
first x xs ys loop (suc k) f i later = more x xs loop (later k i)

by_form : (x : Statement) (xs ys : List Statement) (loop : Statement) (n : ℕ) (t : Bool) → is_call_loop x ≡ t → slice_get (if t then x ∷ ys else ys) n ≡ Some loop → ((m : ℕ) → slice_get ys m ≡ Some loop → Among xs loop) → Among (x ∷ xs) loop
by_form x xs ys loop n true f i later = first x xs ys loop n f i later
by_form x xs ys loop n false f i later = more x xs loop (later n i)

-- a call loop of some loops is one of them, and of the form
stands_among : (xs : List Statement) (n : ℕ) (loop : Statement) → slice_get (call_loops_of xs) n ≡ Some loop → Among xs loop
stands_among [] n loop e = absurd cc
stands_among (x ∷ xs) n loop e = by_form x xs (call_loops_of xs) loop n (is_call_loop x) refl e (λ m i. stands_among xs m loop i)

-- so it is of the form
pub of_form : (xs : List Statement) (n : ℕ) (loop : Statement) → slice_get (call_loops_of xs) n ≡ Some loop → is_call_loop loop ≡ true
unfolding Among
of_form xs n loop e = (stands_among xs n loop e).1

pub marks_are_sound : (p : PlainProgram) (plan : PlainPlan) → CommuteAsTold p plan → OneLoopEach p → PlanOf p plan → SoundMarks p plan.marks
unfolding Among parallel_from
marks_are_sound p plan right one is = record {
  operations = λ op c.
      let m = (is.marks.ops op).0 c in
      parallel_from p (op ∷ []) m.judged (right.ops m.judged (place_has plan.ops op.0 m.judged m.found)) (is.ops op.0 m.judged m.found) m.order;
  sites = λ id c loop stands numbered.
      let m = (is.marks.loops id).0 c in
      let (among, form) = stands_among (loops_of_program p) m.place m.loop m.stands in
      let same : m.loop ≡ loop = one id m.loop loop among stands m.numbered numbered in
      let judged = is.loops m.place m.loop m.judged m.stands m.found in
      subst (λ x. SoundLoop p x) same (record {
        form = (call_loops_are_told m.loop).0 form;
        calls = parallel_from p (calls_of m.loop) m.judged.judged (right.loops m.judged (place_has plan.loops m.place m.judged m.found)) judged.judged m.order;
        constant = m.constant;
      });
}
