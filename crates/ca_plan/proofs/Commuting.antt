-- Two operations of an extent whose verdict is Commutes do commute, in a program of the checker.
use Rattle.std.proofs.Common.{◌≡◌, Bool, true, false, if◌then◌else◌, List, [], ◌∷◌, Option, Some, None, Result, Ok, Err, IfOk, length, refl, sym, subst, arith}
use Rattle.std.specs.Prelude.{ℕ, zero, suc, slice_get, Contains}
use Rattle.std.proofs.lemmas.List.Elements.{Contains-append_right, Contains-append_cases}
use Rattle.ca_lists.proofs.Members.{has_first, has_nothing, has_only, map_has, place_has}
use Rattle.ca_program.specs.declared.program.OpId.{OpId}
use Rattle.ca_program.specs.Plain.{PlainProgram, PlainMethod, Statement}
use Rattle.ca_meaning.specs.Functions.{body_of}
use Rattle.ca_parallel.specs.Bodies.{calls_of}
use Rattle.ca_parallel.specs.Extents.{IsExtentOf, operation_body}
use Rattle.ca_parallel.specs.Marks.{SoundMarks}
use Rattle.ca_parallel.specs.Scoped.{Scoped}
use Rattle.ca_section.proofs.Members.{pick}
use Rattle.ca_verdicts.specs.Analysed.{Analysed}
use Rattle.ca_plan.specs.Checked.{Checked}
use Rattle.ca_plan.specs.Pairs.{Pair, of_one_class, is_one_class, pairs_with, pairs_in}
use Rattle.ca_plan.specs.Plans.{Judged, JudgedLoop, CommuteIn, CommuteAsTold, PlainPlan, PlanOf, pair_of, op_at, call_loops}
use Rattle.ca_plan.specs.Told.{WhollyTold, PlanTold}
use Rattle.ca_plan.proofs.Sound.{marks_are_sound}
use Rattle.ca_plan.proofs.Made.{found_at}

-- Which pairs an extent has

record PairOf (p : PlainProgram) (xs : List OpId) (q : Pair) : Type 0 where
  first : Contains xs q.a
  second : Contains xs q.b
  class : of_one_class p q.a q.b ≡ true

record PairWith (p : PlainProgram) (a : OpId) (bs : List OpId) (q : Pair) : Type 0 where
  first : q.a ≡ a
  second : Contains bs q.b
  class : of_one_class p a q.b ≡ true

behind : (x y : OpId) (xs : List OpId) → Contains xs y → Contains (x ∷ xs) y
behind x y xs c = Contains-append_right (x ∷ []) xs y c

with_more : (p : PlainProgram) (a b : OpId) (bs : List OpId) (q : Pair) → PairWith p a bs q → PairWith p a (b ∷ bs) q
with_more p a b bs q w = record { first = w.first; second = behind b q.b bs w.second; class = w.class }

pair : OpId → OpId → Pair
pair a b = record { a = a; b = b }

with_this : (p : PlainProgram) (a b : OpId) (bs : List OpId) (q : Pair) → of_one_class p a b ≡ true → pair a b ≡ q → PairWith p a (b ∷ bs) q
unfolding pair
with_this p a b bs q t e = subst (λ z. PairWith p a (b ∷ bs) z) e (record { first = refl; second = has_first b bs; class = t })

by_class : (p : PlainProgram) (a b : OpId) (bs : List OpId) (q : Pair) (t : Bool) → of_one_class p a b ≡ t → Contains (if t then pair a b ∷ pairs_with p a bs else pairs_with p a bs) q
    → (Contains (pairs_with p a bs) q → PairWith p a bs q) → PairWith p a (b ∷ bs) q
by_class p a b bs q false t c more = with_more p a b bs q (more c)
by_class p a b bs q true t c more =
    pick (Contains-append_cases (pair a b ∷ []) (pairs_with p a bs) q c)
    (λ z. with_this p a b bs q t (has_only (pair a b) q z))
    (λ z. with_more p a b bs q (more z))

pair_with : (p : PlainProgram) (a : OpId) (bs : List OpId) (q : Pair) → Contains (pairs_with p a bs) q → PairWith p a bs q
unfolding pair
pair_with p a [] q c = absurd (has_nothing q c)
pair_with p a (b ∷ bs) q c = by_class p a b bs q (of_one_class p a b) refl c (λ z. pair_with p a bs q z)

more_of : (p : PlainProgram) (a : OpId) (xs : List OpId) (q : Pair) → PairOf p xs q → PairOf p (a ∷ xs) q
more_of p a xs q w = record { first = behind a q.a xs w.first; second = behind a q.b xs w.second; class = w.class }

of_first : (p : PlainProgram) (a : OpId) (xs : List OpId) (q : Pair) → PairWith p a (a ∷ xs) q → PairOf p (a ∷ xs) q
of_first p a xs q w = record {
  first = subst (λ z. Contains (a ∷ xs) z) (sym w.first) (has_first a xs);
  second = w.second;
  class = subst (λ z. of_one_class p z q.b ≡ true) (sym w.first) w.class;
}

pair_in : (p : PlainProgram) (xs : List OpId) (q : Pair) → Contains (pairs_in p xs) q → PairOf p xs q
pair_in p [] q c = absurd (has_nothing q c)
pair_in p (a ∷ xs) q c =
    pick (Contains-append_cases (pairs_with p a (a ∷ xs)) (pairs_in p xs) q c)
    (λ z. of_first p a xs q (pair_with p a (a ∷ xs) q z))
    (λ z. more_of p a xs q (pair_in p xs q z))

-- Counters

scoped_at : (p : PlainProgram) → Checked p → (op : OpId) (m : PlainMethod) → slice_get p.ops op.0 ≡ Some m → Scoped (operation_body p op)
scoped_at p c op m e = subst (λ z. Scoped (body_of z)) (sym e) (c.scoped m (place_has p.ops op.0 m e))

both_scoped : (p : PlainProgram) → Checked p → (a b : OpId) (m n : Option PlainMethod) → slice_get p.ops a.0 ≡ m → slice_get p.ops b.0 ≡ n → is_one_class m n ≡ true
    → Scoped (operation_body p a) × Scoped (operation_body p b)
both_scoped p c a b None n e f t = absurd cc
both_scoped p c a b (Some m) None e f t = absurd cc
both_scoped p c a b (Some m) (Some n) e f t = (scoped_at p c a m e, scoped_at p c b n f)

-- Verdicts

commute_in : (p : PlainProgram) → Checked p → (roots : List OpId) (j : Judged) → IsExtentOf p roots j.extent → WhollyTold p j → CommuteIn p j
commute_in p c roots j is told = λ x inside says.
    let of : PairOf p j.extent.ops (pair_of x) = pair_in p j.extent.ops (pair_of x) (subst (λ qs. Contains qs (pair_of x)) told.on (map_has pair_of j.pairs x inside)) in
    let scoped = both_scoped p c x.a x.b (slice_get p.ops x.a.0) (slice_get p.ops x.b.0) refl refl of.class in
    let analysed : Analysed p j.extent x.a x.b = record {
      typed = c.typed;
      numbered = c.numbered;
      roots = roots;
      extent = is;
      first = of.first;
      second = of.second;
      first_scoped = scoped.0;
      second_scoped = scoped.1;
    } in
    (told.each x inside).sound analysed says

past : {A B : Type 0} (xs : List A) (ys : List B) (n : ℕ) (y : B) → length xs ≡ length ys → slice_get xs n ≡ None → slice_get ys n ≡ Some y → ⊥
past [] [] n y e f g = cc
past [] (z ∷ ys) n y e f g = omega (arith, e)
past (x ∷ xs) [] n y e f g = omega (arith, e)
past (x ∷ xs) (z ∷ ys) zero y e f g = cc
past (x ∷ xs) (z ∷ ys) (suc n) y e f g = past xs ys n y (omega (arith, e)) f g

loop_at : (p : PlainProgram) (plan : PlainPlan) → PlanOf p plan → (n : ℕ) (l : JudgedLoop) → slice_get plan.loops n ≡ Some l → (s : Option Statement) → slice_get (call_loops p) n ≡ s → Checked p → WhollyTold p l.judged → CommuteIn p l.judged
loop_at p plan is n l e (Some s) f c told = commute_in p c (calls_of s) l.judged (is.loops n s l f e).judged.extent.holds told
loop_at p plan is n l e None f c told = absurd (past (call_loops p) plan.loops n l (sym is.each_loop) f e)

pub commute_as_told : (p : PlainProgram) (plan : PlainPlan) → Checked p → PlanOf p plan → PlanTold p plan → CommuteAsTold p plan
commute_as_told p plan c is told = record {
  ops = λ j i. let r = found_at plan.ops j i in commute_in p c (op_at r.0 ∷ []) j (is.ops r.0 j r.1).extent.holds (told.ops j i);
  loops = λ l i. let r = found_at plan.loops l i in loop_at p plan is r.0 l r.1 (slice_get (call_loops p) r.0) refl c (told.loops l i);
}

-- of what a plan was made for, or of none

pub commute_of : {E : Type 0} (p : PlainProgram) (r : Result PlainPlan E) → IfOk r (λ plan. PlanOf p plan) → IfOk r (λ plan. PlanTold p plan) → Checked p → IfOk r (λ plan. CommuteAsTold p plan)
commute_of p (Ok plan) is told c = commute_as_told p plan c is told
commute_of p (Err e) is told c = tt

pub sound_of : {E : Type 0} (p : PlainProgram) (r : Result PlainPlan E) → IfOk r (λ plan. PlanOf p plan) → IfOk r (λ plan. PlanTold p plan) → Checked p → IfOk r (λ plan. SoundMarks p plan.marks)
sound_of p (Ok plan) is told c = marks_are_sound p plan (commute_as_told p plan c is told) c.one is
sound_of p (Err e) is told c = tt
