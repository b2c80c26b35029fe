-- Two plans of one program tell the same, but for which of the demands that differ is named: they have the same extents,
-- lines and marks.
use Rattle.std.proofs.Common.{◌≡◌, ◌+◌, ℕ, zero, suc, List, [], ◌∷◌, ◌++◌, Some, length, map, refl, sym, ap, ap₂, ◌∙◌, subst, arith, codes}
use Rattle.std.specs.Prelude.{true, slice_get, Contains, flat_map, decimal}
use Rattle.std.proofs.lemmas.List.Elements.{Contains-append_cases, Contains-append_right}
use Rattle.ca_lists.proofs.Members.{has_first, has_nothing, has_only}
use Rattle.ca_program.specs.declared.program.FieldId.{FieldId}
use Rattle.ca_program.specs.declared.program.LoopId.{LoopId}
use Rattle.ca_program.specs.declared.program.OpId.{OpId}
use Rattle.ca_program.specs.Plain.{PlainProgram, Statement}
use Rattle.ca_parallel.specs.Bodies.{calls_of}
use Rattle.ca_parallel.specs.Extents.{Extent}
use Rattle.ca_parallel.specs.Lists.{PlainMarks}
use Rattle.ca_parallel.specs.Separable.{Separable, IsSeparated}
use Rattle.ca_parallel.specs.ExtentsOf.{OpBefore}
use Rattle.ca_parallel.proofs.OneExtent.{Orders, ops_order, one_extent, one_list}
use Rattle.ca_section.proofs.Members.{pick}
use Rattle.ca_verdicts.specs.Laws.{SameVerdict, OneVerdict}
use Rattle.ca_verdicts.specs.declared.verdicts.Verdict.{Verdict}
use Rattle.ca_verdicts.specs.declared.verdicts.Verdict.TheVariants.{Commutes, Unproved}
use Rattle.ca_verdicts.specs.declared.verdicts.Reason.TheVariants.{NotSeparable, LoopForm, Large, FieldDiffers, DemandsDiffer}
use Rattle.ca_verdicts.specs.Verdicts.{VerdictOf}
use Rattle.ca_verdicts.proofs.Unique.{same_verdict}
use Rattle.ca_plan.specs.Pairs.{Pair, pairs_in}
use Rattle.ca_plan.specs.Plans.{PairVerdict, Judged, JudgedLoop, IsJudged, IsJudgedLoop, AnyOrder, IsMarked, IsMarkedLoop, PlainPlan, PlanOf, pair_of, op_at, call_loops, LoopBefore}
use Rattle.ca_plan.specs.Texts.{verdict_text, names_text, pair_text, head_text, extents_text, loop_text, pairs_text, modes_text, loop_mode_text, op_mode_text, plan_text}
use Rattle.ca_plan.proofs.Made.{site_is}

-- Verdicts

same_text : (p : PlainProgram) (v w : Verdict) → SameVerdict v w → verdict_text p v ≡ verdict_text p w
same_text p Commutes w s = ap (verdict_text p) s
same_text p (Unproved (NotSeparable op line why)) w s = ap (verdict_text p) s
same_text p (Unproved (LoopForm line)) w s = ap (verdict_text p) s
same_text p (Unproved Large) w s = ap (verdict_text p) s
same_text p (Unproved (FieldDiffers f x y)) w s = ap (verdict_text p) s
same_text p (Unproved (DemandsDiffer k ps x y)) Commutes s = ap (verdict_text p) s
same_text p (Unproved (DemandsDiffer k ps x y)) (Unproved (NotSeparable op line why)) s = ap (verdict_text p) s
same_text p (Unproved (DemandsDiffer k ps x y)) (Unproved (LoopForm line)) s = ap (verdict_text p) s
same_text p (Unproved (DemandsDiffer k ps x y)) (Unproved Large) s = ap (verdict_text p) s
same_text p (Unproved (DemandsDiffer k ps x y)) (Unproved (FieldDiffers f u z)) s = ap (verdict_text p) s
same_text p (Unproved (DemandsDiffer k ps x y)) (Unproved (DemandsDiffer l qs u z)) s = refl

same_commutes : (v w : Verdict) → SameVerdict v w → v ≡ Commutes → w ≡ Commutes
same_commutes v w s e = let t : Commutes ≡ w = subst (λ z. SameVerdict z w) e s in sym t

-- Pairs

abbrev AreVerdicts : PlainProgram → List FieldId → List PairVerdict → Type 0
AreVerdicts p written xs = (v : PairVerdict) → Contains xs v → VerdictOf p written v.a v.b v.verdict

rest : {A : Type 0} {P : A → Type 0} (x : A) (xs : List A) → ((v : A) → Contains (x ∷ xs) v → P v) → (v : A) → Contains xs v → P v
rest x xs each v c = each v (Contains-append_right (x ∷ []) xs v c)

module _ (one : OneVerdict) (p : PlainProgram) (written : List FieldId) where
  -- two verdicts on one pair
  both : (x y : PairVerdict) → pair_of x ≡ pair_of y → VerdictOf p written x.a x.b x.verdict → VerdictOf p written y.a y.b y.verdict → SameVerdict x.verdict y.verdict
  both x y e s t = one p written x.a x.b x.verdict y.verdict s (subst (λ (q : Pair). VerdictOf p written q.a q.b y.verdict) (sym e) t)

  same_line : (x y : PairVerdict) → pair_of x ≡ pair_of y → SameVerdict x.verdict y.verdict → pair_text p x ≡ pair_text p y
  same_line x y e s =
      ap₂ (λ a b. a ++ (b ++ codes "\n")) (ap (λ (q : Pair). names_text p q.a q.b) e) (same_text p x.verdict y.verdict s)

  lines : (xs ys : List PairVerdict) → map pair_of xs ≡ map pair_of ys → AreVerdicts p written xs → AreVerdicts p written ys → flat_map (pair_text p) xs ≡ flat_map (pair_text p) ys
  lines [] [] e s t = refl
  lines [] (y ∷ ys) e s t = absurd cc
  lines (x ∷ xs) [] e s t = absurd cc
  lines (x ∷ xs) (y ∷ ys) e s t =
      let first : pair_of x ≡ pair_of y = cc in
      let more : map pair_of xs ≡ map pair_of ys = cc in
      ap₂ (λ a b. a ++ b) (same_line x y first (both x y first (s x (has_first x xs)) (t y (has_first y ys)))) (lines xs ys more (rest x xs s) (rest y ys t))

  commute_too : (xs ys : List PairVerdict) → map pair_of xs ≡ map pair_of ys → AreVerdicts p written xs → AreVerdicts p written ys → ((v : PairVerdict) → Contains xs v → v.verdict ≡ Commutes) → (v : PairVerdict) → Contains ys v → v.verdict ≡ Commutes
  commute_too xs [] e s t all v c = absurd (has_nothing v c)
  commute_too [] (y ∷ ys) e s t all v c = absurd cc
  commute_too (x ∷ xs) (y ∷ ys) e s t all v c =
      let first : pair_of x ≡ pair_of y = cc in
      let more : map pair_of xs ≡ map pair_of ys = cc in
      pick (Contains-append_cases (y ∷ []) ys v c)
      (λ z. subst (λ (w : PairVerdict). w.verdict ≡ Commutes) (has_only y v z) (same_commutes x.verdict y.verdict (both x y first (s x (has_first x xs)) (t y (has_first y ys))) (all x (has_first x xs))))
      (λ z. commute_too xs ys more (rest x xs s) (rest y ys t) (rest x xs all) v z)

-- Extents

pub record SameJudged (p : PlainProgram) (x y : Judged) : Type 0 where
  pub extent : x.extent ≡ y.extent
  pub lines : flat_map (pair_text p) x.pairs ≡ flat_map (pair_text p) y.pairs
  pub order : AnyOrder p x → AnyOrder p y

same_judged : OneVerdict → (p : PlainProgram) (roots : List OpId) (x y : Judged) → IsJudged p roots x → IsJudged p roots y → SameJudged p x y
same_judged one p roots x y a b =
    let extents : x.extent ≡ y.extent = one_extent p roots x.extent y.extent a.extent b.extent in
    let pairs : map pair_of x.pairs ≡ map pair_of y.pairs = a.pairs ∙ (ap (λ (z : Extent). pairs_in p z.ops) extents ∙ sym b.pairs) in
    let verdicts : AreVerdicts p x.extent.written y.pairs = λ v c. subst (λ (z : Extent). VerdictOf p z.written v.a v.b v.verdict) (sym extents) (b.verdicts v c) in
    record {
      extent = extents;
      lines = lines one p x.extent.written x.pairs y.pairs pairs a.verdicts verdicts;
      order = λ any. record {
        separable = λ op c. subst (λ (z : Extent). Separable p z.written op) extents (any.separable op (subst (λ (z : Extent). Contains z.ops op) (sym extents) c));
        commute = commute_too one p x.extent.written x.pairs y.pairs pairs a.verdicts verdicts any.commute;
      };
    }

-- what is said of operations from number n on
abbrev pub Each : PlainProgram → ℕ → List Judged → Type 0
Each p n js = (k : ℕ) (j : Judged) → slice_get js k ≡ Some j → IsJudged p (op_at (n + k) ∷ []) j

pub each_rest : (p : PlainProgram) (n : ℕ) (x : Judged) (xs : List Judged) → Each p n (x ∷ xs) → Each p (n + 1) xs
each_rest p n x xs each k j e =
    let m : n + suc k ≡ (n + 1) + k = omega arith in
    subst (λ z. IsJudged p (op_at z ∷ []) j) m (each (suc k) j e)

pub each_first : (p : PlainProgram) (n : ℕ) (x : Judged) (xs : List Judged) → Each p n (x ∷ xs) → IsJudged p (op_at n ∷ []) x
each_first p n x xs each = let m : n + 0 ≡ n = omega arith in subst (λ z. IsJudged p (op_at z ∷ []) x) m (each 0 x refl)

same_extents : OneVerdict → (p : PlainProgram) (n : ℕ) (xs ys : List Judged) → length xs ≡ length ys → Each p n xs → Each p n ys → extents_text p n xs ≡ extents_text p n ys
same_extents one p n [] [] e a b = refl
same_extents one p n [] (y ∷ ys) e a b = absurd (omega (arith, e))
same_extents one p n (x ∷ xs) [] e a b = absurd (omega (arith, e))
same_extents one p n (x ∷ xs) (y ∷ ys) e a b =
    ap₂ (λ s t. (head_text p n ++ s) ++ t) (same_judged one p (op_at n ∷ []) x y (each_first p n x xs a) (each_first p n y ys b)).lines
    (same_extents one p (n + 1) xs ys (omega (arith, e)) (each_rest p n x xs a) (each_rest p n y ys b))

-- Loops

abbrev pub EachLoop : PlainProgram → List Statement → List JudgedLoop → Type 0
EachLoop p ss ls = (n : ℕ) (s : Statement) (l : JudgedLoop) → slice_get ss n ≡ Some s → slice_get ls n ≡ Some l → IsJudgedLoop p s l

pub record SameLoop (p : PlainProgram) (x y : JudgedLoop) : Type 0 where
  pub site : x.site ≡ y.site
  pub line : x.line ≡ y.line
  pub judged : SameJudged p x.judged y.judged

same_loop : OneVerdict → (p : PlainProgram) (s : Statement) (x y : JudgedLoop) → IsJudgedLoop p s x → IsJudgedLoop p s y → SameLoop p x y
same_loop one p s x y a b = record {
  site = let e = site_is s x.site y.site a.site b.site in λ i. record { 0 = e i };
  line = a.line ∙ sym b.line;
  judged = same_judged one p (calls_of s) x.judged y.judged a.judged b.judged;
}

loops_rest : (p : PlainProgram) (s : Statement) (ss : List Statement) (x : JudgedLoop) (xs : List JudgedLoop) → EachLoop p (s ∷ ss) (x ∷ xs) → EachLoop p ss xs
loops_rest p s ss x xs each n t l e f = each (suc n) t l e f

loop_line : (p : PlainProgram) (x y : JudgedLoop) → SameLoop p x y → loop_text p x ≡ loop_text p y
loop_line p x y s = ap₂ (λ n t. (codes "loop " ++ (decimal n ++ (codes "\n" ++ []))) ++ t) s.line s.judged.lines

same_loops : OneVerdict → (p : PlainProgram) (ss : List Statement) (xs ys : List JudgedLoop) → length xs ≡ length ss → length ys ≡ length ss → EachLoop p ss xs → EachLoop p ss ys → flat_map (loop_text p) xs ≡ flat_map (loop_text p) ys
same_loops one p ss [] [] e f a b = refl
same_loops one p ss [] (y ∷ ys) e f a b = absurd (omega (arith, e, f))
same_loops one p ss (x ∷ xs) [] e f a b = absurd (omega (arith, e, f))
same_loops one p [] (x ∷ xs) (y ∷ ys) e f a b = absurd (omega (arith, e))
same_loops one p (s ∷ ss) (x ∷ xs) (y ∷ ys) e f a b =
    ap₂ (λ u v. u ++ v) (loop_line p x y (same_loop one p s x y (a 0 s x refl refl) (b 0 s y refl refl)))
    (same_loops one p ss xs ys (omega (arith, e)) (omega (arith, f)) (loops_rest p s ss x xs a) (loops_rest p s ss y ys b))

pub from_zero : (p : PlainProgram) (js : List Judged) → ((k : ℕ) (j : Judged) → slice_get js k ≡ Some j → IsJudged p (op_at k ∷ []) j) → Each p 0 js
from_zero p js each k j e = let m : k ≡ 0 + k = omega arith in subst (λ z. IsJudged p (op_at z ∷ []) j) m (each k j e)

pairs_by : OneVerdict → (p : PlainProgram) (x y : PlainPlan) → PlanOf p x → PlanOf p y → pairs_text p x ≡ pairs_text p y
pairs_by one p x y a b =
    ap₂ (λ s t. s ++ t) (same_extents one p 0 x.ops y.ops (a.as_many ∙ sym b.as_many) (from_zero p x.ops a.ops) (from_zero p y.ops b.ops))
    (same_loops one p (call_loops p) x.loops y.loops a.each_loop b.each_loop a.loops b.loops)

-- Marks

at_both : {A B : Type 0} (xs : List A) (ys : List B) (n : ℕ) (x : A) → length xs ≡ length ys → slice_get xs n ≡ Some x → (y : B) × (slice_get ys n ≡ Some y)
at_both [] ys n x e f = absurd cc
at_both (z ∷ xs) [] n x e f = absurd (omega (arith, e))
at_both (z ∷ xs) (y ∷ ys) zero x e f = (y, refl)
at_both (z ∷ xs) (y ∷ ys) (suc n) x e f = at_both xs ys n x (omega (arith, e)) f

mark_too : OneVerdict → (p : PlainProgram) (x y : PlainPlan) → PlanOf p x → PlanOf p y → (op : OpId) → IsMarked p x.ops op → IsMarked p y.ops op
mark_too one p x y a b op m =
    let (j, at) = at_both x.ops y.ops op.0 m.judged (a.as_many ∙ sym b.as_many) m.found in
    let same = same_judged one p (op_at op.0 ∷ []) m.judged j (a.ops op.0 m.judged m.found) (b.ops op.0 j at) in
    record { judged = j; found = at; calls = m.calls; order = same.order m.order }

loop_too : OneVerdict → (p : PlainProgram) (x y : PlainPlan) → PlanOf p x → PlanOf p y → (site : LoopId) → IsMarkedLoop p x.loops site → IsMarkedLoop p y.loops site
loop_too one p x y a b site m =
    let (l, at) = at_both x.loops y.loops m.place m.judged (a.each_loop ∙ sym b.each_loop) m.found in
    let same = same_loop one p m.loop m.judged l (a.loops m.place m.loop m.judged m.stands m.found) (b.loops m.place m.loop l m.stands at) in
    record {
      place = m.place;
      loop = m.loop;
      judged = l;
      stands = m.stands;
      found = at;
      numbered = m.numbered;
      order = same.judged.order m.order;
      constant = subst (λ (z : Extent). IsSeparated p z.written true m.loop) same.judged.extent m.constant;
    }

loops_order : Orders LoopBefore
loops_order = record { never = λ a less. omega (arith, less); through = λ a b c x y. omega (arith, x, y) }

marks_by : OneVerdict → (p : PlainProgram) (x y : PlainPlan) → PlanOf p x → PlanOf p y → x.marks ≡ y.marks
marks_by one p x y a b =
    let ops : x.marks.ops ≡ y.marks.ops = one_list OpBefore ops_order x.marks.ops y.marks.ops a.marks.ops_rise b.marks.ops_rise
    (λ op. (λ c. (b.marks.ops op).1 (mark_too one p x y a b op ((a.marks.ops op).0 c)), λ c. (a.marks.ops op).1 (mark_too one p y x b a op ((b.marks.ops op).0 c)))) in
    let loops : x.marks.loops ≡ y.marks.loops = one_list LoopBefore loops_order x.marks.loops y.marks.loops a.marks.loops_rise b.marks.loops_rise
    (λ site. (λ c. (b.marks.loops site).1 (loop_too one p x y a b site ((a.marks.loops site).0 c)), λ c. (a.marks.loops site).1 (loop_too one p y x b a site ((b.marks.loops site).0 c)))) in
    λ i. record { ops = ops i; loops = loops i }

-- Modes

same_modes : (p : PlainProgram) (marked : List OpId) (n : ℕ) (xs ys : List Judged) → length xs ≡ length ys → modes_text p marked n xs ≡ modes_text p marked n ys
same_modes p marked n [] [] e = refl
same_modes p marked n [] (y ∷ ys) e = absurd (omega (arith, e))
same_modes p marked n (x ∷ xs) [] e = absurd (omega (arith, e))
same_modes p marked n (x ∷ xs) (y ∷ ys) e = ap (λ t. op_mode_text p marked n ++ t) (same_modes p marked (n + 1) xs ys (omega (arith, e)))

same_loop_modes : OneVerdict → (p : PlainProgram) (marked : List LoopId) (ss : List Statement) (xs ys : List JudgedLoop) → length xs ≡ length ss → length ys ≡ length ss → EachLoop p ss xs → EachLoop p ss ys → flat_map (loop_mode_text marked) xs ≡ flat_map (loop_mode_text marked) ys
same_loop_modes one p marked ss [] [] e f a b = refl
same_loop_modes one p marked ss [] (y ∷ ys) e f a b = absurd (omega (arith, e, f))
same_loop_modes one p marked ss (x ∷ xs) [] e f a b = absurd (omega (arith, e, f))
same_loop_modes one p marked [] (x ∷ xs) (y ∷ ys) e f a b = absurd (omega (arith, e))
same_loop_modes one p marked (s ∷ ss) (x ∷ xs) (y ∷ ys) e f a b =
    let same = same_loop one p s x y (a 0 s x refl refl) (b 0 s y refl refl) in
    ap₂ (λ u v. u ++ v) (mode_line marked x y same.site same.line)
    (same_loop_modes one p marked ss xs ys (omega (arith, e)) (omega (arith, f)) (loops_rest p s ss x xs a) (loops_rest p s ss y ys b))
  where
    mode_line : (marked : List LoopId) (x y : JudgedLoop) → x.site ≡ y.site → x.line ≡ y.line → loop_mode_text marked x ≡ loop_mode_text marked y
    mode_line marked x y e f = ap₂ (λ s n. loop_mode_text marked (record { site = s; line = n; judged = x.judged })) e f

plan_by : OneVerdict → (p : PlainProgram) (x y : PlainPlan) → PlanOf p x → PlanOf p y → plan_text p x ≡ plan_text p y
plan_by one p x y a b =
    let marks : x.marks ≡ y.marks = marks_by one p x y a b in
    ap (λ (m : PlainMarks). modes_text p m.ops 0 x.ops ++ flat_map (loop_mode_text m.loops) x.loops) marks
    ∙ ap₂ (λ s t. s ++ t) (same_modes p y.marks.ops 0 x.ops y.ops (a.as_many ∙ sym b.as_many)) (same_loop_modes one p y.marks.loops (call_loops p) x.loops y.loops a.each_loop b.each_loop a.loops b.loops)

-- Verdicts are one, but for which demand is named

one : OneVerdict
one = same_verdict

pub one_pairs_text : (p : PlainProgram) (x y : PlainPlan) → PlanOf p x → PlanOf p y → pairs_text p x ≡ pairs_text p y
one_pairs_text = pairs_by one

pub one_plan_text : (p : PlainProgram) (x y : PlainPlan) → PlanOf p x → PlanOf p y → plan_text p x ≡ plan_text p y
one_plan_text = plan_by one

pub one_marks : (p : PlainProgram) (x y : PlainPlan) → PlanOf p x → PlanOf p y → x.marks ≡ y.marks
one_marks = marks_by one
