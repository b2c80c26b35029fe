-- Two plans of one program annotate a tree alike.
use Rattle.std.proofs.Common.{◌≡◌, ◌+◌, ℕ, suc, List, [], ◌∷◌, ◌++◌, length, refl, sym, ap, ap₂, ◌∙◌, arith}
use Rattle.ca_tree.specs.Plain.{TextTree}
use Rattle.ca_program.specs.declared.program.LoopId.{LoopId}
use Rattle.ca_program.specs.declared.program.OpId.{OpId}
use Rattle.ca_program.specs.Plain.{PlainProgram, Statement}
use Rattle.ca_parallel.specs.Bodies.{calls_of}
use Rattle.ca_parallel.specs.Extents.{Extent}
use Rattle.ca_parallel.specs.Lists.{PlainMarks, op_in}
use Rattle.ca_parallel.proofs.OneExtent.{one_extent}
use Rattle.ca_canonical.specs.Annotated.{annotated}
use Rattle.ca_canonical.specs.Texts.{text_of_pieces}
use Rattle.ca_plan.specs.Plans.{Judged, JudgedLoop, IsJudgedLoop, PlainPlan, PlanOf, op_at, call_loops}
use Rattle.ca_plan.specs.Texts.{loop_in}
use Rattle.ca_plan.proofs.Made.{site_is}
use Rattle.ca_plan.proofs.OnePlan.{one_marks, Each, each_first, each_rest, EachLoop, from_zero}
use Rattle.ca_emit.specs.Annotations.{all_ops, all_sites, annotated_text, bodies_from, locked_in, locked_ops, marking_by, operations_of, ops_if, parallel_ops, place_in, reached, reached_by_loops, reached_by_ops}

same_ops : (of : Extent → List OpId) (p : PlainProgram) (marked : List OpId) (n : ℕ) (xs ys : List Judged) → length xs ≡ length ys → Each p n xs → Each p n ys → reached_by_ops of marked n xs ≡ reached_by_ops of marked n ys
same_ops of p marked n [] [] e a b = refl
same_ops of p marked n [] (y ∷ ys) e a b = absurd (omega (arith, e))
same_ops of p marked n (x ∷ xs) [] e a b = absurd (omega (arith, e))
same_ops of p marked n (x ∷ xs) (y ∷ ys) e a b =
    ap₂ (λ (z : Extent) rest. ops_if (op_in marked (op_at n)) (of z) ++ rest) (one_extent p (op_at n ∷ []) x.extent y.extent (each_first p n x xs a).extent (each_first p n y ys b).extent)
    (same_ops of p marked (n + 1) xs ys (omega (arith, e)) (each_rest p n x xs a) (each_rest p n y ys b))

same_loop : (of : Extent → List OpId) (p : PlainProgram) (marked : List LoopId) (s : Statement) (x y : JudgedLoop) → IsJudgedLoop p s x → IsJudgedLoop p s y → ops_if (loop_in marked x.site) (of x.judged.extent) ≡ ops_if (loop_in marked y.site) (of y.judged.extent)
same_loop of p marked s x y a b =
    let number : x.site.0 ≡ y.site.0 = site_is s x.site y.site a.site b.site in
    let site : x.site ≡ y.site = λ i. record { 0 = number i } in
    ap₂ (λ (l : LoopId) (z : Extent). ops_if (loop_in marked l) (of z)) site (one_extent p (calls_of s) x.judged.extent y.judged.extent a.judged.extent b.judged.extent)

same_loops : (of : Extent → List OpId) (p : PlainProgram) (marked : List LoopId) (ss : List Statement) (xs ys : List JudgedLoop) → length xs ≡ length ss → length ys ≡ length ss → EachLoop p ss xs → EachLoop p ss ys → reached_by_loops of marked xs ≡ reached_by_loops of marked ys
same_loops of p marked ss [] [] e f a b = refl
same_loops of p marked ss [] (y ∷ ys) e f a b = absurd (omega (arith, e, f))
same_loops of p marked ss (x ∷ xs) [] e f a b = absurd (omega (arith, e, f))
same_loops of p marked [] (x ∷ xs) (y ∷ ys) e f a b = absurd (omega (arith, e))
same_loops of p marked (s ∷ ss) (x ∷ xs) (y ∷ ys) e f a b =
    ap₂ (λ u v. u ++ v) (same_loop of p marked s x y (a 0 s x refl refl) (b 0 s y refl refl))
    (same_loops of p marked ss xs ys (omega (arith, e)) (omega (arith, f)) (λ n t l g h. a (suc n) t l g h) (λ n t l g h. b (suc n) t l g h))

same_reached : (of : Extent → List OpId) (p : PlainProgram) (x y : PlainPlan) → PlanOf p x → PlanOf p y → reached of x ≡ reached of y
same_reached of p x y a b =
    ap (λ (m : PlainMarks). reached_by_ops of m.ops 0 x.ops ++ reached_by_loops of m.loops x.loops) (one_marks p x y a b)
    ∙ ap₂ (λ u v. u ++ v) (same_ops of p y.marks.ops 0 x.ops y.ops (a.as_many ∙ sym b.as_many) (from_zero p x.ops a.ops) (from_zero p y.ops b.ops))
    (same_loops of p y.marks.loops (call_loops p) x.loops y.loops a.each_loop b.each_loop a.loops b.loops)

-- the text, by what of a plan it tells
abbrev text_by : PlainProgram → TextTree → PlainMarks → List OpId → List OpId → List ℕ
text_by p t ms locked parallel =
    text_of_pieces (annotated (marking_by (place_in (bodies_from locked 0 (operations_of t.classes))) (place_in (bodies_from parallel 0 (operations_of t.classes))) (place_in (all_sites p ms parallel t))) t)

pub one_annotated_text : (p : PlainProgram) (t : TextTree) (x y : PlainPlan) → PlanOf p x → PlanOf p y → annotated_text p x t ≡ annotated_text p y t
one_annotated_text p t x y a b =
    ap (λ (ms : PlainMarks). text_by p t ms (locked_ops p x) (parallel_ops x)) (one_marks p x y a b)
    ∙ ap₂ (text_by p t y.marks) (same_reached (locked_in p) p x y a b) (same_reached all_ops p x y a b)
