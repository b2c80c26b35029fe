-- The loops of calls of a body, found one after another.
use Rattle.std.proofs.Common.{◌≡◌, ℕ, Bool, true, false, if◌then◌else◌, List, [], ◌∷◌, ◌++◌, map, refl, sym, ap, ◌∙◌, subst, Result}
use Rattle.std.specs.Prelude.{flat_map, IfOk}
use Rattle.std.specs.Result.{result_and}
use Rattle.ca_program.specs.declared.program.LoopId.{LoopId}
use Rattle.ca_program.specs.declared.program.FirstPart.{FirstPart}
use Rattle.ca_program.specs.declared.program.Method.{Method}
use Rattle.ca_program.specs.Plain.{Expression, Statement, Statements, for_loop, statement_and}
use Rattle.ca_program.specs.View.{method_view, statements_view}
use Rattle.ca_parallel.specs.Bodies.{fors_in, fors_in_all}
use Rattle.ca_parallel.specs.Marks.{loops_of_method}
use Rattle.ca_extent.proofs.Walks.{both_found}
use Rattle.ca_symbolic.specs.OtherLoops.{is_call_loop}
use Rattle.ca_plan.specs.Plans.{call_loops_of}

by_form : (t : Bool) (x : Statement) (ys zs : List Statement) → (if t then x ∷ (ys ++ zs) else (ys ++ zs)) ≡ (if t then x ∷ ys else ys) ++ zs
by_form true x ys zs = refl
by_form false x ys zs = refl

pub call_loops_of_both : (xs ys : List Statement) → call_loops_of (xs ++ ys) ≡ call_loops_of xs ++ call_loops_of ys
call_loops_of_both [] ys = refl
call_loops_of_both (x ∷ xs) ys =
    ap (λ z. if is_call_loop x then x ∷ z else z) (call_loops_of_both xs ys) ∙ by_form (is_call_loop x) x (call_loops_of xs) (call_loops_of ys)

-- the loops of a statement and of those behind it
pub of_more : (s : Statement) (ss : Statements) → call_loops_of (fors_in_all (statement_and s ss)) ≡ call_loops_of (fors_in s) ++ call_loops_of (fors_in_all ss)
of_more s ss = call_loops_of_both (fors_in s) (fors_in_all ss)

-- what two walks find, one behind the other
pub of_two : {T U E : Type 0} (xs ys : List Statement) (r : Result T E) (s t : Result U E) (old mid new : List Statement)
    → IfOk r (λ _. mid ≡ old ++ call_loops_of xs) → IfOk s (λ _. new ≡ mid ++ call_loops_of ys) → t ≡ result_and r s → IfOk t (λ _. new ≡ old ++ call_loops_of (xs ++ ys))
of_two xs ys r s t old mid new p q is =
    subst (λ z. IfOk t (λ _. new ≡ old ++ z)) (sym (call_loops_of_both xs ys)) (both_found r s t old mid new (call_loops_of xs) (call_loops_of ys) p q is)

-- a `for`, and the loops in its parts
pub of_for : {T E : Type 0} (x : Statement) (line : ℕ) (site : LoopId) (part : FirstPart) (first : Statement) (c : Expression) (next body : Statement) → x ≡ for_loop line site part first c next body
    → (r : Result T E) (old new : List Statement) → IfOk r (λ _. new ≡ old ++ call_loops_of (x ∷ (fors_in first ++ (fors_in next ++ fors_in body)))) → IfOk r (λ _. new ≡ old ++ call_loops_of (fors_in x))
of_for x line site part first c next body is r old new h =
    let same : x ∷ (fors_in first ++ (fors_in next ++ fors_in body)) ≡ fors_in x = ap (λ z. z ∷ (fors_in first ++ (fors_in next ++ fors_in body))) is ∙ ap fors_in (sym is) in
    subst (λ z. IfOk r (λ _. new ≡ old ++ call_loops_of z)) same h

-- the operations of a program, one after another
abbrev pub loops_of_methods : List Method → List Statement
loops_of_methods ms = call_loops_of (flat_map loops_of_method (map method_view ms))

pub of_method : (m : Method) (ms : List Method) → loops_of_methods (m ∷ ms) ≡ call_loops_of (fors_in_all (statements_view m.body.stmts.items)) ++ loops_of_methods ms
of_method m ms = call_loops_of_both (fors_in_all (statements_view m.body.stmts.items)) (flat_map loops_of_method (map method_view ms))
