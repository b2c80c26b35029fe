-- No mark of a call or a loop that runs in parallel is lost.
use Rattle.std.proofs.Common.{inl, inr, ◌⊎◌, ◌≡◌, ℕ, zero, suc, ◌+◌, Bool, true, false, ◌||◌, List, [], ◌∷◌, ◌++◌, map, length, Option, Some, None, Result, Ok, Err, IfOk, refl, sym, ap, ap₂, subst, ◌∙◌, arith}
use Rattle.std.specs.Prelude.{slice_get, nat_eq}
use Rattle.std.proofs.lemmas.Bool.{eqb-true, or_right, false_from_ne_true}
use Rattle.std.proofs.lemmas.List.{length-map, length-append}
use Rattle.ca_tree.specs.declared.name.Place.{Place}
use Rattle.ca_tree.specs.Plain as tree
use Rattle.ca_tree.specs.Plain.{MethodTree, TextTree}
use Rattle.ca_program.specs.declared.program.OpId.{OpId}
use Rattle.ca_program.specs.Plain as program
use Rattle.ca_program.specs.Plain.{PlainMethod, PlainProgram}
use Rattle.ca_meaning.specs.Functions.{body_of}
use Rattle.ca_parallel.specs.Extents.{operation_body}
use Rattle.ca_parallel.specs.Lists.{PlainMarks, op_in}
use Rattle.ca_lock_laws.specs.Resolves.{AllBodies, ProgramResolves}
use Rattle.ca_lock_laws.specs.Sites.{lines_of, lines_of_all, SameSites}
use Rattle.ca_lock_laws.proofs.Paired.{sites_paired}
use Rattle.ca_canonical.specs.declared.marks.Mark.TheVariants.{Parallel}
use Rattle.ca_plan.specs.Plans.{PlainPlan, PlanOf, op_at}
use Rattle.ca_plan.specs.Texts.{loop_in}
use Rattle.ca_emit.specs.Annotations.{annotated_text, before_statement, bodies_from, is_among, locked_bodies, locked_ops, marking_by, marking_of, marks_if, number_in, operations_of, parallel_bodies, parallel_ops, parallel_sites, picked, place_if, place_in, place_number, run_parallel, runs_parallel, sites_from, sites_in, sites_of_all, sites_of_method}
use Rattle.ca_emit.specs.Locks.{IsLedTo, Marks, MarksEach, MarkedText, NamesApart}
use Rattle.ca_emit.proofs.Led.{beside, locked_led, parallel_led}
use Rattle.ca_emit.proofs.Locked.{behind, in_front}

-- ---- as many flags as lines

mutual
  flags : (ms : PlainMarks) (inside : Bool) (x : program.Statement) → length (runs_parallel ms inside x) ≡ length (lines_of x)
  flags ms inside (program.block line ss) = all_flags ms inside ss
  flags ms inside (program.invoke line e op arguments) = refl
  flags ms inside (program.if_else line c a b) =
      length-append (runs_parallel ms inside a) (runs_parallel ms inside b) ∙ (ap (λ n. n + length (runs_parallel ms inside b)) (flags ms inside a)
      ∙ (ap (λ n. length (lines_of a) + n) (flags ms inside b) ∙ sym (length-append (lines_of a) (lines_of b))))
  flags ms inside (program.while_loop line c b) = flags ms inside b
  flags ms inside (program.for_loop line site part first c next b) = ap suc (flags ms (inside || loop_in ms.loops site) b)
  flags ms inside (program.put_local line l op e) = refl
  flags ms inside (program.put_field line f op e) = refl
  flags ms inside (program.put_item line f i op e) = refl
  flags ms inside (program.new_local line l c) = refl
  flags ms inside (program.new_field line f c) = refl
  flags ms inside (program.new_item line f i c) = refl
  flags ms inside (program.return_value line e) = refl
  flags ms inside (program.print_value line e) = refl

  all_flags : (ms : PlainMarks) (inside : Bool) (xs : program.Statements) → length (run_parallel ms inside xs) ≡ length (lines_of_all xs)
  all_flags ms inside program.no_statements = refl
  all_flags ms inside (program.statement_and x xs) =
      length-append (runs_parallel ms inside x) (run_parallel ms inside xs) ∙ (ap (λ n. n + length (run_parallel ms inside xs)) (flags ms inside x)
      ∙ (ap (λ n. length (lines_of x) + n) (all_flags ms inside xs) ∙ sym (length-append (lines_of x) (lines_of_all xs))))

as_many : (ms : PlainMarks) (ss : tree.Statements) (xs : program.Statements) → SameSites ss xs → length (sites_of_all ss) ≡ length (run_parallel ms false xs)
as_many ms ss xs h = sym (length-map (sites_of_all ss) (λ (at : Place). at.line)) ∙ (ap length h ∙ sym (all_flags ms false xs))

-- ---- what is picked

abbrev Has : List Place → Place → Type 0
Has ats at = number_in (map place_number ats) (place_number at) ≡ true

is_picked : (ats : List Place) (bs : List Bool) (n : ℕ) (at : Place) → slice_get ats n ≡ Some at → slice_get bs n ≡ Some true → Has (picked ats bs) at
is_picked [] bs n at h g = absurd cc
is_picked (a ∷ ats) [] n at h g = absurd cc
is_picked (a ∷ ats) (b ∷ bs) zero at h g =
    let same : a ≡ at = cc in
    let flag : b ≡ true = cc in
    subst (λ (z : Place). Has (picked (a ∷ ats) (b ∷ bs)) z) same (in_front b a (picked ats bs) flag)
is_picked (a ∷ ats) (b ∷ bs) (suc n) at h g = behind b a (picked ats bs) (place_number at) (is_picked ats bs n at h g)

or_more : (b u v : Bool) → (u ≡ true → v ≡ true) → (b || u) ≡ true → (b || v) ≡ true
or_more true u v f h = refl
or_more false u v f h = f h

has_left : (xs ys : List Place) (at : Place) → Has xs at → Has (xs ++ ys) at
has_left [] ys at h = absurd cc
has_left (x ∷ xs) ys at h =
    or_more (nat_eq (place_number x) (place_number at)) (number_in (map place_number xs) (place_number at)) (number_in (map place_number (xs ++ ys)) (place_number at)) (λ g. has_left xs ys at g) h

has_right : (xs ys : List Place) (at : Place) → Has ys at → Has (xs ++ ys) at
has_right [] ys at h = h
has_right (x ∷ xs) ys at h = or_right (nat_eq (place_number x) (place_number at)) (number_in (map place_number (xs ++ ys)) (place_number at)) (has_right xs ys at h)

-- ---- what is marked

-- the body takes no lock and isn't parallel
abbrev IsPlain : (Place → Bool) → (Place → Bool) → Option Place → Type 0
IsPlain locked parallel body = (is_among locked body ≡ false) × (is_among parallel body ≡ false)

marks_at : (locked parallel sites : Place → Bool) (body : Option Place) (at : Place) → IsPlain locked parallel body → sites at ≡ true → Marks (marking_by locked parallel sites) body at
marks_at locked parallel sites body at none here = record {
  call = λ front e. ap₂ (λ a b. before_statement a b sites front (tree.call_statement at e)) none.0 none.1 ∙ ap (λ b. marks_if b Parallel) here;
  loop = λ front first c next s. ap₂ (λ a b. before_statement a b sites front (tree.for_loop at first c next s)) none.0 none.1 ∙ ap (λ b. marks_if b Parallel) here;
}

-- the nth flag of a body tells of its nth place
module _ (ms : PlainMarks) (locked parallel sites : Place → Bool) where
  marks_each : (body : Option Place) (ss : tree.Statements) (xs : program.Statements) → SameSites ss xs → IsPlain locked parallel body
      → ((at : Place) → Has (picked (sites_of_all ss) (run_parallel ms false xs)) at → sites at ≡ true) → MarksEach ms (marking_by locked parallel sites) body ss xs
  marks_each body ss xs same none all n h =
      let a = beside (sites_of_all ss) (run_parallel ms false xs) n true (as_many ms ss xs same) h in
      (a.0, a.1, marks_at locked parallel sites body a.0 none (all a.0 (is_picked (sites_of_all ss) (run_parallel ms false xs) n a.0 a.1 h)))

same_body : (ms : List MethodTree) (xs : List PlainMethod) (n : ℕ) (x : MethodTree) → AllBodies SameSites ms xs → slice_get ms n ≡ Some x → SameSites x.body (body_of (slice_get xs n))
same_body [] xs n x h e = absurd cc
same_body (m ∷ ms) [] n x h e = absurd h
same_body (m ∷ ms) (y ∷ xs) zero x h e = let same : m ≡ x = cc in subst (λ (z : MethodTree). SameSites z.body y.body.statements) same h.0
same_body (m ∷ ms) (y ∷ xs) (suc n) x h e = same_body ms xs n x h.1 e

module _ (p : PlainProgram) (ms : PlainMarks) (parallel : List OpId) where
  in_body : (b : Bool) (ss : tree.Statements) (xs : program.Statements) (at : Place) → b ≡ false → Has (picked (sites_of_all ss) (run_parallel ms false xs)) at → Has (sites_in ms b ss xs) at
  in_body true ss xs at e h = absurd cc
  in_body false ss xs at e h = h

  from_body : (n k : ℕ) (methods : List MethodTree) (x : MethodTree) (at : Place) → slice_get methods k ≡ Some x → op_in parallel (op_at (n + k)) ≡ false
      → Has (picked (sites_of_all x.body) (run_parallel ms false (operation_body p (op_at (n + k))))) at → Has (sites_from p ms parallel n methods) at
  from_body n k [] x at e none h = absurd cc
  from_body n zero (m ∷ rest) x at e none h =
      let same : x ≡ m = cc in
      let at_n : n + 0 ≡ n = omega arith in
      let none_at : op_in parallel (op_at n) ≡ false = subst (λ z. op_in parallel (op_at z) ≡ false) at_n none in
      let mine : Has (picked (sites_of_all x.body) (run_parallel ms false (operation_body p (op_at n)))) at = subst (λ z. Has (picked (sites_of_all x.body) (run_parallel ms false (operation_body p (op_at z)))) at) at_n h in
      let here : Has (picked (sites_of_all m.body) (run_parallel ms false (operation_body p (op_at n)))) at = subst (λ (y : MethodTree). Has (picked (sites_of_all y.body) (run_parallel ms false (operation_body p (op_at n)))) at) same mine in
      has_left (sites_of_method p ms parallel n m) (sites_from p ms parallel (n + 1) rest) at (in_body (op_in parallel (op_at n)) m.body (operation_body p (op_at n)) at none_at here)
  from_body n (suc k) (m ∷ rest) x at e none h =
      let further : n + suc k ≡ (n + 1) + k = omega arith in
      has_right (sites_of_method p ms parallel n m) (sites_from p ms parallel (n + 1) rest) at
      (from_body (n + 1) k rest x at e (subst (λ z. op_in parallel (op_at z) ≡ false) further none) (subst (λ z. Has (picked (sites_of_all x.body) (run_parallel ms false (operation_body p (op_at z)))) at) further h))

-- ---- which bodies are named

-- a name at this place is that of one of these operations
record Named (ops : List OpId) (n : ℕ) (ms : List MethodTree) (number : ℕ) : Type 0 where
  place : ℕ
  tree : MethodTree
  found : slice_get ms place ≡ Some tree
  among : op_in ops (op_at (n + place)) ≡ true
  same : place_number tree.at ≡ number

named_if : (b : Bool) (at : Place) (rest : List Place) (number : ℕ) → number_in (map place_number (place_if b at ++ rest)) number ≡ true
    → ((b ≡ true) × (place_number at ≡ number)) ⊎ (number_in (map place_number rest) number ≡ true)
named_if false at rest number h = inr h
named_if true at rest number h = from (nat_eq (place_number at) number) refl h
  where
    from : (b : Bool) → nat_eq (place_number at) number ≡ b → b || number_in (map place_number rest) number ≡ true
        → ((true ≡ true) × (place_number at ≡ number)) ⊎ (number_in (map place_number rest) number ≡ true)
    from true d e = inl (refl, eqb-true (place_number at) number d)
    from false d e = inr e

named_by : (ops : List OpId) (n : ℕ) (ms : List MethodTree) (number : ℕ) → number_in (map place_number (bodies_from ops n ms)) number ≡ true → Named ops n ms number
named_by ops n [] number h = absurd cc
named_by ops n (m ∷ ms) number h = from (named_if (op_in ops (op_at n)) m.at (bodies_from ops (n + 1) ms) number h) (λ d. named_by ops (n + 1) ms number d)
  where
    at_n : n ≡ n + 0
    at_n = omega arith

    further : (k : ℕ) → (n + 1) + k ≡ n + suc k
    further k = omega arith

    from : ((op_in ops (op_at n) ≡ true) × (place_number m.at ≡ number)) ⊎ (number_in (map place_number (bodies_from ops (n + 1) ms)) number ≡ true)
        → (number_in (map place_number (bodies_from ops (n + 1) ms)) number ≡ true → Named ops (n + 1) ms number) → Named ops n (m ∷ ms) number
    from (inl here) more = record { place = 0; tree = m; found = refl; among = subst (λ z. op_in ops (op_at z) ≡ true) at_n here.0; same = here.1 }
    from (inr behind) more = let r = more behind in
        record { place = suc r.place; tree = r.tree; found = r.found; among = subst (λ z. op_in ops (op_at z) ≡ true) (further r.place) r.among; same = r.same }

-- the name of an operation that isn't among these isn't among theirs
not_named : (t : TextTree) → NamesApart t → (ops : List OpId) (n : ℕ) (x : MethodTree) → slice_get (operations_of t.classes) n ≡ Some x
    → (op_in ops (op_at n) ≡ true → ⊥) → place_in (bodies_from ops 0 (operations_of t.classes)) x.at ≡ false
not_named t apart ops n x found none = false_from_ne_true (place_in (bodies_from ops 0 (operations_of t.classes)) x.at) (λ h.
    let r = named_by ops 0 (operations_of t.classes) (place_number x.at) h in
    let mine : 0 + r.place ≡ n = (let z : 0 + r.place ≡ r.place = omega arith in z) ∙ apart r.place n r.tree x r.found found r.same in
    none (subst (λ z. op_in ops (op_at z) ≡ true) mine r.among))

module _ (p : PlainProgram) (plan : PlainPlan) (t : TextTree) (resolves : ProgramResolves t p) (is : PlanOf p plan) (apart : NamesApart t) where
  main_marked : MarksEach plan.marks (marking_of p plan t) None t.main p.main.statements
  main_marked =
      let ops = parallel_ops plan in
      marks_each plan.marks (place_in (locked_bodies p plan t)) (place_in (parallel_bodies plan t)) (place_in (parallel_sites p plan t)) None t.main p.main.statements (sites_paired t p resolves).main (refl, refl)
      (λ at h. has_right (sites_from p plan.marks ops 0 (operations_of t.classes)) (sites_in plan.marks false t.main p.main.statements) at h)

  operation_marked : (n : ℕ) (x : MethodTree) → slice_get (operations_of t.classes) n ≡ Some x → (IsLedTo p plan.marks (op_at n) → ⊥) → MarksEach plan.marks (marking_of p plan t) (Some x.at) x.body (operation_body p (op_at n))
  operation_marked n x found free =
      let ops = parallel_ops plan in
      let no_lock = not_named t apart (locked_ops p plan) n x found (λ h. free (locked_led p plan is (op_at n) h)) in
      let not_parallel = not_named t apart ops n x found (λ h. free (parallel_led p plan is (op_at n) h)) in
      let at_zero : n ≡ 0 + n = omega arith in
      let none : op_in ops (op_at (0 + n)) ≡ false = subst (λ z. op_in ops (op_at z) ≡ false) at_zero (false_from_ne_true (op_in ops (op_at n)) (λ h. free (parallel_led p plan is (op_at n) h))) in
      let same = same_body (operations_of t.classes) p.ops n x (sites_paired t p resolves).operations found in
      marks_each plan.marks (place_in (locked_bodies p plan t)) (place_in (parallel_bodies plan t)) (place_in (parallel_sites p plan t)) (Some x.at) x.body (operation_body p (op_at n)) same (no_lock, not_parallel)
      (λ at h. has_left (sites_from p plan.marks ops 0 (operations_of t.classes)) (sites_in plan.marks false t.main p.main.statements) at
      (from_body p plan.marks ops 0 n (operations_of t.classes) x at found none (subst (λ z. Has (picked (sites_of_all x.body) (run_parallel plan.marks false (operation_body p (op_at z)))) at) at_zero h)))

  pub marked_text : {V E : Type 0} (items : V → List ℕ) (r : Result V E) → IfOk r (λ v. items v ≡ annotated_text p plan t) → IfOk r (λ v. MarkedText p plan t (items v))
  marked_text items (Ok v) h = record { marking = marking_of p plan t; is = h; main = main_marked; operations = operation_marked }
  marked_text items (Err x) h = tt
