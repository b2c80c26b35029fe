-- The marks in the body of a parallel operation are those with which it keeps the lock discipline.
use Rattle.std.proofs.Common.{◌≡◌, ℕ, zero, suc, ◌+◌, Bool, true, false, List, [], ◌∷◌, ◌++◌, map, Option, Some, Result, Ok, Err, IfOk, refl, sym, ap, ap₂, subst, ◌∙◌, if◌then◌else◌, true≢false, arith}
use Rattle.std.specs.Prelude.{Contains, nat_eq, slice_get}
use Rattle.std.proofs.lemmas.Bool.{eq-eqb, or_left, or_right, false_from_ne_true}
use Rattle.std.proofs.lemmas.List.Elements.{Contains-append_left, Contains-append_right}
use Rattle.ca_tree.specs.declared.name.Place.{Place}
use Rattle.ca_tree.specs.Plain.{Expression, Statement as Node, call_statement, MethodTree, TextTree}
use Rattle.ca_program.specs.declared.program.FieldId.{FieldId}
use Rattle.ca_program.specs.declared.program.LoopId.{LoopId}
use Rattle.ca_program.specs.declared.program.OpId.{OpId}
use Rattle.ca_program.specs.Plain.{PlainProgram, Statement}
use Rattle.ca_parallel.specs.Bodies.{calls_of}
use Rattle.ca_parallel.specs.Extents.{Extent, IsExtentOf, operation_body}
use Rattle.ca_parallel.specs.Free.{IsFree}
use Rattle.ca_parallel.specs.Lists.{op_in}
use Rattle.ca_parallel.specs.Marks.{loops_of_program, HasSite, SoundMarks}
use Rattle.ca_section.specs.TakesLock.{takes_lock}
use Rattle.ca_section.proofs.Locking.{free}
use Rattle.ca_symbolic.specs.OtherLoops.{is_call_loop}
use Rattle.ca_lock_laws.specs.Events.{Event, locks, unlocks}
use Rattle.ca_lock_laws.specs.Paths.{Guards, Through}
use Rattle.ca_lock_laws.specs.Guarded.{Begins, a_call, a_loop, KeepsLock, follows as follows_by, before_calls, before_in, locked_guards, free_guards}
use Rattle.ca_lock_laws.proofs.Kept.{parallel_keeps, free_parallel_keeps}
use Rattle.ca_canonical.specs.declared.marks.Mark.TheVariants.{Lock, Unlock}
use Rattle.ca_plan.specs.Checked.{Checked}
use Rattle.ca_plan.specs.Plans.{Judged, JudgedLoop, PlainPlan, PlanOf, op_at, call_loops_of}
use Rattle.ca_plan.specs.Texts.{loop_in}
use Rattle.ca_plan.proofs.Made.{site_is}
use Rattle.ca_emit.specs.Annotations.{all_ops, annotated_text, before_call, before_statement, bodies_from, call_marks, locked_bodies, locked_in, locked_of, locked_ops, marking_by, marking_of, marks_if, number_in, operations_of, ops_if, parallel_bodies, parallel_ops, parallel_sites, place_if, place_in, place_number, reached, reached_by_loops, reached_by_ops}
use Rattle.ca_emit.specs.Locks.{events_of, guards_of, KeepsLocks, KeptText}
use Rattle.ca_emit.specs.Receivers.{follows, same_receiver}

-- ---- marks and guards

events_if : (b locked : Bool) → events_of (if b then [] else call_marks locked) ≡ (if b then [] else before_calls locked)
events_if true locked = refl
events_if false true = refl
events_if false false = refl

same_follows : (front : Option Node) (at : Place) (e : Expression) → follows front e ≡ follows_by same_receiver front (call_statement at e)
same_follows (Some (call_statement place other)) at e = refl
same_follows front at e = refl

same_before : (locked : Bool) (front : Option Node) (s : Node) → events_of (before_call locked front s) ≡ before_in locked same_receiver front s
same_before locked front (call_statement at e) = events_if (follows front e) locked ∙ ap (λ b. if b then [] else before_calls locked) (same_follows front at e)
same_before locked front other = refl

abbrev guards_with : List Event → (Option Node → Node → List Event) → List Event → Guards
guards_with first f last = record { opening = first; before = f; closing = last }

-- where the body takes a lock, and where it is parallel
abbrev guards_by : (Place → Bool) → Bool → Bool → Guards
guards_by sites l b = record { opening = events_of (marks_if l Lock); before = λ front s. events_of (before_statement l b sites front s); closing = events_of (marks_if l Unlock) }

locked_are : (bodies parallel sites : Place → Bool) (at : Place) → bodies at ≡ true → guards_of (marking_by bodies parallel sites) at ≡ locked_guards same_receiver
locked_are bodies parallel sites at e =
    let marked : guards_by sites (bodies at) (parallel at) ≡ guards_by sites true (parallel at) = ap (λ l. guards_by sites l (parallel at)) e in
    let same : guards_by sites true (parallel at) ≡ locked_guards same_receiver = λ i. guards_with (locks ∷ []) (λ front s. same_before true front s i) (unlocks ∷ []) in
    marked ∙ same

free_are : (bodies parallel sites : Place → Bool) (at : Place) → bodies at ≡ false → parallel at ≡ true → guards_of (marking_by bodies parallel sites) at ≡ free_guards same_receiver
free_are bodies parallel sites at e d =
    let marked : guards_by sites (bodies at) (parallel at) ≡ guards_by sites false true = ap₂ (guards_by sites) e d in
    let same : guards_by sites false true ≡ free_guards same_receiver = λ i. guards_with [] (λ front s. same_before false front s i) [] in
    marked ∙ same

-- ---- places of bodies

pub in_front : (b : Bool) (at : Place) (rest : List Place) → b ≡ true → number_in (map place_number (place_if b at ++ rest)) (place_number at) ≡ true
in_front true at rest e = or_left (nat_eq (place_number at) (place_number at)) (number_in (map place_number rest) (place_number at)) (eq-eqb (place_number at) (place_number at) refl)
in_front false at rest e = absurd cc

pub behind : (b : Bool) (at : Place) (rest : List Place) (n : ℕ) → number_in (map place_number rest) n ≡ true → number_in (map place_number (place_if b at ++ rest)) n ≡ true
behind true at rest n h = or_right (nat_eq (place_number at) n) (number_in (map place_number rest) n) h
behind false at rest n h = h

pub body_there : (parallel : List OpId) (n k : ℕ) (ms : List MethodTree) (x : MethodTree) → slice_get ms k ≡ Some x → op_in parallel (op_at (n + k)) ≡ true → number_in (map place_number (bodies_from parallel n ms)) (place_number x.at) ≡ true
body_there parallel n k [] x e h = absurd cc
body_there parallel n zero (m ∷ ms) x e h =
    let same : m ≡ x = cc in
    let at_n : n + 0 ≡ n = omega arith in
    let marked = subst (λ z. op_in parallel (op_at z) ≡ true) at_n h in
    subst (λ (y : MethodTree). number_in (map place_number (bodies_from parallel n (m ∷ ms))) (place_number y.at) ≡ true) same
    (in_front (op_in parallel (op_at n)) m.at (bodies_from parallel (n + 1) ms) marked)
body_there parallel n (suc k) (m ∷ ms) x e h =
    let further : n + suc k ≡ (n + 1) + k = omega arith in
    behind (op_in parallel (op_at n)) m.at (bodies_from parallel (n + 1) ms) (place_number x.at)
    (body_there parallel (n + 1) k ms x e (subst (λ z. op_in parallel (op_at z) ≡ true) further h))

-- ---- what marked calls and loops reach

op_among : (xs : List OpId) (op : OpId) → Contains xs op → op_in xs op ≡ true
op_among [] op (k, below, is) = absurd (omega (arith, below))
op_among (x ∷ xs) op (zero, below, is) = or_left (nat_eq x.0 op.0) (op_in xs op) (eq-eqb x.0 op.0 (ap (λ (z : OpId). z.0) is))
op_among (x ∷ xs) op (suc k, below, is) = or_right (nat_eq x.0 op.0) (op_in xs op) (op_among xs op (k, omega (arith, below), is))

loop_among : (xs : List LoopId) (site : LoopId) (n : ℕ) → site.0 ≡ n → Contains xs (record { 0 = n }) → loop_in xs site ≡ true
loop_among [] site n e (k, below, is) = absurd (omega (arith, below))
loop_among (x ∷ xs) site n e (zero, below, is) = or_left (nat_eq x.0 site.0) (loop_in xs site) (eq-eqb x.0 site.0 (ap (λ (z : LoopId). z.0) is ∙ sym e))
loop_among (x ∷ xs) site n e (suc k, below, is) = or_right (nat_eq x.0 site.0) (loop_in xs site) (loop_among xs site n e (k, omega (arith, below), is))

in_if : (b : Bool) (ops : List OpId) (op : OpId) → b ≡ true → Contains ops op → Contains (ops_if b ops) op
in_if true ops op e c = c
in_if false ops op e c = absurd cc

by_ops : (of : Extent → List OpId) (marked : List OpId) (n k : ℕ) (js : List Judged) (j : Judged) (op : OpId) → slice_get js k ≡ Some j → op_in marked (op_at (n + k)) ≡ true → Contains (of j.extent) op → Contains (reached_by_ops of marked n js) op
by_ops of marked n k [] j op e h c = absurd cc
by_ops of marked n zero (x ∷ xs) j op e h c =
    let same : j ≡ x = cc in
    let at_n : n + 0 ≡ n = omega arith in
    let here = in_if (op_in marked (op_at n)) (of x.extent) op (subst (λ z. op_in marked (op_at z) ≡ true) at_n h) (subst (λ (y : Judged). Contains (of y.extent) op) same c) in
    Contains-append_left (ops_if (op_in marked (op_at n)) (of x.extent)) (reached_by_ops of marked (n + 1) xs) op here
by_ops of marked n (suc k) (x ∷ xs) j op e h c =
    let further : n + suc k ≡ (n + 1) + k = omega arith in
    Contains-append_right (ops_if (op_in marked (op_at n)) (of x.extent)) (reached_by_ops of marked (n + 1) xs) op
    (by_ops of marked (n + 1) k xs j op e (subst (λ z. op_in marked (op_at z) ≡ true) further h) c)

by_loops : (of : Extent → List OpId) (marked : List LoopId) (k : ℕ) (ls : List JudgedLoop) (l : JudgedLoop) (op : OpId) → slice_get ls k ≡ Some l → loop_in marked l.site ≡ true → Contains (of l.judged.extent) op → Contains (reached_by_loops of marked ls) op
by_loops of marked k [] l op e h c = absurd cc
by_loops of marked zero (x ∷ xs) l op e h c =
    let same : l ≡ x = cc in
    let here = in_if (loop_in marked x.site) (of x.judged.extent) op (subst (λ (y : JudgedLoop). loop_in marked y.site ≡ true) same h) (subst (λ (y : JudgedLoop). Contains (of y.judged.extent) op) same c) in
    Contains-append_left (ops_if (loop_in marked x.site) (of x.judged.extent)) (reached_by_loops of marked xs) op here
by_loops of marked (suc k) (x ∷ xs) l op e h c =
    Contains-append_right (ops_if (loop_in marked x.site) (of x.judged.extent)) (reached_by_loops of marked xs) op (by_loops of marked k xs l op e h c)

if_there : (b : Bool) (x y : Statement) (xs ys : List Statement) (n : ℕ) → slice_get (if b then x ∷ ys else ys) n ≡ Some y → ((m : ℕ) → slice_get ys m ≡ Some y → Contains xs y) → Contains (x ∷ xs) y
if_there true x y xs ys zero e later = let same : x ≡ y = cc in (0, omega arith, same)
if_there true x y xs ys (suc n) e later = Contains-append_right (x ∷ []) xs y (later n e)
if_there false x y xs ys n e later = Contains-append_right (x ∷ []) xs y (later n e)

pub loop_there : (xs : List Statement) (n : ℕ) (y : Statement) → slice_get (call_loops_of xs) n ≡ Some y → Contains xs y
loop_there [] n y e = absurd cc
loop_there (x ∷ xs) n y e = if_there (is_call_loop x) x y xs (call_loops_of xs) n e (λ m h. loop_there xs m y h)

-- ---- what takes a lock

lock_among : (p : PlainProgram) (written : List FieldId) (ops : List OpId) (op : OpId) → Contains ops op → takes_lock written (operation_body p op) ≡ true → Contains (locked_of p written ops) op
lock_among p written [] op (k, below, is) e = absurd (omega (arith, below))
lock_among p written (x ∷ xs) op (zero, below, is) e =
    let here : takes_lock written (operation_body p x) ≡ true = subst (λ (y : OpId). takes_lock written (operation_body p y) ≡ true) (sym is) e in
    Contains-append_left (ops_if (takes_lock written (operation_body p x)) (x ∷ [])) (locked_of p written xs) op
    (in_if (takes_lock written (operation_body p x)) (x ∷ []) op here (zero, omega arith, is))
lock_among p written (x ∷ xs) op (suc k, below, is) e =
    Contains-append_right (ops_if (takes_lock written (operation_body p x)) (x ∷ [])) (locked_of p written xs) op (lock_among p written xs op (k, omega (arith, below), is) e)

-- extents of the same operations write the same fields
free_in : (p : PlainProgram) (roots : List OpId) (x y : Extent) (op : OpId) → IsExtentOf p roots x → IsExtentOf p roots y → IsFree p x.written op → IsFree p y.written op
free_in p roots x y op a b f = record { untouched = λ g c w. f.untouched g c ((a.written g).1 ((b.written g).0 w)) }

module _ (p : PlainProgram) (plan : PlainPlan) (is : PlanOf p plan) (checked : Checked p) where
  -- the plan's own extent of these operations, whose operations it reaches
  record PlanExtent (roots : List OpId) : Type 0 where
    extent : Extent
    holds : IsExtentOf p roots extent
    reaches : (of : Extent → List OpId) (op : OpId) → Contains (of extent) op → Contains (reached of plan) op

  by_call : (r : OpId) → Contains plan.marks.ops r → PlanExtent (r ∷ [])
  by_call r c =
      let m = (is.marks.ops r).0 c in
      let at_zero : r.0 ≡ 0 + r.0 = omega arith in
      let marked = subst (λ z. op_in plan.marks.ops (op_at z) ≡ true) at_zero (op_among plan.marks.ops r c) in
      record {
        extent = m.judged.extent;
        holds = (is.ops r.0 m.judged m.found).extent.holds;
        reaches = λ of op h. Contains-append_left (reached_by_ops of plan.marks.ops 0 plan.ops) (reached_by_loops of plan.marks.loops plan.loops) op
            (by_ops of plan.marks.ops 0 r.0 plan.ops m.judged op m.found marked h);
      }

  by_loop : (id : LoopId) (loop : Statement) → Contains plan.marks.loops id → Contains (loops_of_program p) loop → HasSite loop id → PlanExtent (calls_of loop)
  by_loop id loop c stands numbered =
      let m = (is.marks.loops id).0 c in
      let among = loop_there (loops_of_program p) m.place m.loop m.stands in
      let same : loop ≡ m.loop = checked.one id loop m.loop stands among numbered m.numbered in
      let judged = is.loops m.place m.loop m.judged m.stands m.found in
      let marked = loop_among plan.marks.loops m.judged.site id.0 (site_is m.loop m.judged.site id judged.site m.numbered) c in
      record {
        extent = m.judged.judged.extent;
        holds = subst (λ y. IsExtentOf p (calls_of y) m.judged.judged.extent) (sym same) judged.judged.extent.holds;
        reaches = λ of op h. Contains-append_right (reached_by_ops of plan.marks.ops 0 plan.ops) (reached_by_loops of plan.marks.loops plan.loops) op
            (by_loops of plan.marks.loops m.place plan.loops m.judged op m.found marked h);
      }

  reached_from : {roots : List OpId} → Begins p plan.marks roots → PlanExtent roots
  reached_from (a_call {op = r} c) = by_call r c
  reached_from (a_loop {id} {loop} c stands numbered) = by_loop id loop c stands numbered

  -- an operation of an extent of these is among the operations of the plan's
  among_ops : {roots : List OpId} (r : PlanExtent roots) (x : Extent) → IsExtentOf p roots x → (op : OpId) → Contains x.ops op → Contains r.extent.ops op
  among_ops r x e op there = (r.holds.ops op).1 ((e.ops op).0 there)

  -- one that isn't among those that take a lock is free
  is_free : (op : OpId) → (Contains (locked_ops p plan) op → ⊥) → (roots : List OpId) → Begins p plan.marks roots → (x : Extent) → IsExtentOf p roots x → Contains x.ops op → IsFree p x.written op
  is_free op none roots b x e there =
      let r = reached_from b in
      let without : takes_lock r.extent.written (operation_body p op) ≡ false =
      false_from_ne_true (takes_lock r.extent.written (operation_body p op)) (λ h. none (r.reaches (locked_in p) op (lock_among p r.extent.written r.extent.ops op (among_ops r x e op there) h))) in
      free_in p roots r.extent x op r.holds e (free p op r.extent.written without).1

  module _ (sound : SoundMarks p plan.marks) (t : TextTree) (n : ℕ) (x : MethodTree) (found : slice_get (operations_of t.classes) n ≡ Some x) where
    -- where the operation is among these, its name is among theirs
    named : (ops : List OpId) → Contains ops (op_at n) → place_in (bodies_from ops 0 (operations_of t.classes)) x.at ≡ true
    named ops c =
        let at_zero : n ≡ 0 + n = omega arith in
        body_there ops 0 n (operations_of t.classes) x found (subst (λ z. op_in ops (op_at z) ≡ true) at_zero (op_among ops (op_at n) c))

    is_parallel : {roots : List OpId} → Begins p plan.marks roots → (y : Extent) → IsExtentOf p roots y → Contains y.ops (op_at n) → place_in (parallel_bodies plan t) x.at ≡ true
    is_parallel b y e there = let r = reached_from b in named (parallel_ops plan) (r.reaches all_ops (op_at n) (among_ops r y e (op_at n) there))

    by_body : (b : Bool) → place_in (locked_bodies p plan t) x.at ≡ b → KeepsLock p plan.marks (op_at n) (guards_of (marking_of p plan t) x.at) x.body
    by_body true e =
        let guards = locked_are (place_in (locked_bodies p plan t)) (place_in (parallel_bodies plan t)) (place_in (parallel_sites p plan t)) x.at e in
        subst (λ g. KeepsLock p plan.marks (op_at n) g x.body) (sym guards) (parallel_keeps p checked.typed plan.marks sound same_receiver (op_at n) x.body)
    by_body false e = λ roots b y holds there es path.
        let guards = free_are (place_in (locked_bodies p plan t)) (place_in (parallel_bodies plan t)) (place_in (parallel_sites p plan t)) x.at e (is_parallel b y holds there) in
        let none : Contains (locked_ops p plan) (op_at n) → ⊥ = λ c. true≢false (sym (named (locked_ops p plan) c) ∙ e) in
        free_parallel_keeps p checked.typed plan.marks sound same_receiver (op_at n) (is_free (op_at n) none) x.body roots b y holds there es
        (subst (λ g. Through g x.body (operation_body p (op_at n)) es) guards path)

  pub locks_kept : SoundMarks p plan.marks → (t : TextTree) → KeepsLocks p plan.marks (marking_of p plan t) t
  locks_kept sound t n x found = by_body sound t n x found (place_in (locked_bodies p plan t) x.at) refl

  pub kept_text : {V E : Type 0} (items : V → List ℕ) (r : Result V E) (t : TextTree) → SoundMarks p plan.marks → IfOk r (λ v. items v ≡ annotated_text p plan t) → IfOk r (λ v. KeptText p plan t (items v))
  kept_text items (Ok v) t sound h = record { marking = marking_of p plan t; is = h; keeps = locks_kept sound t }
  kept_text items (Err x) t sound h = tt
