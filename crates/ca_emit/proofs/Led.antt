-- An operation of an extent that the plan has for a marked call or a marked loop is one to which such a call or loop may lead.
use Rattle.std.proofs.Common.{inl, inr, ◌⊎◌, ◌≡◌, ℕ, zero, suc, ◌+◌, Bool, true, false, ◌||◌, List, [], ◌∷◌, ◌++◌, length, Some, refl, sym, ap, subst, arith, ⊎_elim}
use Rattle.std.specs.Prelude.{Contains, nat_eq, slice_get}
use Rattle.std.proofs.lemmas.Bool.{eqb-true, or_right}
use Rattle.ca_lists.proofs.Members.{has_first, has_further}
use Rattle.ca_program.specs.declared.program.LoopId.{LoopId}
use Rattle.ca_program.specs.declared.program.OpId.{OpId}
use Rattle.ca_program.specs.declared.program.FieldId.{FieldId}
use Rattle.ca_program.specs.Plain.{PlainProgram}
use Rattle.ca_parallel.specs.Bodies.{calls_of}
use Rattle.ca_parallel.specs.Extents.{Extent, operation_body}
use Rattle.ca_parallel.specs.Lists.{op_in}
use Rattle.ca_parallel.specs.Marks.{loops_of_program}
use Rattle.ca_section.specs.TakesLock.{takes_lock}
use Rattle.ca_lock_laws.specs.Guarded.{a_call, a_loop}
use Rattle.ca_plan.specs.Plans.{Judged, JudgedLoop, PlainPlan, PlanOf, op_at, call_loops}
use Rattle.ca_plan.specs.Texts.{loop_in}
use Rattle.ca_emit.specs.Annotations.{all_ops, locked_in, locked_of, locked_ops, ops_if, parallel_ops, reached, reached_by_loops, reached_by_ops}
use Rattle.ca_emit.specs.Locks.{IsLedTo}
use Rattle.ca_emit.proofs.Locked.{loop_there}

-- ---- what numbers are found

same_op : (x op : OpId) → nat_eq x.0 op.0 ≡ true → x ≡ op
same_op x op e = ap op_at (eqb-true x.0 op.0 e)

op_there : (xs : List OpId) (op : OpId) → op_in xs op ≡ true → Contains xs op
op_there [] op e = absurd cc
op_there (x ∷ xs) op e = from (nat_eq x.0 op.0) refl e (λ d. op_there xs op d)
  where
    from : (b : Bool) → nat_eq x.0 op.0 ≡ b → b || op_in xs op ≡ true → (op_in xs op ≡ true → Contains xs op) → Contains (x ∷ xs) op
    from true d e more = subst (λ z. Contains (z ∷ xs) op) (sym (same_op x op d)) (has_first op xs)
    from false d e more = has_further x op xs (more e)

abbrev site_at : ℕ → LoopId
site_at n = record { 0 = n }

same_site : (x site : LoopId) → nat_eq x.0 site.0 ≡ true → x ≡ site
same_site x site e = ap site_at (eqb-true x.0 site.0 e)

site_there : (xs : List LoopId) (site : LoopId) → loop_in xs site ≡ true → Contains xs site
site_there [] site e = absurd cc
site_there (x ∷ xs) site e = from (nat_eq x.0 site.0) refl e (λ d. site_there xs site d)
  where
    from : (b : Bool) → nat_eq x.0 site.0 ≡ b → b || loop_in xs site ≡ true → (loop_in xs site ≡ true → Contains xs site) → Contains (x ∷ xs) site
    from true d e more = subst (λ z. Contains (z ∷ xs) site) (sym (same_site x site d)) (has_first site xs)
    from false d e more = has_further x site xs (more e)

op_parted : (xs ys : List OpId) (op : OpId) → op_in (xs ++ ys) op ≡ true → (op_in xs op ≡ true) ⊎ (op_in ys op ≡ true)
op_parted [] ys op h = inr h
op_parted (x ∷ xs) ys op h = from (nat_eq x.0 op.0) h (λ d. op_parted xs ys op d)
  where
    from : (b : Bool) → b || op_in (xs ++ ys) op ≡ true → (op_in (xs ++ ys) op ≡ true → (op_in xs op ≡ true) ⊎ (op_in ys op ≡ true)) → (b || op_in xs op ≡ true) ⊎ (op_in ys op ≡ true)
    from true e more = inl refl
    from false e more = more e

if_true : (b : Bool) (ops : List OpId) (op : OpId) → op_in (ops_if b ops) op ≡ true → (b ≡ true) × (op_in ops op ≡ true)
if_true true ops op h = (refl, h)
if_true false ops op h = absurd cc

-- ---- where it was reached

-- by the operation at this place, which is marked
record ByOp (of : Extent → List OpId) (ms : List OpId) (n : ℕ) (js : List Judged) (op : OpId) : Type 0 where
  place : ℕ
  judged : Judged
  found : slice_get js place ≡ Some judged
  marked : op_in ms (op_at (n + place)) ≡ true
  there : op_in (of judged.extent) op ≡ true

by_op : (of : Extent → List OpId) (ms : List OpId) (n : ℕ) (js : List Judged) (op : OpId) → op_in (reached_by_ops of ms n js) op ≡ true → ByOp of ms n js op
by_op of ms n [] op h = absurd cc
by_op of ms n (j ∷ js) op h = from (op_parted (ops_if (op_in ms (op_at n)) (of j.extent)) (reached_by_ops of ms (n + 1) js) op h) (λ d. by_op of ms (n + 1) js op d)
  where
    at_n : n ≡ n + 0
    at_n = omega arith

    further : (k : ℕ) → (n + 1) + k ≡ n + suc k
    further k = omega arith

    from : (op_in (ops_if (op_in ms (op_at n)) (of j.extent)) op ≡ true) ⊎ (op_in (reached_by_ops of ms (n + 1) js) op ≡ true)
        → (op_in (reached_by_ops of ms (n + 1) js) op ≡ true → ByOp of ms (n + 1) js op) → ByOp of ms n (j ∷ js) op
    from (inl here) more = let w = if_true (op_in ms (op_at n)) (of j.extent) op here in
        record { place = 0; judged = j; found = refl; marked = subst (λ z. op_in ms (op_at z) ≡ true) at_n w.0; there = w.1 }
    from (inr behind) more = let r = more behind in
        record { place = suc r.place; judged = r.judged; found = r.found; marked = subst (λ z. op_in ms (op_at z) ≡ true) (further r.place) r.marked; there = r.there }

-- by the loop at this place
record ByLoop (of : Extent → List OpId) (ms : List LoopId) (ls : List JudgedLoop) (op : OpId) : Type 0 where
  place : ℕ
  loop : JudgedLoop
  found : slice_get ls place ≡ Some loop
  marked : loop_in ms loop.site ≡ true
  there : op_in (of loop.judged.extent) op ≡ true

by_loop : (of : Extent → List OpId) (ms : List LoopId) (ls : List JudgedLoop) (op : OpId) → op_in (reached_by_loops of ms ls) op ≡ true → ByLoop of ms ls op
by_loop of ms [] op h = absurd cc
by_loop of ms (l ∷ ls) op h = from (op_parted (ops_if (loop_in ms l.site) (of l.judged.extent)) (reached_by_loops of ms ls) op h) (λ d. by_loop of ms ls op d)
  where
    from : (op_in (ops_if (loop_in ms l.site) (of l.judged.extent)) op ≡ true) ⊎ (op_in (reached_by_loops of ms ls) op ≡ true)
        → (op_in (reached_by_loops of ms ls) op ≡ true → ByLoop of ms ls op) → ByLoop of ms (l ∷ ls) op
    from (inl here) more = let w = if_true (loop_in ms l.site) (of l.judged.extent) op here in record { place = 0; loop = l; found = refl; marked = w.0; there = w.1 }
    from (inr behind) more = let r = more behind in record { place = suc r.place; loop = r.loop; found = r.found; marked = r.marked; there = r.there }

-- ---- so it may be led to

pub beside : {A B : Type 0} (xs : List A) (ys : List B) (n : ℕ) (y : B) → length xs ≡ length ys → slice_get ys n ≡ Some y → (x : A) × (slice_get xs n ≡ Some x)
beside xs [] n y e h = absurd cc
beside [] (z ∷ ys) n y e h = absurd (omega (arith, e))
beside (x ∷ xs) (z ∷ ys) zero y e h = (x, refl)
beside (x ∷ xs) (z ∷ ys) (suc n) y e h = beside xs ys n y (omega (arith, e)) h

-- what takes a lock is an operation of the extent
locked_inside : (p : PlainProgram) (written : List FieldId) (ops : List OpId) (op : OpId) → op_in (locked_of p written ops) op ≡ true → op_in ops op ≡ true
locked_inside p written [] op h = h
locked_inside p written (x ∷ xs) op h = from (op_parted (ops_if (takes_lock written (operation_body p x)) (x ∷ [])) (locked_of p written xs) op h) (λ d. locked_inside p written xs op d)
  where
    widened : (b : Bool) → b || false ≡ true → b || op_in xs op ≡ true
    widened true e = refl
    widened false e = absurd cc

    from : (op_in (ops_if (takes_lock written (operation_body p x)) (x ∷ [])) op ≡ true) ⊎ (op_in (locked_of p written xs) op ≡ true)
        → (op_in (locked_of p written xs) op ≡ true → op_in xs op ≡ true) → op_in (x ∷ xs) op ≡ true
    from (inl here) more = widened (nat_eq x.0 op.0) (if_true (takes_lock written (operation_body p x)) (x ∷ []) op here).1
    from (inr behind) more = or_right (nat_eq x.0 op.0) (op_in xs op) (more behind)

module _ (p : PlainProgram) (plan : PlainPlan) (is : PlanOf p plan) where
  module _ (of : Extent → List OpId) (inside : (x : Extent) (op : OpId) → op_in (of x) op ≡ true → op_in x.ops op ≡ true) where
    led_by_op : (op : OpId) → ByOp of plan.marks.ops 0 plan.ops op → IsLedTo p plan.marks op
    led_by_op op r =
        let at_place : 0 + r.place ≡ r.place = omega arith in
        record {
          roots = op_at r.place ∷ [];
          begins = a_call (op_there plan.marks.ops (op_at r.place) (subst (λ z. op_in plan.marks.ops (op_at z) ≡ true) at_place r.marked));
          extent = r.judged.extent;
          is = (is.ops r.place r.judged r.found).extent.holds;
          holds = op_there r.judged.extent.ops op (inside r.judged.extent op r.there);
        }

    led_by_loop : (op : OpId) → ByLoop of plan.marks.loops plan.loops op → IsLedTo p plan.marks op
    led_by_loop op r =
        let loop = beside (call_loops p) plan.loops r.place r.loop (sym is.each_loop) r.found in
        let judged = is.loops r.place loop.0 r.loop loop.1 r.found in
        record {
          roots = calls_of loop.0;
          begins = a_loop (site_there plan.marks.loops r.loop.site r.marked) (loop_there (loops_of_program p) r.place loop.0 loop.1) judged.site;
          extent = r.loop.judged.extent;
          is = judged.judged.extent.holds;
          holds = op_there r.loop.judged.extent.ops op (inside r.loop.judged.extent op r.there);
        }

    led : (op : OpId) → op_in (reached of plan) op ≡ true → IsLedTo p plan.marks op
    led op h = ⊎_elim (λ here. led_by_op op (by_op of plan.marks.ops 0 plan.ops op here)) (λ behind. led_by_loop op (by_loop of plan.marks.loops plan.loops op behind))
        (op_parted (reached_by_ops of plan.marks.ops 0 plan.ops) (reached_by_loops of plan.marks.loops plan.loops) op h)

  -- a parallel operation, and one that takes a lock
  pub parallel_led : (op : OpId) → op_in (parallel_ops plan) op ≡ true → IsLedTo p plan.marks op
  parallel_led = led all_ops (λ x op h. h)

  pub locked_led : (op : OpId) → op_in (locked_ops p plan) op ≡ true → IsLedTo p plan.marks op
  locked_led = led (locked_in p) (λ x op h. locked_inside p x.written x.ops op h)
