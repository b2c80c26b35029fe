-- A call that is done leads, section by section, to what its serial run leaves.
use Rattle.std.proofs.Common.{◌≡◌, ℕ, suc, ◌+◌, ◌<◌, List, [], ◌∷◌, ◌++◌, length, map, Option, Some, None, refl, ap, sym, subst, ◌∙◌, arith, append-nil, append_assoc}
use Rattle.std.specs.Prelude.{slice_get, slice_set, Contains, All}
use Rattle.std.proofs.lemmas.List.Elements.{All-append, All-cons, All-head, All-nil, All-tail, Contains-append_right}
use Rattle.ca_lists.proofs.Members.{has_only}
use Rattle.ca_program.specs.declared.program.ClassId.{ClassId}
use Rattle.ca_program.specs.declared.program.FieldId.{FieldId}
use Rattle.ca_program.specs.declared.program.OpId.{OpId}
use Rattle.ca_program.specs.Plain.{PlainProgram}
use Rattle.ca_model.specs.declared.value.Object.{Object}
use Rattle.ca_model.specs.Typed.{IsOfClass, TypedHeap}
use Rattle.ca_meaning.specs.Expressions.{Invocation}
use Rattle.ca_meaning.specs.Flows.{Flow, goes_on, gives_back, stops, runs_out}
use Rattle.ca_meaning.specs.Multisets.{SameItems, weight}
use Rattle.ca_meaning.specs.Sections.{Outcome, Completes}
use Rattle.ca_meaning.specs.Serial.{World, fresh, serial_ops}
use Rattle.ca_meaning.specs.WellTyped.{AllWellTyped, IsMethodOf}
use Rattle.ca_meaning.specs.Agree.{AgreesAt, HeapsAgree}
use Rattle.ca_meaning.specs.ProgramTyped.{ProgramTyped}
use Rattle.ca_meaning_laws.specs.Typed.{Extends, KeepsHeap, goes_on_kept}
use Rattle.ca_meaning_laws.proofs.SerialTypes.{serial_ops_keep, well_kept}
use Rattle.ca_parallel.specs.declared.op.Op.{Op}
use Rattle.ca_parallel.specs.Calls.{invocations_of}
use Rattle.ca_parallel.specs.Extents.{Extent, IsExtentOf}
use Rattle.ca_parallel.specs.Parallel.{Parallel}
use Rattle.ca_order_laws.specs.Pending.{Leaves, PendingRun, CompleteRun, rests, runs}
use Rattle.ca_order_laws.specs.Order.{StandsFor, AllInside}
use Rattle.ca_order_laws.proofs.Decided.{decide_call}
use Rattle.ca_order_laws.proofs.Frozen.{any_frozen_heap, there_too}
use Rattle.ca_order_laws.proofs.Places.{one_some}
use Rattle.ca_order_laws.proofs.SerialOrder.{depth_first}
use Rattle.ca_order_laws.proofs.Setting.{GoodCall, GoodObject, method_of}
use Rattle.ca_order_laws.proofs.Weights.{weight_append, Decides, equal, other, is_one, count_of, count_self}
use Rattle.ca_logs.specs.declared.log.Task.{Task}
use Rattle.ca_logs.specs.declared.log.Entry.{Entry}
use Rattle.ca_logs.specs.Entries.{task_after, listed_by, call_of, task_calls}
use Rattle.ca_logs.specs.Legal.{outcome_of}
use Rattle.ca_logs.specs.Laws.{steps_of}
use Rattle.ca_logs.proofs.Tasks.{listed_calls, weight_map, weight_flat}
use Rattle.ca_sum_laws.specs.Summed.{Summed}
use Rattle.ca_sum_laws.specs.Replicas.{MayRun, Replicates, one_more}
use Rattle.ca_sum_laws.specs.Calls.{CallsLead}
use Rattle.ca_sum_laws.proofs.Entering.{GoodHeap, good_heap, entered_good}
use Rattle.ca_sum_laws.proofs.Running.{lists_good}

-- ---- the entry of a section

abbrev op_of : Invocation → Op
op_of i = record { receiver = i.receiver; op = i.op; args = i.arguments }

ops_back : (is : List Invocation) → invocations_of (map op_of is) ≡ is
ops_back [] = refl
ops_back (i ∷ is) = ap (λ js. i ∷ js) (ops_back is)

abbrev entry_of : Task → Outcome → Entry
entry_of t m = record { task = t; clock = suc t.after; steps = m.steps; invoked = map op_of m.listed; stop = None }

outcome_back : (t : Task) (m : Outcome) → outcome_of (entry_of t m) m.object ≡ m
outcome_back t m = ap (λ l. made m.object l m.steps) (ops_back m.listed)
  where
    made : Object → List Invocation → ℕ → Outcome
    made o l k = record { object = o; listed = l; steps = k }

calls_back : (t : Task) (m : Outcome) → task_calls (listed_by (entry_of t m)) ≡ m.listed
calls_back t m = sym (listed_calls (entry_of t m)) ∙ ops_back m.listed

counted : (es : List Entry) → weight (λ (e : Entry). 1) es ≡ length es
counted [] = refl
counted (e ∷ es) = let n = counted es in omega (arith, n)

-- ---- typed where the frozen heap is

frozen_extends : (written : List FieldId) (frozen h : List Object) → HeapsAgree written h frozen → Extends frozen h
frozen_extends written frozen h a = record { keeps = λ n c t. from n c (slice_get frozen n) refl t }
  where
    from : (n : ℕ) (c : ClassId) (o : Option Object) → slice_get frozen n ≡ o → IsOfClass o c → IsOfClass (slice_get h n) c
    from n c None e t = absurd t
    from n c (Some q) e t =
        let o = there_too h frozen a.as_many n q e in
        let b : AgreesAt written o.0 frozen n = a.each n o.0 o.1 in
        let same : b.other ≡ q = one_some _ b.other q b.there e in
        subst (λ z. IsOfClass z c) (sym o.1) (b.agree.class ∙ ap (λ (z : Object). z.class) same ∙ t)

-- calls that are well typed in the frozen heap are so in each that stands for it
pub well_typed_there : (p : PlainProgram) (x : Extent) (frozen h : List Object) → StandsFor p x frozen h → (is : List Invocation) → AllWellTyped p frozen is → AllWellTyped p h is
well_typed_there p x frozen h stands is t = well_kept p frozen h (frozen_extends x.written frozen h stands.agree) is t

abbrev DoneTyped : PlainProgram → Flow World → Type 0
DoneTyped p (goes_on ls w k) = TypedHeap p w.heap
DoneTyped p _ = Unit {0}

done_typed : (p : PlainProgram) (h : List Object) (o : Flow World) → KeepsHeap p h o → DoneTyped p o
done_typed p h (goes_on ls w k) (goes_on_kept _ _ _ t ext) = t
done_typed p h (gives_back v w k) keeps = tt
done_typed p h (stops t w) keeps = tt
done_typed p h (runs_out w) keeps = tt

-- ---- which task a call is

module _ (p : PlainProgram) (x : Extent) (frozen : List Object) where
  -- a task of the call, and the others
  record Found (i : Invocation) (ts : List Task) : Type 0 where
    task : Task
    is : call_of task ≡ i
    may : MayRun p x frozen task
    others : List Task
    rest : All (MayRun p x frozen) others
    same : SameItems ts (task ∷ others)

  find : (i : Invocation) (ts : List Task) → All (MayRun p x frozen) ts → 0 < weight (count_of decide_call i) (task_calls ts) → Found i ts
  find i [] a lt = absurd (omega (arith, lt))
  find i (t ∷ ts) a lt = from (decide_call i (call_of t)) lt (λ h. find i ts (All-tail (MayRun p x frozen) t ts a) h)
    where
      from : (d : Decides i (call_of t)) → 0 < is_one decide_call d + weight (count_of decide_call i) (task_calls ts) → (0 < weight (count_of decide_call i) (task_calls ts) → Found i ts) → Found i (t ∷ ts)
      from (equal e) h f = record {
        task = t;
        is = sym e;
        may = All-head (MayRun p x frozen) t ts a;
        others = ts;
        rest = All-tail (MayRun p x frozen) t ts a;
        same = record { weighed = λ g. refl };
      }
      from (other n) h f = let s : Found i ts = f (omega (arith, h)) in record {
        task = s.task;
        is = s.is;
        may = s.may;
        others = t ∷ s.others;
        rest = All-cons (MayRun p x frozen) t s.others (All-head (MayRun p x frozen) t ts a) s.rest;
        same = record { weighed = λ g. let e = s.same.weighed g in omega (arith, e) };
      }

  -- what a section lists may run
  each_may : (clock : ℕ) (is : List Invocation) → AllWellTyped p frozen is → AllInside x is → All (MayRun p x frozen) (map (task_after clock) (map op_of is))
  each_may clock [] t c = All-nil (MayRun p x frozen)
  each_may clock (i ∷ is) t c =
      All-cons (MayRun p x frozen) (task_after clock (op_of i)) (map (task_after clock) (map op_of is)) (record { typed = t.0; inside = c i (0, omega arith, refl) })
      (each_may clock is t.1 (λ j d. c j (Contains-append_right (i ∷ []) is j d)))

none_left : (ts : List Task) → SameItems [] (task_calls ts) → ts ≡ []
none_left [] s = refl
none_left (t ∷ ts) s = let w = s.weighed (λ i. 1) in absurd (omega (arith, w))

-- ---- a run, as entries

module _ (p : PlainProgram) (program : ProgramTyped p) (roots : List OpId) (x : Extent) (is : IsExtentOf p roots x) (parallel : Parallel p x) (summed : (op : OpId) → Contains x.ops op → Summed p x.written op) (frozen : List Object) (heap : TypedHeap p frozen) (first : List Object) (standing : StandsFor p x frozen first) where
  abbrev Good : List Object → Type 0
  Good h = GoodHeap p program roots x is parallel summed frozen heap h

  -- what tasks that wait lead to
  record Leading (ts : List Task) (h last : List Object) (steps : ℕ) : Type 0 where
    entries : List Entry
    further : (base : List Object) (es : List Entry) → Replicates p x frozen base es h → Replicates p x frozen base (es ++ entries) last
    balance : (f : Task → ℕ) → weight f ts + weight (λ (e : Entry). weight f (listed_by e)) entries ≡ weight (λ (e : Entry). f e.task) entries
    sum : steps_of entries ≡ steps
    good : Good last

  -- nothing waits
  no_more : (last : List Object) → Good last → Leading [] last last 0
  no_more last g = record {
    entries = [];
    further = λ base es r. subst (λ z. Replicates p x frozen base z last) (sym (append-nil es)) r;
    balance = λ f. omega arith;
    sum = refl;
    good = g;
  }

  -- the section of one of the tasks that wait
  module _ (i : Invocation) (h : List Object) (g : Good h) (o : Object) (m : Outcome) (found : slice_get h i.receiver ≡ Some o) (leaves : Leaves p first i o m) (ts : List Task) (f : Found p x frozen i ts) where
    abbrev e : Entry
    e = entry_of f.task m

    abbrev us : List Task
    us = listed_by e ++ f.others

    go : GoodObject p x frozen i.receiver o
    go = g.objects i.receiver o found

    call : GoodCall p x frozen i
    call = subst (GoodCall p x frozen) f.is (record { inside = f.may.inside; typed = f.may.typed })

    of_class : IsMethodOf (slice_get p.ops i.op.0) o.class
    of_class = method_of p x.written frozen i o go.agrees call.typed

    -- it is the section in the frozen heap
    here : Leaves p frozen i o m
    here = (leaves.0, sym (any_frozen_heap p program x frozen first heap standing i (parallel.separable i.op call.inside) call.typed o.class of_class o go.typed leaves.0) ∙ leaves.1)

    found_there : slice_get h f.task.op.receiver ≡ Some o
    found_there = ap (λ (j : Invocation). slice_get h j.receiver) f.is ∙ found

    section_is : Completes p frozen f.task.op.receiver o f.task.op.op f.task.op.args (outcome_of e m.object)
    section_is =
        subst (λ n. Completes p frozen f.task.op.receiver o f.task.op.op f.task.op.args n) (sym (outcome_back f.task m)) (subst (λ j. Leaves p frozen j o m) (sym f.is) here)

    next_good : Good (slice_set h i.receiver m.object)
    next_good =
        subst (λ (j : Invocation). Good (slice_set h j.receiver m.object)) f.is (entered_good p program roots x is parallel summed frozen heap h g e f.may o m.object found_there section_is)

    next_may : All (MayRun p x frozen) us
    next_may =
        let l = lists_good p program roots x is parallel summed frozen heap h g i call o found m here in
        All-append (MayRun p x frozen) (listed_by e) f.others (each_may p x frozen (suc f.task.after) m.listed l.0 l.1) f.rest

    next_waits : (waiting others : List Invocation) → SameItems waiting (i ∷ others) → SameItems waiting (task_calls ts) → SameItems (m.listed ++ others) (task_calls us)
    next_waits waiting others same waits = record {
      weighed = λ w. omega (
        arith,
        same.weighed w,
        waits.weighed w,
        f.same.weighed (λ (t : Task). w (call_of t)),
        weight_map w call_of ts,
        weight_map w call_of f.others,
        weight_map w call_of us,
        weight_map w call_of (listed_by e),
        weight_append w m.listed others,
        weight_append (λ (t : Task). w (call_of t)) (listed_by e) f.others,
        ap (weight w) (calls_back f.task m),
        ap w f.is,
      );
    }

    led_on : (last : List Object) (steps : ℕ) → Leading us (slice_set h i.receiver m.object) last steps → Leading ts h last (m.steps + steps)
    led_on last steps l = record {
      entries = e ∷ l.entries;
      further = λ base es r. subst (λ z. Replicates p x frozen base z last) (append_assoc es (e ∷ []) l.entries)
          (l.further base (es ++ e ∷ []) (subst (λ (j : Invocation). Replicates p x frozen base (es ++ e ∷ []) (slice_set h j.receiver m.object)) f.is (one_more es h e o m.object r f.may refl refl found_there section_is)));
      balance = λ w. omega (arith, l.balance w, f.same.weighed w, weight_append w (listed_by e) f.others);
      sum = ap (λ n. m.steps + n) l.sum;
      good = l.good;
    }

  there_is : (i : Invocation) (waiting others : List Invocation) (ts : List Task) → SameItems waiting (i ∷ others) → SameItems waiting (task_calls ts) → 0 < weight (count_of decide_call i) (task_calls ts)
  there_is i waiting others ts same waits = omega (arith, same.weighed (count_of decide_call i), waits.weighed (count_of decide_call i), count_self decide_call i)

  leads : {last : List Object} {order : List Invocation} {h : List Object} {waiting : List Invocation} {steps : ℕ} → PendingRun p first last [] order h waiting steps → Good h → (ts : List Task) → All (MayRun p x frozen) ts → SameItems waiting (task_calls ts) → Leading ts h last steps
  leads {last} (rests waiting same) g ts may waits =
      subst (λ us. Leading us last last 0) (sym (none_left ts (record { weighed = λ w. sym (same.weighed w) ∙ waits.weighed w }))) (no_more last g)
  leads {last} (runs i more h waiting others o m steps same found leaves tail) g ts may waits =
      let f : Found p x frozen i ts = find p x frozen i ts may (there_is i waiting others ts same waits) in
      led_on i h g o m found leaves ts f last steps
      (leads tail (next_good i h g o m found leaves ts f) (listed_by (entry_of f.task m) ++ f.others) (next_may i h g o m found leaves ts f) (next_waits i h g o m found leaves ts f waiting others same waits))

pub calls_lead : CallsLead
calls_lead p program roots x is parallel summed frozen h heap standing t may budget after steps r =
    let well : AllWellTyped p h (call_of t ∷ []) = well_typed_there p x frozen h standing (call_of t ∷ []) (may.typed, tt) in
    let inside : AllInside x (call_of t ∷ []) = λ i c. subst (λ (j : Invocation). Contains x.ops j.op) (has_only (call_of t) i c) may.inside in
    let done = (depth_first p program roots x is parallel h standing.heap (call_of t ∷ []) well inside budget after steps).0 r in
    let run : CompleteRun p h h (call_of t ∷ []) after steps = done.1 in
    let good : GoodHeap p program roots x is parallel summed frozen heap h = good_heap p program roots x is parallel summed frozen heap h standing in
    let l : Leading p program roots x is parallel summed frozen heap h standing (t ∷ []) h after steps =
    leads p program roots x is parallel summed frozen heap h standing run.run good (t ∷ []) (All-cons (MayRun p x frozen) t [] may (All-nil (MayRun p x frozen))) (record { weighed = λ w. refl }) in
    record {
      entries = l.entries;
      some = omega (arith, l.balance (λ (u : Task). 1), counted l.entries);
      further = l.further;
      once = record { weighed = λ w. omega (arith, l.balance w, weight_map w (λ (e : Entry). e.task) l.entries, weight_flat w listed_by l.entries) };
      steps_are = l.sum;
      stands = record {
        heap = subst (DoneTyped p) r.run (done_typed p h (serial_ops p (call_of t ∷ []) (fresh h) budget) (serial_ops_keep p program (call_of t ∷ []) (fresh h) budget standing.heap well));
        agree = record {
          as_many = l.good.as_many;
          each = λ n o e. (let a : GoodObject p x frozen n o = l.good.objects n o e in a.agrees);
        };
      };
    }
