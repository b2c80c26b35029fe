-- Sections of an extent of separable operations keep its objects good and list good calls.
use Rattle.std.proofs.Common.{◌≡◌, ℕ, List, ◌∷◌, ◌++◌, Some, sym, subst, ◌∙◌, arith}
use Rattle.std.specs.Prelude.{slice_get, slice_set, Contains}
use Rattle.ca_lists.proofs.Places.{get_set_here}
use Rattle.ca_program.specs.declared.program.OpId.{OpId}
use Rattle.ca_program.specs.Plain.{PlainProgram}
use Rattle.ca_model.specs.declared.value.Object.{Object}
use Rattle.ca_model.specs.Typed.{TypedHeap}
use Rattle.ca_meaning.specs.Expressions.{Invocation}
use Rattle.ca_meaning.specs.Sections.{Outcome, Completes}
use Rattle.ca_meaning.specs.Multisets.{weight}
use Rattle.ca_meaning.specs.WellTyped.{AllWellTyped, IsMethodOf, IsTypedObject}
use Rattle.ca_meaning.specs.Agree.{Agree}
use Rattle.ca_meaning.specs.ProgramTyped.{ProgramTyped}
use Rattle.ca_parallel.specs.Calls.{invocations_of}
use Rattle.ca_parallel.specs.Extents.{Extent, IsExtentOf}
use Rattle.ca_parallel.specs.Separable.{Separable}
use Rattle.ca_order_laws.specs.Order.{AllInside}
use Rattle.ca_order_laws.proofs.Weights.{weight_append, Split, Decides, equal, other, count_of, there, count_self}
use Rattle.ca_order_laws.proofs.Decided.{decide_nat}
use Rattle.ca_order_laws.proofs.Places.{get_else, one_some}
use Rattle.ca_order_laws.proofs.Sections.{Bounded, bounded, typed_leaves}
use Rattle.ca_order_laws.proofs.Setting.{GoodCall, GoodObject, method_of, taken, well_typed_at}
use Rattle.ca_logs.specs.declared.log.Task.{Task}
use Rattle.ca_logs.specs.declared.log.Entry.{Entry}
use Rattle.ca_logs.specs.Entries.{listed_by, call_of, task_calls}
use Rattle.ca_logs.specs.Legal.{outcome_of}
use Rattle.ca_logs.proofs.Tasks.{decide_task, listed_calls}
use Rattle.ca_logs.proofs.Levels.{split_calls}

module _ (p : PlainProgram) (x : Extent) (frozen : List Object) where
  pub record GoodHeap (h : List Object) : Type 0 where
    pub each : (n : ℕ) (o : Object) → slice_get h n ≡ Some o → GoodObject p x frozen n o

  pub record GoodTasks (ts : List Task) : Type 0 where
    pub each : (t : Task) → Split t ts → GoodCall p x frozen (call_of t)

  split_call : (t : Task) (ts : List Task) → Split t ts → Split (call_of t) (task_calls ts)
  split_call t ts s = record { others = task_calls s.others; same = split_calls t ts s }

  pub good_tasks : (ts : List Task) → AllWellTyped p frozen (task_calls ts) → AllInside x (task_calls ts) → GoodTasks ts
  good_tasks ts typed inside = record {
    each = λ t s.
        let c : Contains (task_calls ts) (call_of t) = taken (call_of t) (task_calls ts) (split_call t ts s) in
        record { inside = inside (call_of t) c; typed = well_typed_at p frozen (task_calls ts) typed (call_of t) c };
  }

  good_append : (xs ys : List Task) → GoodTasks xs → ((t : Task) → Split t ys → GoodCall p x frozen (call_of t)) → GoodTasks (xs ++ ys)
  good_append xs ys f g = record { each = λ t s. from t s (decide_nat (weight (count_of decide_task t) xs) 0) }
    where
      from : (t : Task) → Split t (xs ++ ys) → Decides (weight (count_of decide_task t) xs) 0 → GoodCall p x frozen (call_of t)
      from t s (equal e) = g t (there decide_task t ys (let a = s.same.weighed (count_of decide_task t) in let b = count_self decide_task t in let c = weight_append (count_of decide_task t) xs ys in omega arith))
      from t s (other ne) = f.each t (there decide_task t xs (omega arith))

  good_set : (h : List Object) (n : ℕ) (o v : Object) → slice_get h n ≡ Some o → GoodObject p x frozen n v → GoodHeap h → GoodHeap (slice_set h n v)
  good_set h n o v found good all = record { each = λ m w got. from m w got (decide_nat n m) }
    where
      from : (m : ℕ) (w : Object) → slice_get (slice_set h n v) m ≡ Some w → Decides n m → GoodObject p x frozen m w
      from m w got (equal e) =
          let t : slice_get (slice_set h n v) m ≡ Some v = subst (λ k. slice_get (slice_set h n v) k ≡ Some v) e (get_set_here h n o v found) in
          subst (λ k. GoodObject p x frozen k w) e (subst (λ u. GoodObject p x frozen n u) (one_some _ v w t got) good)
      from m w got (other ne) = all.each m w (sym (get_else h n m v ne) ∙ got)

  module _ (program : ProgramTyped p) (roots : List OpId) (is : IsExtentOf p roots x) (separable : (op : OpId) → Contains x.ops op → Separable p x.written op) (heap : TypedHeap p frozen) where
    -- what a complete section leaves, and what it lists
    record Step (i : Invocation) (r : Outcome) : Type 0 where
      object : GoodObject p x frozen i.receiver r.object
      typed : AllWellTyped p frozen r.listed
      inside : AllInside x r.listed

    step : (i : Invocation) (o : Object) (r : Outcome) → GoodCall p x frozen i → GoodObject p x frozen i.receiver o → Completes p frozen i.receiver o i.op i.arguments r → Step i r
    step i o r good ob leaves =
        let of_class : IsMethodOf (slice_get p.ops i.op.0) o.class = method_of p x.written frozen i o ob.agrees good.typed in
        let b : Bounded p program roots x is frozen o r = bounded p program roots x is frozen i good.inside (separable i.op good.inside) o of_class r leaves in
        let t : IsTypedObject p frozen o.class r.object × AllWellTyped p frozen r.listed = typed_leaves p program roots x is frozen heap i good.typed o.class of_class o ob.typed r leaves in
        let ag : Agree x.written o ob.agrees.other = ob.agrees.agree in
        record {
          object = record {
            agrees = record { other = ob.agrees.other; there = ob.agrees.there; agree = record { class = b.class ∙ ag.class; constants = λ f e n. b.constants f (e ∙ b.class) n ∙ ag.constants f (e ∙ b.class) n } };
            typed = subst (λ c. IsTypedObject p frozen c r.object) (sym b.class) t.0;
          };
          typed = t.1;
          inside = b.inside;
        }

    -- behind the section of an entry whose task waits, with what it listed in its place
    pub record Onward (h : List Object) (e : Entry) (after : Object) (others : List Task) : Type 0 where
      pub behind : GoodHeap (slice_set h e.task.op.receiver after)
      pub tasks : GoodTasks (listed_by e ++ others)

    pub onward : (h : List Object) (ts : List Task) (e : Entry) (before after : Object) → GoodHeap h → GoodTasks ts → (s : Split e.task ts) → slice_get h e.task.op.receiver ≡ Some before →
        Completes p frozen e.task.op.receiver before e.task.op.op e.task.op.args (outcome_of e after) → Onward h e after s.others
    onward h ts e before after gh gt s found section =
        let z : Step (call_of e.task) (outcome_of e after) = step (call_of e.task) before (outcome_of e after) (gt.each e.task s) (gh.each e.task.op.receiver before found) section in
        let listed : invocations_of e.invoked ≡ task_calls (listed_by e) = listed_calls e in
        record {
          behind = good_set h e.task.op.receiver before after found z.object gh;
          tasks = good_append (listed_by e) s.others (good_tasks (listed_by e) (subst (λ l. AllWellTyped p frozen l) listed z.typed) (subst (λ l. AllInside x l) listed z.inside))
              (λ t u. gt.each t record { others = e.task ∷ u.others; same = record { weighed = λ f. let a = s.same.weighed f in let b = u.same.weighed f in omega arith } });
        }
