-- Replicas are a run.
use Rattle.std.proofs.Common.{◌≡◌, ℕ, ◌+◌, ◌<◌, List, [], ◌∷◌, ◌++◌, flat_map, Option, Some, None, refl, ap, sym, subst, ◌∙◌, arith, ℤ, pos, ◌+ℤ◌, Bool, true, false, cond}
use Rattle.std.specs.Prelude.{slice_get, slice_set, Contains, All}
use Rattle.std.proofs.lemmas.Int.{ints}
use Rattle.std.proofs.lemmas.List.{map-append}
use Rattle.std.proofs.lemmas.List.Elements.{All-head, All-tail}
use Rattle.ca_lists.proofs.Places.{same_by_places}
use Rattle.ca_program.specs.declared.program.OpId.{OpId}
use Rattle.ca_program.specs.declared.program.ClassId.{ClassId}
use Rattle.ca_program.specs.Plain.{PlainProgram, PlainMethod}
use Rattle.ca_model.specs.declared.value.Object.{Object}
use Rattle.ca_model.specs.Typed.{TypedHeap, IsOfClass}
use Rattle.ca_meaning.specs.Multisets.{weight}
use Rattle.ca_meaning.specs.Expressions.{Invocation}
use Rattle.ca_meaning.specs.Sections.{Outcome}
use Rattle.ca_meaning.specs.WellTyped.{IsTypedObject, WellTyped, AllWellTyped, CallTyped, IsMethodOf}
use Rattle.ca_meaning.specs.ProgramTyped.{ProgramTyped}
use Rattle.ca_parallel.specs.Extents.{Extent, IsExtentOf}
use Rattle.ca_parallel.specs.Parallel.{Parallel}
use Rattle.ca_parallel.specs.Calls.{invocations_of}
use Rattle.ca_order_laws.specs.Pending.{PendingRun, rests, runs}
use Rattle.ca_order_laws.specs.Order.{StandsFor, AllInside}
use Rattle.ca_order_laws.proofs.Weights.{weight_append, Split}
use Rattle.ca_order_laws.specs.Pending.{Leaves}
use Rattle.ca_order_laws.proofs.Sections.{leaves_one, Bounded, bounded, typed_leaves}
use Rattle.ca_order_laws.proofs.Setting.{GoodCall, GoodObject, method_of}
use Rattle.ca_order_laws.proofs.Frozen.{there_too}
use Rattle.ca_order_laws.proofs.Places.{one_some}
use Rattle.ca_logs.specs.declared.log.Task.{Task}
use Rattle.ca_logs.specs.declared.log.Entry.{Entry}
use Rattle.ca_logs.specs.Entries.{tasks_in, listed_by, call_of, task_calls}
use Rattle.ca_logs.specs.Legal.{outcome_of}
use Rattle.ca_logs.specs.LogOrder.{comes_before, put_in, ordered}
use Rattle.ca_logs.specs.Laws.{steps_of}
use Rattle.ca_logs.proofs.Tasks.{listed_calls, weight_map, weight_flat}
use Rattle.ca_logs.proofs.Levels.{Level, task_waits, level_on, level_end, split_calls}
use Rattle.ca_logs.proofs.Climbing.{Owns, owns_none, owns, owns_append, Climbs, flat, climbs}
use Rattle.ca_logs.proofs.Paths.{listed_weight}
use Rattle.ca_logs.proofs.Orders.{weight_ordered, climbs_ordered}
use Rattle.ca_sum_laws.specs.Summed.{Summed}
use Rattle.ca_sum_laws.specs.Moves.{Moved}
use Rattle.ca_sum_laws.specs.Replicas.{MayRun, Replicates, nothing, one_more, Replica, entries_in, heaps_in, merged, all_merged, AreBalanced}
use Rattle.ca_sum_laws.proofs.Heaps.{moved_heap, moved_at, moved_twice, moved_alike, still_option, Fits, SameKind, merged_moved, fits_moved, objects_kinds}
use Rattle.ca_sum_laws.proofs.Entering.{change, change_at, total, total_append, total_ordered, Free, MovesOn, free_of, GoodHeap, good_heap, frozen_stands, still_at, entered, entered_good}

pub plus_none : (a : ℤ) → a +ℤ pos 0 ≡ a
plus_none a = omega (arith, ints)

pub none_plus : (a : ℤ) → pos 0 +ℤ a ≡ a
none_plus a = omega (arith, ints)

pub grouped : (a b c : ℤ) → (a +ℤ b) +ℤ c ≡ a +ℤ (b +ℤ c)
grouped a b c = omega (arith, ints)

-- a well typed call has a receiver
pub class_there : (p : PlainProgram) (h : List Object) (i : Invocation) → WellTyped p h i → (q : Object) × (slice_get h i.receiver ≡ Some q)
class_there p h i t = from (slice_get p.ops i.op.0) t
  where
    at : (o : Option Object) (c : ClassId) → IsOfClass o c → (q : Object) × (o ≡ Some q)
    at None c t = absurd t
    at (Some q) c t = (q, refl)

    from : (m : Option PlainMethod) → CallTyped h m i.receiver i.arguments → (q : Object) × (slice_get h i.receiver ≡ Some q)
    from None t = absurd t
    from (Some m) t = at (slice_get h i.receiver) m.class t.0

-- a level of a balanced round
pub level_at_first : (es : List Entry) (first rest : List Task) → AreBalanced es first rest → Level first (ordered es) rest
level_at_first es first rest balanced = record { weigh = weighed }
  where
    weighed : (f : Task → ℕ) → weight f first + listed_weight f (ordered es) ≡ weight (λ (e : Entry). f e.task) (ordered es) + weight f rest
    weighed f =
        let w = balanced.weighed f in
        let a = weight_append f (tasks_in es) rest in let b = weight_map f (λ (e : Entry). e.task) es in
        let c = weight_append f first (flat_map listed_by es) in let d = weight_flat f listed_by es in
        let j = weight_ordered (λ (e : Entry). weight f (listed_by e)) es in
        let k = weight_ordered (λ (e : Entry). f e.task) es in omega arith

module _ (p : PlainProgram) (program : ProgramTyped p) (roots : List OpId) (x : Extent) (is : IsExtentOf p roots x) (parallel : Parallel p x) (summed : (op : OpId) → Contains x.ops op → Summed p x.written op) (frozen : List Object) (heap : TypedHeap p frozen) where
  abbrev pub FreeOne : Entry → Type 0
  FreeOne e = Free p program roots x is parallel summed frozen heap e

  abbrev pub Good : List Object → Type 0
  Good h = GoodHeap p program roots x is parallel summed frozen heap h

  pub data AllFree : List Entry → Type 0 where
    none_free : AllFree []
    free_and : (e : Entry) (es : List Entry) → FreeOne e → AllFree es → AllFree (e ∷ es)

  free_append : {es gs : List Entry} → AllFree es → AllFree gs → AllFree (es ++ gs)
  free_append none_free b = b
  free_append (free_and e es f a) b = free_and e _ f (free_append a b)

  free_put : (e : Entry) (es : List Entry) → FreeOne e → AllFree es → AllFree (put_in e es)
  free_put e [] f a = free_and e [] f none_free
  free_put e (y ∷ ys) f (free_and y2 ys2 g a) = from (comes_before y e) (free_put e ys f a)
    where
      from : (b : Bool) → AllFree (put_in e ys) → AllFree (cond b (y ∷ put_in e ys) (e ∷ y ∷ ys))
      from true i = free_and y _ g i
      from false i = free_and e _ f (free_and y ys g a)

  free_ordered : {es : List Entry} → AllFree es → AllFree (ordered es)
  free_ordered none_free = none_free
  free_ordered (free_and e es f a) = free_put e (ordered es) f (free_ordered a)

  -- ---- a worker's replica

  pub record Told (es : List Entry) (h : List Object) : Type 0 where
    pub good : Good h
    pub free : AllFree es
    pub own : Owns es
    pub moved : h ≡ moved_heap (total p frozen es) frozen

  pub told : (es : List Entry) (h : List Object) → Replicates p x frozen frozen es h → Told es h
  told es h nothing = record {
    good = frozen_stands p program roots x is parallel summed frozen heap;
    free = none_free;
    own = owns_none;
    moved = same_by_places _ _ (λ n. sym (moved_at (total p frozen []) frozen n ∙ still_option _ (slice_get frozen n) (still_at p program roots x is parallel summed frozen heap frozen (frozen_stands p program roots x is parallel summed frozen heap) n) (λ f. refl)));
  }
  told all g (one_more es h e o after before may clock stop found section) =
      let t : Told es h = told es h before in
      let free : FreeOne e = free_of p program roots x is parallel summed frozen heap e may o after (t.good.objects e.task.op.receiver o found) section in
      let m : MovesOn p program roots x is parallel summed frozen heap e o = free.moves o (t.good.objects e.task.op.receiver o found) in
      let same : m.after ≡ after = ap (λ (z : Outcome). z.object) (leaves_one p frozen (call_of e.task) o (outcome_of e m.after) (outcome_of e after) m.section section) in
      let h2 : slice_set h e.task.op.receiver after ≡ moved_heap (change_at p frozen e) h =
      entered p program roots x is parallel summed frozen heap h t.good e o after found (subst (λ (z : Object). z.class ≡ o.class) same m.class) (subst (λ (z : Object). Moved (change p frozen e) o.slots z.slots) same m.moved) in
      let less : e.task.after < e.clock = omega arith in
      record {
        good = entered_good p program roots x is parallel summed frozen heap h t.good e may o after found section;
        free = free_append t.free (free_and e [] free none_free);
        own = owns_append t.own (owns e [] less owns_none);
        moved = h2 ∙ ap (λ z. moved_heap (change_at p frozen e) z) t.moved ∙ moved_twice (total p frozen es) (change_at p frozen e) frozen ∙ moved_alike _ _ frozen (λ n f. sym (total_append p frozen es (e ∷ []) n f ∙ ap (λ z. total p frozen es n f +ℤ z) (plus_none (change_at p frozen e n f))));
      }

  -- ---- what a section on a replica lists

  pub lists_good : (h : List Object) → Good h → (i : Invocation) → GoodCall p x frozen i → (o : Object) → slice_get h i.receiver ≡ Some o → (m : Outcome) → Leaves p frozen i o m → AllWellTyped p frozen m.listed × AllInside x m.listed
  lists_good h gh i good o found m leaves =
      let g : GoodObject p x frozen i.receiver o = gh.objects i.receiver o found in
      let of_class : IsMethodOf (slice_get p.ops i.op.0) o.class = method_of p x.written frozen i o g.agrees good.typed in
      let b : Bounded p program roots x is frozen o m = bounded p program roots x is frozen i good.inside (parallel.separable i.op good.inside) o of_class m leaves in
      let l = typed_leaves p program roots x is frozen heap i good.typed o.class of_class o g.typed m leaves in
      (l.1, b.inside)

  -- ---- all workers' replicas

  -- nothing moved
  pub unmoved : (now : List Object) → Good now → now ≡ moved_heap (λ n f. pos 0) now
  unmoved now g = same_by_places _ _ (λ n. sym (moved_at (λ n f. pos 0) now n ∙ still_option _ (slice_get now n) (still_at p program roots x is parallel summed frozen heap now g n) (λ f. refl)))

  module _ (now : List Object) (standing : Good now) where
    record MergedTold (rs : List Replica) : Type 0 where
      free : AllFree (entries_in rs)
      own : Owns (entries_in rs)
      moved : (d : ℕ → ℕ → ℤ) → all_merged frozen (moved_heap d now) (heaps_in rs) ≡ moved_heap (λ n f. d n f +ℤ total p frozen (entries_in rs) n f) now

    pub now_fits : Fits now frozen
    now_fits = record { fit = λ n o e. from n o e (there_too frozen now (sym standing.as_many) n o e) }
      where
        from : (n : ℕ) (o : Object) → slice_get now n ≡ Some o → (q : Object) × (slice_get frozen n ≡ Some q) → (q : Object) × (slice_get frozen n ≡ Some q) × ((f : ℕ) → SameKind (slice_get o.slots f) (slice_get q.slots f))
        from n o e q =
            let a : GoodObject p x frozen n o = standing.objects n o e in
            let z : GoodHeap p program roots x is parallel summed frozen heap frozen = frozen_stands p program roots x is parallel summed frozen heap in
            let b : GoodObject p x frozen n q.0 = z.objects n q.0 q.1 in
            let same : a.agrees.other ≡ q.0 = one_some _ a.agrees.other q.0 a.agrees.there q.1 in
            let class : (let w : Object = q.0 in w.class) ≡ o.class = sym (a.agrees.agree.class ∙ ap (λ (z : Object). z.class) same) in
            let tq : IsTypedObject p frozen o.class q.0 = subst (λ c. IsTypedObject p frozen c q.0) class b.typed in
            (q.0, q.1, λ f. objects_kinds frozen (slice_get p.classes o.class.0) o.slots (let w : Object = q.0 in w.slots) a.typed.slots tq.slots f)

    all_told : (rs : List Replica) → All (λ (r : Replica). Replicates p x frozen frozen r.entries r.heap) rs → MergedTold rs
    all_told [] a = record { free = none_free; own = owns_none; moved = λ d. moved_alike _ _ now (λ n f. sym (plus_none (d n f))) }
    all_told (r ∷ rs) a =
        let t : Told r.entries r.heap = told r.entries r.heap (All-head (λ (r : Replica). Replicates p x frozen frozen r.entries r.heap) r rs a) in
        let m : MergedTold rs = all_told rs (All-tail (λ (r : Replica). Replicates p x frozen frozen r.entries r.heap) r rs a) in
        let te : ℕ → ℕ → ℤ = total p frozen r.entries in
        record {
          free = free_append t.free m.free;
          own = owns_append t.own m.own;
          moved = λ d.
              ap (λ z. all_merged frozen (merged (moved_heap d now) frozen z) (heaps_in rs)) t.moved
              ∙ ap (λ z. all_merged frozen z (heaps_in rs)) (merged_moved te (moved_heap d now) frozen (fits_moved d now frozen now_fits) ∙ moved_twice d te now)
              ∙ m.moved (λ n f. d n f +ℤ te n f)
              ∙ moved_alike _ _ now (λ n f. grouped (d n f) (te n f) (total p frozen (entries_in rs) n f) ∙ ap (λ z. d n f +ℤ z) (sym (total_append p frozen r.entries (entries_in rs) n f)));
        }

  -- ---- the run

  runs_on : (es : List Entry) (h : List Object) (ts rest : List Task) → Climbs es → AllFree es → Good h → Level ts es rest →
      PendingRun p frozen (moved_heap (total p frozen es) h) (task_calls rest) (task_calls (tasks_in es)) h (task_calls ts) (steps_of es)
  runs_on [] h ts rest flat a g level =
      subst (λ z. PendingRun p frozen z (task_calls rest) [] h (task_calls ts) 0) (unmoved h g) (rests (task_calls ts) (level_end ts rest level))
  runs_on (e ∷ es) h ts rest (climbs e2 es2 own up more) (free_and e3 es3 free a) g level =
      let n : ℕ = e.task.op.receiver in
      let may : MayRun p x frozen e.task = free.may_run in
      let s : Split e.task ts = task_waits e es ts rest own up level in
      let o = there h g n (class_there p frozen (call_of e.task) may.typed) in
      let good : GoodObject p x frozen n o.0 = g.objects n o.0 o.1 in
      let m : MovesOn p program roots x is parallel summed frozen heap e o.0 = free.moves o.0 good in
      let next : List Object = slice_set h n m.after in
      let to : next ≡ moved_heap (change_at p frozen e) h = entered p program roots x is parallel summed frozen heap h g e o.0 m.after o.1 m.class m.moved in
      let ends : moved_heap (total p frozen es) next ≡ moved_heap (total p frozen (e ∷ es)) h = ap (λ z. moved_heap (total p frozen es) z) to ∙ moved_twice (change_at p frozen e) (total p frozen es) h in
      let tail : PendingRun p frozen (moved_heap (total p frozen es) next) (task_calls rest) (task_calls (tasks_in es)) next (task_calls (listed_by e ++ s.others)) (steps_of es) =
      runs_on es next (listed_by e ++ s.others) rest more a (entered_good p program roots x is parallel summed frozen heap h g e may o.0 m.after o.1 m.section) (level_on e es ts rest s level) in
      let waiting : task_calls (listed_by e ++ s.others) ≡ invocations_of e.invoked ++ task_calls s.others =
      map-append call_of (listed_by e) s.others ∙ ap (λ is. is ++ task_calls s.others) (sym (listed_calls e)) in
      runs (call_of e.task) (task_calls (tasks_in es)) h (task_calls ts) (task_calls s.others) o.0 (outcome_of e m.after) (steps_of es)
      (split_calls e.task ts s) o.1 m.section
      (subst (λ is. PendingRun p frozen (moved_heap (total p frozen (e ∷ es)) h) (task_calls rest) (task_calls (tasks_in es)) next is (steps_of es)) waiting
      (subst (λ z. PendingRun p frozen z (task_calls rest) (task_calls (tasks_in es)) next (task_calls (listed_by e ++ s.others)) (steps_of es)) ends tail))
    where
      there : (h : List Object) → Good h → (n : ℕ) → (q : Object) × (slice_get frozen n ≡ Some q) → (o : Object) × (slice_get h n ≡ Some o)
      there h g n q = there_too h frozen g.as_many n q.0 q.1

-- replicas that began as the frozen heap are a run
abbrev FromTheFrozenHeap : Type 0
FromTheFrozenHeap =
    (p : PlainProgram) (program : ProgramTyped p) (roots : List OpId) (x : Extent) (is : IsExtentOf p roots x) (parallel : Parallel p x) (summed : (op : OpId) → Contains x.ops op → Summed p x.written op) →
    (frozen now : List Object) → TypedHeap p frozen → StandsFor p x frozen now →
    (rs : List Replica) → All (λ (r : Replica). Replicates p x frozen frozen r.entries r.heap) rs → (first rest : List Task) → AreBalanced (entries_in rs) first rest →
    PendingRun p frozen (all_merged frozen now (heaps_in rs)) (task_calls rest) (task_calls (tasks_in (ordered (entries_in rs)))) now (task_calls first) (steps_of (ordered (entries_in rs)))

pub replicas_run : FromTheFrozenHeap
replicas_run p program roots x is parallel summed frozen now heap stands rs replicate first rest balanced =
    let g : GoodHeap p program roots x is parallel summed frozen heap now = good_heap p program roots x is parallel summed frozen heap now stands in
    let m : MergedTold p program roots x is parallel summed frozen heap now g rs = all_told p program roots x is parallel summed frozen heap now g rs replicate in
    let es : List Entry = entries_in rs in
    let is_none : now ≡ moved_heap (λ n f. pos 0) now = unmoved p program roots x is parallel summed frozen heap now g in
    let end : all_merged frozen now (heaps_in rs) ≡ moved_heap (total p frozen (ordered es)) now =
    ap (λ z. all_merged frozen z (heaps_in rs)) is_none ∙ m.moved (λ n f. pos 0) ∙ moved_alike _ _ now (λ n f. none_plus (total p frozen es n f) ∙ sym (total_ordered p frozen es n f)) in
    subst (λ z. PendingRun p frozen z (task_calls rest) (task_calls (tasks_in (ordered es))) now (task_calls first) (steps_of (ordered es))) (sym end)
    (runs_on p program roots x is parallel summed frozen heap (ordered es) now first rest (climbs_ordered m.own) (free_ordered p program roots x is parallel summed frozen heap m.free) g (level_at_first es first rest balanced))
