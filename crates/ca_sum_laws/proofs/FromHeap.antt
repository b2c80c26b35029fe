-- Replicas that began as any heap that stands for the frozen one.
use Rattle.std.proofs.Common.{◌≡◌, ℕ, List, [], ◌∷◌, ◌++◌, map, Some, refl, ap, sym, subst, ◌∙◌, ℤ, ◌+ℤ◌}
use Rattle.std.specs.Prelude.{slice_get, slice_set, Contains, All}
use Rattle.std.proofs.lemmas.List.Elements.{All-head, All-tail, All-cons, All-nil}
use Rattle.ca_program.specs.declared.program.OpId.{OpId}
use Rattle.ca_program.specs.Plain.{PlainProgram}
use Rattle.ca_model.specs.declared.value.Object.{Object}
use Rattle.ca_model.specs.Typed.{TypedHeap}
use Rattle.ca_meaning.specs.Sections.{Outcome}
use Rattle.ca_meaning.specs.WellTyped.{IsTypedObject}
use Rattle.ca_meaning.specs.ProgramTyped.{ProgramTyped}
use Rattle.ca_parallel.specs.Extents.{Extent, IsExtentOf}
use Rattle.ca_parallel.specs.Parallel.{Parallel}
use Rattle.ca_order_laws.specs.Pending.{PendingRun}
use Rattle.ca_order_laws.proofs.Sections.{leaves_one}
use Rattle.ca_order_laws.proofs.Setting.{GoodObject}
use Rattle.ca_order_laws.proofs.Frozen.{there_too}
use Rattle.ca_order_laws.proofs.Places.{one_some}
use Rattle.ca_logs.specs.declared.log.Entry.{Entry}
use Rattle.ca_logs.specs.Entries.{tasks_in, call_of, task_calls}
use Rattle.ca_logs.specs.Legal.{outcome_of}
use Rattle.ca_logs.specs.LogOrder.{ordered}
use Rattle.ca_logs.specs.Laws.{steps_of}
use Rattle.ca_sum_laws.specs.Summed.{Summed}
use Rattle.ca_sum_laws.specs.Moves.{Moved}
use Rattle.ca_sum_laws.specs.Replicas.{Replicates, nothing, one_more, Replica, entries_in, heaps_in, merged, all_merged, AreBalanced, ReplicasAreARun}
use Rattle.ca_sum_laws.proofs.Heaps.{moved_heap, moved_twice, moved_alike, Fits, SameKind, merged_moved, fits_moved, objects_kinds}
use Rattle.ca_sum_laws.proofs.Entering.{change, change_at, total, total_append, Free, MovesOn, free_of, GoodHeap, good_heap, frozen_stands, entered, entered_good}
use Rattle.ca_sum_laws.proofs.Running.{plus_none, unmoved, class_there, Told, told, replicas_run}

module _ (p : PlainProgram) (program : ProgramTyped p) (roots : List OpId) (x : Extent) (is : IsExtentOf p roots x) (parallel : Parallel p x) (summed : (op : OpId) → Contains x.ops op → Summed p x.written op) (frozen : List Object) (heap : TypedHeap p frozen) (base : List Object) where
  abbrev pub Good : List Object → Type 0
  Good h = GoodHeap p program roots x is parallel summed frozen heap h

  -- what a replica says: it moved by the totals of its entries, and a replica of the frozen heap would have moved so
  pub record ToldFrom (es : List Entry) (h : List Object) : Type 0 where
    pub good : Good h
    pub moved : h ≡ moved_heap (total p frozen es) base
    pub frozen_too : Replicates p x frozen frozen es (moved_heap (total p frozen es) frozen)

  still : (h : List Object) → Good h → moved_heap (total p frozen []) h ≡ h
  still h g = sym (unmoved p program roots x is parallel summed frozen heap h g)

  after_total : (es : List Entry) (e : Entry) (h : List Object) → moved_heap (change_at p frozen e) (moved_heap (total p frozen es) h) ≡ moved_heap (total p frozen (es ++ e ∷ [])) h
  after_total es e h = moved_twice (total p frozen es) (change_at p frozen e) h ∙ moved_alike _ _ h (λ n f. sym (total_append p frozen es (e ∷ []) n f ∙ ap (λ z. total p frozen es n f +ℤ z) (plus_none (change_at p frozen e n f))))

  pub told_from : Good base → (es : List Entry) (h : List Object) → Replicates p x frozen base es h → ToldFrom es h
  told_from g es h nothing = record {
    good = g;
    moved = sym (still base g);
    frozen_too = subst (λ z. Replicates p x frozen frozen [] z) (sym (still frozen (frozen_stands p program roots x is parallel summed frozen heap))) nothing;
  }
  told_from g all last (one_more es h e o after before may clock stop found section) =
      let t : ToldFrom es h = told_from g es h before in
      let free : Free p program roots x is parallel summed frozen heap e = free_of p program roots x is parallel summed frozen heap e may o after (t.good.objects e.task.op.receiver o found) section in
      let m : MovesOn p program roots x is parallel summed frozen heap e o = free.moves o (t.good.objects e.task.op.receiver o found) in
      let same : m.after ≡ after = ap (λ (z : Outcome). z.object) (leaves_one p frozen (call_of e.task) o (outcome_of e m.after) (outcome_of e after) m.section section) in
      let h2 : slice_set h e.task.op.receiver after ≡ moved_heap (change_at p frozen e) h =
      entered p program roots x is parallel summed frozen heap h t.good e o after found (subst (λ (z : Object). z.class ≡ o.class) same m.class) (subst (λ (z : Object). Moved (change p frozen e) o.slots z.slots) same m.moved) in
      let k : List Object = moved_heap (total p frozen es) frozen in
      let tk : Told p program roots x is parallel summed frozen heap es k = told p program roots x is parallel summed frozen heap es k t.frozen_too in
      let c = class_there p frozen (call_of e.task) may.typed in
      let q = there_too k frozen tk.good.as_many e.task.op.receiver c.0 c.1 in
      let n : MovesOn p program roots x is parallel summed frozen heap e q.0 = free.moves q.0 (tk.good.objects e.task.op.receiver q.0 q.1) in
      let k2 : slice_set k e.task.op.receiver n.after ≡ moved_heap (change_at p frozen e) k =
      entered p program roots x is parallel summed frozen heap k tk.good e q.0 n.after q.1 n.class n.moved in
      record {
        good = entered_good p program roots x is parallel summed frozen heap h t.good e may o after found section;
        moved = h2 ∙ ap (λ z. moved_heap (change_at p frozen e) z) t.moved ∙ after_total es e base;
        frozen_too = subst (λ z. Replicates p x frozen frozen (es ++ e ∷ []) z) (k2 ∙ after_total es e frozen) (one_more es k e q.0 n.after t.frozen_too may clock stop q.1 n.section);
      }

  -- two good heaps hold numbers in the same places
  pub fits_good : (now h : List Object) → Good now → Good h → Fits now h
  fits_good now h gn gh = record { fit = λ n o e. from n o e (there_again n (there_too frozen now (sym gn.as_many) n o e)) }
    where
      there_again : (n : ℕ) → (q : Object) × (slice_get frozen n ≡ Some q) → (q : Object) × (slice_get h n ≡ Some q)
      there_again n q = there_too h frozen gh.as_many n q.0 q.1

      from : (n : ℕ) (o : Object) → slice_get now n ≡ Some o → (q : Object) × (slice_get h n ≡ Some q) → (q : Object) × (slice_get h n ≡ Some q) × ((f : ℕ) → SameKind (slice_get o.slots f) (slice_get q.slots f))
      from n o e q =
          let a : GoodObject p x frozen n o = gn.objects n o e in
          let b : GoodObject p x frozen n q.0 = gh.objects n q.0 q.1 in
          let same : a.agrees.other ≡ b.agrees.other = one_some _ a.agrees.other b.agrees.other a.agrees.there b.agrees.there in
          let class : (let w : Object = q.0 in w.class) ≡ o.class = b.agrees.agree.class ∙ sym (ap (λ (z : Object). z.class) same) ∙ sym a.agrees.agree.class in
          let tq : IsTypedObject p frozen o.class q.0 = subst (λ c. IsTypedObject p frozen c q.0) class b.typed in
          (q.0, q.1, λ f. objects_kinds frozen (slice_get p.classes o.class.0) o.slots (let w : Object = q.0 in w.slots) a.typed.slots tq.slots f)

  -- the same replica of the frozen heap
  abbrev again : Replica → Replica
  again r = record { entries = r.entries; heap = moved_heap (total p frozen r.entries) frozen }

  pub same_entries : (rs : List Replica) → entries_in (map again rs) ≡ entries_in rs
  same_entries [] = refl
  same_entries (r ∷ rs) = ap (λ z. r.entries ++ z) (same_entries rs)

  pub again_all : Good base → (rs : List Replica) → All (λ (r : Replica). Replicates p x frozen base r.entries r.heap) rs → All (λ (r : Replica). Replicates p x frozen frozen r.entries r.heap) (map again rs)
  again_all g [] a = All-nil (λ (r : Replica). Replicates p x frozen frozen r.entries r.heap)
  again_all g (r ∷ rs) a =
      let t : ToldFrom r.entries r.heap = told_from g r.entries r.heap (All-head (λ (r : Replica). Replicates p x frozen base r.entries r.heap) r rs a) in
      All-cons (λ (r : Replica). Replicates p x frozen frozen r.entries r.heap) (again r) (map again rs) t.frozen_too (again_all g rs (All-tail (λ (r : Replica). Replicates p x frozen base r.entries r.heap) r rs a))

  pub merged_alike : Good base → (now : List Object) → Fits now frozen → Fits now base → (rs : List Replica) → All (λ (r : Replica). Replicates p x frozen base r.entries r.heap) rs → all_merged frozen now (heaps_in (map again rs)) ≡ all_merged base now (heaps_in rs)
  merged_alike g now f b [] a = refl
  merged_alike g now f b (r ∷ rs) a =
      let t : ToldFrom r.entries r.heap = told_from g r.entries r.heap (All-head (λ (r : Replica). Replicates p x frozen base r.entries r.heap) r rs a) in
      let d : ℕ → ℕ → ℤ = total p frozen r.entries in
      let one : merged now base r.heap ≡ moved_heap d now = ap (λ z. merged now base z) t.moved ∙ merged_moved d now base b in
      ap (λ z. all_merged frozen z (heaps_in (map again rs))) (merged_moved d now frozen f)
      ∙ merged_alike g (moved_heap d now) (fits_moved d now frozen f) (fits_moved d now base b) rs (All-tail (λ (r : Replica). Replicates p x frozen base r.entries r.heap) r rs a)
      ∙ ap (λ z. all_merged base z (heaps_in rs)) (sym one)

pub from_any_run : ReplicasAreARun
from_any_run p program roots x is parallel summed frozen base now heap stands_base stands rs replicate first rest balanced =
    let gb : GoodHeap p program roots x is parallel summed frozen heap base = good_heap p program roots x is parallel summed frozen heap base stands_base in
    let gn : GoodHeap p program roots x is parallel summed frozen heap now = good_heap p program roots x is parallel summed frozen heap now stands in
    let gf : GoodHeap p program roots x is parallel summed frozen heap frozen = frozen_stands p program roots x is parallel summed frozen heap in
    let ff = fits_good p program roots x is parallel summed frozen heap base now frozen gn gf in
    let fb = fits_good p program roots x is parallel summed frozen heap base now base gn gb in
    let same = same_entries p program roots x is parallel summed frozen heap base rs in
    let all = again_all p program roots x is parallel summed frozen heap base gb rs replicate in
    let m = merged_alike p program roots x is parallel summed frozen heap base gb now ff fb rs replicate in
    let qs : List Replica = map (λ (r : Replica). record { entries = r.entries; heap = moved_heap (total p frozen r.entries) frozen }) rs in
    let run = replicas_run p program roots x is parallel summed frozen now heap stands qs all first rest (subst (λ es. AreBalanced es first rest) (sym same) balanced) in
    subst (λ z. PendingRun p frozen z (task_calls rest) (task_calls (tasks_in (ordered (entries_in rs)))) now (task_calls first) (steps_of (ordered (entries_in rs)))) m
    (subst (λ es. PendingRun p frozen (all_merged frozen now (heaps_in qs)) (task_calls rest) (task_calls (tasks_in (ordered es))) now (task_calls first) (steps_of (ordered es))) same run)
