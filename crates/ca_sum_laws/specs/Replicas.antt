-- Replicas: what each worker did to a heap of its own, how replicas are merged, and the law that they are a run.
use Rattle.std.specs.Prelude.{suc, ◌≡◌, ◌+ℤ◌, ◌-ℤ◌, List, [], ◌∷◌, ◌++◌, flat_map, map, All, Contains, Some, None, slice_get, slice_set}
use Rattle.std.specs.Int.{int_wrap, w64}
use Rattle.ca_program.specs.declared.program.OpId.{OpId}
use Rattle.ca_program.specs.Plain.{PlainProgram}
use Rattle.ca_model.specs.declared.value.Value.TheVariants.{Long}
use Rattle.ca_model.specs.declared.value.Slot.{Slot}
use Rattle.ca_model.specs.declared.value.Slot.TheVariants.{One}
use Rattle.ca_model.specs.declared.value.Object.{Object}
use Rattle.ca_model.specs.Typed.{TypedHeap}
use Rattle.ca_meaning.specs.Multisets.{SameItems}
use Rattle.ca_meaning.specs.Sections.{Completes}
use Rattle.ca_meaning.specs.WellTyped.{WellTyped}
use Rattle.ca_meaning.specs.ProgramTyped.{ProgramTyped}
use Rattle.ca_parallel.specs.Extents.{Extent, IsExtentOf}
use Rattle.ca_parallel.specs.Parallel.{Parallel}
use Rattle.ca_order_laws.specs.Pending.{PendingRun}
use Rattle.ca_order_laws.specs.Order.{StandsFor}
use Rattle.ca_logs.specs.declared.log.Task.{Task}
use Rattle.ca_logs.specs.declared.log.Entry.{Entry}
use Rattle.ca_logs.specs.Entries.{tasks_in, listed_by, call_of, task_calls}
use Rattle.ca_logs.specs.Legal.{outcome_of}
use Rattle.ca_logs.specs.LogOrder.{ordered}
use Rattle.ca_logs.specs.Laws.{steps_of}
use Rattle.ca_sum_laws.specs.Summed.{Summed}

-- A number as it is now, as it was at first, and as somebody changed it: the difference is added. All else stays.
abbrev pub merged_slot : Slot → Slot → Slot → Slot
merged_slot (One (Long n)) (One (Long a)) (One (Long b)) = One (Long (int_wrap w64 (n +ℤ (b -ℤ a))))
merged_slot s first changed = s

abbrev pub merged_slots : List Slot → List Slot → List Slot → List Slot
merged_slots (s ∷ ss) (a ∷ qs) (b ∷ bs) = merged_slot s a b ∷ merged_slots ss qs bs
merged_slots ss first changed = ss

abbrev pub merged_object : Object → Object → Object → Object
merged_object o a b = record { class = o.class; slots = merged_slots o.slots a.slots b.slots }

-- the heap as it is now, with all that a replica changed since it began as the first heap
abbrev pub merged : List Object → List Object → List Object → List Object
merged (o ∷ os) (a ∷ qs) (b ∷ bs) = merged_object o a b ∷ merged os qs bs
merged os first replica = os

abbrev pub all_merged : List Object → List Object → List (List Object) → List Object
all_merged first now [] = now
all_merged first now (r ∷ rs) = all_merged first (merged now first r) rs

module _ (p : PlainProgram) (x : Extent) (frozen : List Object) where
  -- the task may run in the round
  pub record MayRun (t : Task) : Type 0 where
    pub typed : WellTyped p frozen (call_of t)
    pub inside : Contains x.ops t.op.op

module _ (p : PlainProgram) (x : Extent) (frozen base : List Object) where
  -- The entries are complete sections, one after the other, each on its receiver as those before it left it, from the
  -- first heap to this one. All else they read in the frozen heap. Each has the clock behind that of its task.
  pub data Replicates : List Entry → List Object → Type 0 where
    nothing : Replicates [] base
    one_more : (es : List Entry) (h : List Object) (e : Entry) (o after : Object) → Replicates es h → MayRun p x frozen e.task → e.clock ≡ suc e.task.after → e.stop ≡ None →
        slice_get h e.task.op.receiver ≡ Some o → Completes p frozen e.task.op.receiver o e.task.op.op e.task.op.args (outcome_of e after) →
        Replicates (es ++ e ∷ []) (slice_set h e.task.op.receiver after)

-- what a worker did, and its heap
pub record Replica : Type 0 where
  pub entries : List Entry
  pub heap : List Object

abbrev pub entries_in : List Replica → List Entry
entries_in rs = flat_map (λ (r : Replica). r.entries) rs

abbrev pub heaps_in : List Replica → List (List Object)
heaps_in rs = map (λ (r : Replica). r.heap) rs

-- each task ran once or waits once: no task is lost, and none comes from nowhere
abbrev pub AreBalanced : List Entry → List Task → List Task → Type 0
AreBalanced es first rest = SameItems (tasks_in es ++ rest) (first ++ flat_map listed_by es)

-- Replicas of a summed extent that began as a heap that stands for the frozen one, with what changed in them merged into
-- any heap that does, leave what a run of the pending machine leaves: that of all entries, by clock and object.
abbrev pub ReplicasAreARun : Type 0
ReplicasAreARun =
    (p : PlainProgram) → ProgramTyped p → (roots : List OpId) (x : Extent) → IsExtentOf p roots x → Parallel p x →
    ((op : OpId) → Contains x.ops op → Summed p x.written op) →
    (frozen base now : List Object) → TypedHeap p frozen → StandsFor p x frozen base → StandsFor p x frozen now →
    (rs : List Replica) → All (λ (r : Replica). Replicates p x frozen base r.entries r.heap) rs →
    (first rest : List Task) → AreBalanced (entries_in rs) first rest →
    PendingRun p frozen (all_merged base now (heaps_in rs)) (task_calls rest) (task_calls (tasks_in (ordered (entries_in rs)))) now (task_calls first) (steps_of (ordered (entries_in rs)))
