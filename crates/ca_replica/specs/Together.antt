-- The sums of all workers, added to a heap, are a run.
use Rattle.std.specs.Prelude.{List, [], ◌∷◌, ◌++◌}
use Rattle.ca_program.specs.declared.program.FieldId.{FieldId}
use Rattle.ca_program.specs.Plain.{PlainProgram}
use Rattle.ca_model.specs.declared.value.Object.{Object}
use Rattle.ca_parallel.specs.Extents.{Extent}
use Rattle.ca_order_laws.specs.Pending.{PendingRun}
use Rattle.ca_order_laws.specs.Order.{StandsFor}
use Rattle.ca_logs.specs.declared.log.Task.{Task}
use Rattle.ca_logs.specs.declared.log.Entry.{Entry}
use Rattle.ca_logs.specs.Entries.{tasks_in, task_calls}
use Rattle.ca_logs.specs.LogOrder.{ordered}
use Rattle.ca_logs.specs.Laws.{steps_of}
use Rattle.ca_beside.specs.declared.beside.Changed.{Changed}
use Rattle.ca_beside.specs.Beside.{AreDistinct}
use Rattle.ca_replica.specs.Zeroed.{zeroed_heap}
use Rattle.ca_sum_laws.specs.Replicas.{AreBalanced, Replicates}
use Rattle.ca_replica.specs.Adding.{added, Once}
use Rattle.ca_replica.specs.Applied.{IsRound, sums}

-- what one worker did: entries, and copies in which they left each sum
pub record Worker (p : PlainProgram) (x : Extent) (frozen : List Object) : Type 0 where
  pub entries : List Entry
  pub copies : List Changed
  pub apart : AreDistinct copies
  pub replicates : Replicates p x frozen (zeroed_heap x.written frozen) entries (sums x.written frozen copies)

abbrev pub all_entries : {p : PlainProgram} {x : Extent} {frozen : List Object} → List (Worker p x frozen) → List Entry
all_entries [] = []
all_entries (w ∷ ws) = w.entries ++ all_entries ws

abbrev pub copies_of : {p : PlainProgram} {x : Extent} {frozen : List Object} → List (Worker p x frozen) → List (List Changed)
copies_of [] = []
copies_of (w ∷ ws) = w.copies ∷ copies_of ws

-- the heap with the sums of one worker after the other
abbrev pub added_one_by_one : List FieldId → List (List Changed) → List Object → List Object
added_one_by_one fs [] h = h
added_one_by_one fs (cs ∷ rest) h = added_one_by_one fs rest (added fs cs h)

abbrev pub all_added : {p : PlainProgram} {x : Extent} {frozen : List Object} → List Object → List (Worker p x frozen) → List Object
all_added {x = x} now ws = added_one_by_one x.written (copies_of ws) now

-- Added to any heap that stands for the frozen one, the sums of all workers make what a run of the pending machine
-- leaves: that of all entries, by clock and object.
abbrev pub SumsAreARun : Type 0
SumsAreARun =
    (p : PlainProgram) (x : Extent) (frozen : List Object) → IsRound p x frozen → Once x.written → (now : List Object) → StandsFor p x frozen now →
    (ws : List (Worker p x frozen)) (first rest : List Task) → AreBalanced (all_entries ws) first rest →
    PendingRun p frozen (all_added now ws) (task_calls rest) (task_calls (tasks_in (ordered (all_entries ws)))) now (task_calls first) (steps_of (ordered (all_entries ws)))
