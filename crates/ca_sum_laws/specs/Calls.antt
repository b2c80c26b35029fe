-- A call with all that it leads to, run in place, and the law that it is entries.
use Rattle.std.specs.Prelude.{ℕ, ◌≡◌, ◌<◌, List, [], ◌∷◌, ◌++◌, length, flat_map, Contains}
use Rattle.ca_program.specs.declared.program.OpId.{OpId}
use Rattle.ca_program.specs.Plain.{PlainProgram}
use Rattle.ca_model.specs.declared.value.Object.{Object}
use Rattle.ca_model.specs.Typed.{TypedHeap}
use Rattle.ca_meaning.specs.Multisets.{SameItems}
use Rattle.ca_meaning.specs.ProgramTyped.{ProgramTyped}
use Rattle.ca_parallel.specs.Calls.{RunsTo}
use Rattle.ca_parallel.specs.Extents.{Extent, IsExtentOf}
use Rattle.ca_parallel.specs.Parallel.{Parallel}
use Rattle.ca_order_laws.specs.Order.{StandsFor}
use Rattle.ca_logs.specs.declared.log.Task.{Task}
use Rattle.ca_logs.specs.declared.log.Entry.{Entry}
use Rattle.ca_logs.specs.Entries.{tasks_in, listed_by, call_of}
use Rattle.ca_logs.specs.Laws.{steps_of}
use Rattle.ca_sum_laws.specs.Summed.{Summed}
use Rattle.ca_sum_laws.specs.Replicas.{MayRun, Replicates}

-- What a task led to, from one heap to another. Whatever entries led to the heap before, with these behind them they lead to the
-- heap after. Each ran the task itself or one that another of them lists, and all of these ran, each once. So nothing is left.
pub record Led (p : PlainProgram) (x : Extent) (frozen : List Object) (t : Task) (h after : List Object) (steps : ℕ) : Type 0 where
  pub entries : List Entry
  pub some : 0 < length entries
  pub further : (base : List Object) (es : List Entry) → Replicates p x frozen base es h → Replicates p x frozen base (es ++ entries) after
  pub once : SameItems (tasks_in entries) (t ∷ flat_map listed_by entries)
  pub steps_are : steps_of entries ≡ steps
  pub stands : StandsFor p x frozen after

-- A call whose serial run is done, from a heap that stands for the frozen one, led to what that run leaves.
abbrev pub CallsLead : Type 0
CallsLead =
    (p : PlainProgram) → ProgramTyped p → (roots : List OpId) (x : Extent) → IsExtentOf p roots x → Parallel p x →
    ((op : OpId) → Contains x.ops op → Summed p x.written op) → (frozen h : List Object) → TypedHeap p frozen → StandsFor p x frozen h →
    (t : Task) → MayRun p x frozen t → (budget : ℕ) (after : List Object) (steps : ℕ) → RunsTo p h (call_of t ∷ []) budget after steps →
    Led p x frozen t h after steps
