-- What entries of a replica say of the frozen object.
use Rattle.std.specs.Prelude.{◌≡◌, List, Contains, Some, slice_get}
use Rattle.ca_program.specs.declared.program.OpId.{OpId}
use Rattle.ca_program.specs.Plain.{PlainProgram}
use Rattle.ca_model.specs.declared.value.Object.{Object}
use Rattle.ca_model.specs.Typed.{TypedHeap}
use Rattle.ca_meaning.specs.Sections.{Completes}
use Rattle.ca_meaning.specs.ProgramTyped.{ProgramTyped}
use Rattle.ca_parallel.specs.Extents.{Extent, IsExtentOf}
use Rattle.ca_parallel.specs.Parallel.{Parallel}
use Rattle.ca_order_laws.specs.Order.{StandsFor}
use Rattle.ca_logs.specs.declared.log.Entry.{Entry}
use Rattle.ca_logs.specs.Legal.{outcome_of}
use Rattle.ca_sum_laws.specs.Summed.{Summed}
use Rattle.ca_sum_laws.specs.Replicas.{Replicates}

-- the entry is the complete section of its task on the frozen object
pub record OnFrozen (p : PlainProgram) (frozen : List Object) (e : Entry) : Type 0 where
  pub object : Object
  pub after : Object
  pub there : slice_get frozen e.task.op.receiver ≡ Some object
  pub section : Completes p frozen e.task.op.receiver object e.task.op.op e.task.op.args (outcome_of e after)

-- Entries that ran on copies are the complete sections of their tasks on the frozen objects.
abbrev pub EntriesRanOnTheFrozenObjects : Type 0
EntriesRanOnTheFrozenObjects =
    (p : PlainProgram) → ProgramTyped p → (roots : List OpId) (x : Extent) → IsExtentOf p roots x → Parallel p x →
    ((op : OpId) → Contains x.ops op → Summed p x.written op) → (frozen base : List Object) → TypedHeap p frozen → StandsFor p x frozen base →
    (es : List Entry) (h : List Object) → Replicates p x frozen base es h → (e : Entry) → Contains es e → OnFrozen p frozen e
