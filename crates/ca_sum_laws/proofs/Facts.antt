-- What entries of a replica say of the frozen object.
use Rattle.std.proofs.Common.{List, [], ◌∷◌, subst, ⊎_elim}
use Rattle.std.specs.Prelude.{Contains}
use Rattle.std.proofs.lemmas.List.Elements.{Contains-append_cases}
use Rattle.ca_lists.proofs.Members.{has_nothing, has_only}
use Rattle.ca_program.specs.declared.program.OpId.{OpId}
use Rattle.ca_program.specs.Plain.{PlainProgram}
use Rattle.ca_model.specs.declared.value.Object.{Object}
use Rattle.ca_model.specs.Typed.{TypedHeap}
use Rattle.ca_meaning.specs.ProgramTyped.{ProgramTyped}
use Rattle.ca_parallel.specs.Extents.{Extent, IsExtentOf}
use Rattle.ca_parallel.specs.Parallel.{Parallel}
use Rattle.ca_logs.specs.declared.log.Entry.{Entry}
use Rattle.ca_logs.specs.Entries.{call_of}
use Rattle.ca_sum_laws.specs.Summed.{Summed}
use Rattle.ca_sum_laws.specs.Facts.{EntriesRanOnTheFrozenObjects}
use Rattle.ca_sum_laws.proofs.Heaps.{moved_heap}
use Rattle.ca_sum_laws.proofs.Entering.{total, Free, MovesOn, GoodHeap, good_heap, frozen_stands}
use Rattle.ca_sum_laws.proofs.FromHeap.{ToldFrom, told_from}
use Rattle.ca_sum_laws.proofs.Running.{AllFree, none_free, free_and, Told, told, class_there}

module _ (p : PlainProgram) (program : ProgramTyped p) (roots : List OpId) (x : Extent) (is : IsExtentOf p roots x) (parallel : Parallel p x) (summed : (op : OpId) → Contains x.ops op → Summed p x.written op) (frozen : List Object) (heap : TypedHeap p frozen) where
  free_at : {es : List Entry} → AllFree p program roots x is parallel summed frozen heap es → (e : Entry) → Contains es e → Free p program roots x is parallel summed frozen heap e
  free_at none_free e c = absurd (has_nothing e c)
  free_at (free_and y es f a) e c = ⊎_elim (λ b. subst (λ z. Free p program roots x is parallel summed frozen heap z) (has_only y e b) f) (λ b. free_at a e b) (Contains-append_cases (y ∷ []) es e c)

pub ran_on_frozen : EntriesRanOnTheFrozenObjects
ran_on_frozen p program roots x is parallel summed frozen base heap standing es h r e c =
    let gb : GoodHeap p program roots x is parallel summed frozen heap base = good_heap p program roots x is parallel summed frozen heap base standing in
    let tf : ToldFrom p program roots x is parallel summed frozen heap base es h = told_from p program roots x is parallel summed frozen heap base gb es h r in
    let t : Told p program roots x is parallel summed frozen heap es (moved_heap (total p frozen es) frozen) = told p program roots x is parallel summed frozen heap es (moved_heap (total p frozen es) frozen) tf.frozen_too in
    let f : Free p program roots x is parallel summed frozen heap e = free_at p program roots x is parallel summed frozen heap t.free e c in
    let q = class_there p frozen (call_of e.task) f.may_run.typed in
    let g : GoodHeap p program roots x is parallel summed frozen heap frozen = frozen_stands p program roots x is parallel summed frozen heap in
    let m : MovesOn p program roots x is parallel summed frozen heap e q.0 = f.moves q.0 (g.objects e.task.op.receiver q.0 q.1) in
    record { object = q.0; after = m.after; there = q.1; section = m.section }
