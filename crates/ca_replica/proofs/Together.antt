-- The sums of all workers are a run.
use Rattle.std.proofs.Common.{◌≡◌, ℕ, suc, List, [], ◌∷◌, ◌++◌, map, length, Option, Some, None, refl, ap, sym, subst, ◌∙◌, ℤ, pos, ⊎_elim}
use Rattle.std.specs.Prelude.{slice_get, Contains, All}
use Rattle.std.proofs.lemmas.List.Elements.{All-cons, All-nil, Contains-append_cases}
use Rattle.ca_lists.proofs.Members.{has_nothing, has_only}
use Rattle.ca_program.specs.declared.program.ClassId.{ClassId}
use Rattle.ca_program.specs.declared.program.FieldId.{FieldId}
use Rattle.ca_program.specs.Plain.{PlainProgram}
use Rattle.ca_model.specs.declared.value.Object.{Object}
use Rattle.ca_meaning.specs.WellTyped.{IsTypedObject}
use Rattle.ca_parallel.specs.Extents.{Extent}
use Rattle.ca_order_laws.specs.Pending.{PendingRun}
use Rattle.ca_order_laws.specs.Order.{StandsFor}
use Rattle.ca_order_laws.proofs.Places.{one_some}
use Rattle.ca_order_laws.proofs.Setting.{GoodObject}
use Rattle.ca_logs.specs.declared.log.Task.{Task}
use Rattle.ca_logs.specs.Entries.{tasks_in, task_calls}
use Rattle.ca_logs.specs.LogOrder.{ordered}
use Rattle.ca_logs.specs.Laws.{steps_of}
use Rattle.ca_beside.specs.declared.beside.Changed.{Changed}
use Rattle.ca_beside.specs.Beside.{AreDistinct}
use Rattle.ca_beside.proofs.Present.{present_at}
use Rattle.ca_sum_laws.specs.Moves.{plus, Still}
use Rattle.ca_sum_laws.specs.Replicas.{Replicates, Replica, entries_in, heaps_in, merged, all_merged, AreBalanced}
use Rattle.ca_sum_laws.proofs.Slots.{plus_plus}
use Rattle.ca_sum_laws.proofs.Heaps.{moved_heap, moved_at, moved_option, moved_object, moved_slot_at, Fits, SameKind, merged_moved, fits_moved, objects_kinds, Still as StillOne}
use Rattle.ca_sum_laws.proofs.Entering.{total, GoodHeap, good_heap, frozen_stands, still_at}
use Rattle.ca_sum_laws.proofs.Running.{plus_none}
use Rattle.ca_replica.specs.Zeroed.{number_at, zeroed, zeroed_heap}
use Rattle.ca_sum_laws.proofs.FromHeap.{ToldFrom, told_from, fits_good, from_any_run}
use Rattle.ca_replica.specs.Adding.{added, Absent, Once, IsCopy, IsWhole, AreWhole}
use Rattle.ca_replica.specs.Applied.{IsRound, sums}
use Rattle.ca_replica.specs.Together.{Worker, all_entries, all_added, SumsAreARun}
use Rattle.ca_replica.proofs.Beginning.{no_sums_stand}
use Rattle.ca_replica.proofs.Copying.{zeroed_at}
use Rattle.ca_replica.proofs.Sums.{numbered, adding_merges}
use Rattle.ca_replica.proofs.Taking.{moved_whole, each_whole}

absent_free : (fs : List FieldId) (c : ClassId) (g : ℕ) → Absent fs c g → ¬ Contains fs (record { class = c; field = g })
absent_free [] c g a k = has_nothing _ k
absent_free (f ∷ fs) c g a k = ⊎_elim
    (λ b. let e = has_only f (record { class = c; field = g }) b in a.0 (ap (λ (z : FieldId). z.class.0) e, ap (λ (z : FieldId). z.field) e))
    (λ b. absent_free fs c g a.1 b) (Contains-append_cases (f ∷ []) fs _ k)

moved_many : (d : ℕ → ℕ → ℤ) (h : List Object) → length (moved_heap d h) ≡ length h
moved_many d [] = refl
moved_many d (o ∷ h) = ap suc (moved_many (λ n. d (suc n)) h)

moved_still : (d : ℕ → ℕ → ℤ) (h : List Object) (n : ℕ) (o : Object) → slice_get (moved_heap d h) n ≡ Some o → Still o
moved_still d h n o e = from (slice_get h n) (sym (moved_at d h n) ∙ e)
  where
    from : (z : Option Object) → moved_option (d n) z ≡ Some o → Still o
    from None m = cc
    from (Some y) m =
        let same : moved_object (d n) y ≡ o = cc in
        subst (λ (z : Object). Still z) same (λ f.
        let at = moved_slot_at (d n) y.slots f in
        ap (λ s. plus s (pos 0)) at ∙ plus_plus (slice_get y.slots f) (d n f) (pos 0) ∙ ap (λ z. plus (slice_get y.slots f) z) (plus_none (d n f)) ∙ sym at)

module _ (p : PlainProgram) (x : Extent) (frozen : List Object) (round : IsRound p x frozen) (once : Once x.written) where
  abbrev Good : List Object → Type 0
  Good h = GoodHeap p round.program round.roots x round.is round.parallel round.summed frozen round.heap h

  abbrev first_sums : List Object
  first_sums = zeroed_heap x.written frozen

  good_of : (h : List Object) → StandsFor p x frozen h → Good h
  good_of h s = good_heap p round.program round.roots x round.is round.parallel round.summed frozen round.heap h s

  good_base : Good first_sums
  good_base = good_of first_sums (no_sums_stand p x frozen round.heap)

  good_frozen : Good frozen
  good_frozen = frozen_stands p round.program round.roots x round.is round.parallel round.summed frozen round.heap

  -- each copy of a good replica is one
  copies : (cs : List Changed) → AreDistinct cs → Good (sums x.written frozen cs) → (i : ℕ) (c : Changed) → slice_get cs i ≡ Some c → (first : Object) → slice_get frozen c.number ≡ Some first → IsCopy x.written first c.object
  copies cs apart g i c e first there =
      let at : slice_get (sums x.written frozen cs) c.number ≡ Some c.object = present_at first_sums cs apart i c e (zeroed x.written first) (zeroed_at x.written frozen c.number first there) in
      let a : GoodObject p x frozen c.number c.object = g.objects c.number c.object at in
      let b : GoodObject p x frozen c.number first = good_frozen.objects c.number first there in
      let same : a.agrees.other ≡ first = one_some _ a.agrees.other first a.agrees.there there in
      let class : (let z : Object = c.object in z.class) ≡ first.class = a.agrees.agree.class ∙ ap (λ (z : Object). z.class) same in
      let t : IsTypedObject p frozen first.class c.object = subst (λ k. IsTypedObject p frozen k c.object) class a.typed in
      record {
        class = class;
        constants = λ k away. a.agrees.agree.constants record { class = first.class; field = k } (sym class) (absent_free x.written first.class k away) ∙ ap (λ (z : Object). slice_get z.slots k) same;
        numbers = λ k n is.
            let s : SameKind (slice_get (let z : Object = c.object in z.slots) k) (slice_get first.slots k) = objects_kinds frozen (slice_get p.classes first.class.0) (let z : Object = c.object in z.slots) first.slots t.slots b.typed.slots k in
            let m = s.number n (numbered (slice_get (let z : Object = c.object in z.slots) k) n is) in
            (m.0, ap number_at m.1);
      }

  -- the copies that a worker left are whole
  one_whole : (w : Worker p x frozen) (i : ℕ) (c : Changed) → slice_get w.copies i ≡ Some c → (first : Object) → slice_get frozen c.number ≡ Some first → IsWhole x.written first c.object
  one_whole w i c e first there =
      let t : ToldFrom p round.program round.roots x round.is round.parallel round.summed frozen round.heap first_sums w.entries (sums x.written frozen w.copies) =
      told_from p round.program round.roots x round.is round.parallel round.summed frozen round.heap first_sums good_base w.entries (sums x.written frozen w.copies) w.replicates in
      let d : ℕ → ℕ → ℤ = total p frozen w.entries in
      let began : Object = zeroed x.written first in
      let moved : Object = moved_object (d c.number) began in
      let base : slice_get first_sums c.number ≡ Some began = zeroed_at x.written frozen c.number first there in
      let left : slice_get (sums x.written frozen w.copies) c.number ≡ Some c.object = present_at first_sums w.copies w.apart i c e began base in
      let there_too : slice_get (moved_heap d first_sums) c.number ≡ Some moved = moved_at d first_sums c.number ∙ ap (moved_option (d c.number)) base in
      let left_too : slice_get (moved_heap d first_sums) c.number ≡ Some c.object = ap (λ (h : List Object). slice_get h c.number) (sym t.moved) ∙ left in
      moved_whole x.written once first c.object (d c.number) (copies w.copies w.apart t.good i c e first there) (one_some (slice_get (moved_heap d first_sums) c.number) moved c.object there_too left_too)

  pub whole_here : (w : Worker p x frozen) → AreWhole x.written frozen w.copies
  whole_here w = each_whole x.written frozen w.copies (one_whole w)

  abbrev as_replica : Worker p x frozen → Replica
  as_replica w = record { entries = w.entries; heap = sums x.written frozen w.copies }

  same_entries : (ws : List (Worker p x frozen)) → entries_in (map as_replica ws) ≡ all_entries ws
  same_entries [] = refl
  same_entries (w ∷ ws) = ap (λ z. w.entries ++ z) (same_entries ws)

  all_replicate : (ws : List (Worker p x frozen)) → All (λ (r : Replica). Replicates p x frozen first_sums r.entries r.heap) (map as_replica ws)
  all_replicate [] = All-nil (λ (r : Replica). Replicates p x frozen first_sums r.entries r.heap)
  all_replicate (w ∷ ws) = All-cons (λ (r : Replica). Replicates p x frozen first_sums r.entries r.heap) (as_replica w) (map as_replica ws) w.replicates (all_replicate ws)

  all_alike : (now : List Object) → length now ≡ length frozen → ((n : ℕ) (o : Object) → slice_get now n ≡ Some o → Still o) → Fits now first_sums → (ws : List (Worker p x frozen)) → all_added now ws ≡ all_merged first_sums now (heaps_in (map as_replica ws))
  all_alike now many still fits [] = refl
  all_alike now many still fits (w ∷ ws) =
      let t : ToldFrom p round.program round.roots x round.is round.parallel round.summed frozen round.heap first_sums w.entries (sums x.written frozen w.copies) =
      told_from p round.program round.roots x round.is round.parallel round.summed frozen round.heap first_sums good_base w.entries (sums x.written frozen w.copies) w.replicates in
      let d : ℕ → ℕ → ℤ = total p frozen w.entries in
      let one : added x.written w.copies now ≡ merged now first_sums (sums x.written frozen w.copies) = adding_merges x.written once frozen now many still w.copies w.apart (copies w.copies w.apart t.good) in
      let to : merged now first_sums (sums x.written frozen w.copies) ≡ moved_heap d now = ap (λ z. merged now first_sums z) t.moved ∙ merged_moved d now first_sums fits in
      ap (λ z. all_added z ws) (one ∙ to)
      ∙ all_alike (moved_heap d now) (moved_many d now ∙ many) (moved_still d now) (fits_moved d now first_sums fits) ws
      ∙ ap (λ z. all_merged first_sums z (heaps_in (map as_replica ws))) (sym to)

  still_in : (now : List Object) → Good now → (n : ℕ) (o : Object) → slice_get now n ≡ Some o → Still o
  still_in now g n o e = from (slice_get now n) e (still_at p round.program round.roots x round.is round.parallel round.summed frozen round.heap now g n)
    where
      from : (z : Option Object) → z ≡ Some o → StillOne z → Still o
      from None m t = cc
      from (Some y) m t = let same : y ≡ o = cc in subst (λ (z : Object). Still z) same t

  pub sums_run_here : (now : List Object) → StandsFor p x frozen now → (ws : List (Worker p x frozen)) (first rest : List Task) → AreBalanced (all_entries ws) first rest → PendingRun p frozen (all_added now ws) (task_calls rest) (task_calls (tasks_in (ordered (all_entries ws)))) now (task_calls first) (steps_of (ordered (all_entries ws)))
  sums_run_here now standing ws first rest balanced =
      let g : Good now = good_of now standing in
      let e = same_entries ws in
      let fits : Fits now first_sums = fits_good p round.program round.roots x round.is round.parallel round.summed frozen round.heap first_sums now first_sums g good_base in
      let run = from_any_run p round.program round.roots x round.is round.parallel round.summed frozen first_sums now round.heap (no_sums_stand p x frozen round.heap) standing (map as_replica ws) (all_replicate ws) first rest (subst (λ es. AreBalanced es first rest) (sym e) balanced) in
      subst (λ z. PendingRun p frozen z (task_calls rest) (task_calls (tasks_in (ordered (all_entries ws)))) now (task_calls first) (steps_of (ordered (all_entries ws)))) (sym (all_alike now g.as_many (still_in now g) fits ws))
      (subst (λ es. PendingRun p frozen (all_merged first_sums now (heaps_in (map as_replica ws))) (task_calls rest) (task_calls (tasks_in (ordered es))) now (task_calls first) (steps_of (ordered es))) e run)

pub sums_run : SumsAreARun
sums_run p x frozen round once now standing ws first rest balanced = sums_run_here p x frozen round once now standing ws first rest balanced
