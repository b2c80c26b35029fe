-- Depth first: the serial run is a complete run of the pending machine, and each complete run ends as it does.
use Rattle.std.proofs.Common.{◌≡◌, ℕ, suc, ◌+◌, ◌-◌, ◌≤◌, List, [], ◌∷◌, length, Option, Some, None, refl, ap, sym, subst, ◌∙◌, arith}
use Rattle.std.specs.Prelude.{slice_get, slice_set}
use Rattle.ca_program.specs.declared.program.ClassId.{ClassId}
use Rattle.ca_program.specs.declared.program.OpId.{OpId}
use Rattle.ca_program.specs.Plain.{PlainProgram, PlainMethod}
use Rattle.ca_model.specs.declared.value.Value.{Value as Datum}
use Rattle.ca_model.specs.declared.value.Object.{Object}
use Rattle.ca_model.specs.Typed.{IsOfClass, TypedHeap}
use Rattle.ca_meaning.specs.Expressions.{Invocation}
use Rattle.ca_meaning.specs.Flows.{goes_on}
use Rattle.ca_meaning.specs.Serial.{World, Note, fresh, in_heap, run_call, operations_of, serial_ops}
use Rattle.ca_meaning.specs.Sections.{Outcome, done, sectioned, section}
use Rattle.ca_meaning.specs.WellTyped.{CallTyped, WellTyped}
use Rattle.ca_meaning.specs.ProgramTyped.{ProgramTyped}
use Rattle.ca_meaning_laws.specs.Budgets.{on_with, Reaches, Reached}
use Rattle.ca_meaning_laws.proofs.SerialTypes.{well_kept}
use Rattle.ca_meaning_laws.proofs.Steady.{SteadyFlow}
use Rattle.ca_meaning_laws.proofs.Bigs.{serial_call_steady, serial_ops_steady}
use Rattle.ca_parallel.specs.Extents.{Extent, IsExtentOf}
use Rattle.ca_parallel.specs.Parallel.{Parallel}
use Rattle.ca_parallel.specs.Calls.{RunsTo}
use Rattle.ca_parallel.proofs.Moved.{moved, shifted, serial_ops_moved}
use Rattle.ca_order_laws.specs.Pending.{Leaves, PendingRun, CompleteRun}
use Rattle.ca_order_laws.specs.Order.{StandsFor, DepthFirst}
use Rattle.ca_order_laws.proofs.Runs.{ends_same}
use Rattle.ca_order_laws.proofs.Frozen.{any_frozen_heap}
use Rattle.ca_order_laws.proofs.Diamond.{Setting, Fine}
use Rattle.ca_order_laws.proofs.Standing.{extends_frozen, stands_good}
use Rattle.ca_order_laws.proofs.DepthFirst.{Ended, Complete, Parted, SectionsThenLists, serial_completes, completes_serial}
use Rattle.ca_order_laws.proofs.Sections.{object_with, outcome, LeavesBy, leaves_by, leaves_steps}
use Rattle.ca_order_laws.proofs.Setting.{GoodCall, GoodObject, method_of, setting, fine}
use Rattle.ca_order_laws.proofs.CallThenList.{SectionRest, call_first, call_then}

-- ---- calls, seen from the setting

module _ (p : PlainProgram) (program : ProgramTyped p) (roots : List OpId) (x : Extent) (is : IsExtentOf p roots x) (parallel : Parallel p x) (frozen : List Object) (heap : TypedHeap p frozen) where
  abbrev at : Setting p frozen (GoodCall p x frozen) (GoodObject p x frozen)
  at = setting p program roots x is parallel frozen heap

  module _ (w : World) (a : Invocation) (f : Fine at w.heap (a ∷ [])) where
    stands : StandsFor p x frozen w.heap
    stands = stands_good p x frozen w.heap f.size f.objects

    good : GoodCall p x frozen a
    good = f.ops a (record { others = []; same = record { weighed = λ g. refl } })

    well_here : WellTyped p w.heap a
    well_here = (well_kept p frozen w.heap (extends_frozen p x frozen w.heap f.size f.objects) (a ∷ []) (good.typed, tt)).0

    -- the section in the frozen heap is the one in the heap as it is
    same_section : (o : Object) → GoodObject p x frozen a.receiver o → (k : ℕ) → section p w.heap a.receiver o a.op a.arguments k ≡ section p frozen a.receiver o a.op a.arguments k
    same_section o ob k = any_frozen_heap p program x frozen w.heap heap stands a (parallel.separable a.op good.inside) good.typed o.class (method_of p x.written frozen a o ob.agrees good.typed) o ob.typed k

  found_object : (h : List Object) (a : Invocation) → WellTyped p h a → (o : Object) × (slice_get h a.receiver ≡ Some o)
  found_object h a well = from (slice_get p.ops a.op.0) well
    where
      here : (z : Option Object) (c : ClassId) → IsOfClass z c → (o : Object) × (z ≡ Some o)
      here None c t = absurd t
      here (Some o) c t = (o, refl)

      from : (m : Option PlainMethod) → CallTyped h m a.receiver a.arguments → (o : Object) × (slice_get h a.receiver ≡ Some o)
      from None t = absurd t
      from (Some m) t = here (slice_get h a.receiver) m.class t.0

  parted : (w : World) (a : Invocation) (k : ℕ) (v : World) (left : ℕ) → Fine at w.heap (a ∷ []) → run_call (operations_of p) [] a w k ≡ goes_on [] v left → Parted at w a k v left
  parted w a k v left f e =
      let found = found_object w.heap a (well_here w a f) in
      let o : Object = found.0 in
      let st : StandsFor p x frozen w.heap = stands w a f in
      let steady : SteadyFlow (suc k) (λ k. run_call (operations_of p) [] a w k) = serial_call_steady p [] a w k in
      let n : Reached (λ k. run_call (operations_of p) [] a w k) (on_with [] v) k left = steady.reached k (omega arith) (on_with [] v) left e in
      let g : GoodCall p x frozen a = good w a f in
      let r : SectionRest p w a o v n.s = call_first p program roots x is w st.heap a g.inside (parallel.separable a.op g.inside) o found.1 (well_here w a f) v n.s n.reaches in
      let m : Outcome = record { object = object_with o r.section.own; listed = r.section.listed; steps = r.s } in
      let complete : section p w.heap a.receiver o a.op a.arguments (r.s + 0) ≡ done m =
      ap (λ f. sectioned o.class (r.s + 0) f) (r.reaches.at 0) ∙ ap (λ n. done (outcome (object_with o r.section.own) r.section.listed n)) (let z : (r.s + 0) - 0 ≡ r.s = omega arith in z) in
      let sum = r.sum in let taken = n.is in
      record {
        o = o;
        r = m;
        rest = r.t + left;
        found = found.1;
        section = (r.s + 0, sym (same_section w a f o (f.objects a.receiver o found.1) (r.s + 0)) ∙ complete);
        steps = omega arith;
        listed = r.rest.at left;
      }

  joined_call : (w : World) (a : Invocation) (o : Object) (r : Outcome) (rest : ℕ) (v : World) (left : ℕ) → Fine at w.heap (a ∷ []) → slice_get w.heap a.receiver ≡ Some o → Leaves p frozen a o r → serial_ops p r.listed (in_heap w (slice_set w.heap a.receiver r.object)) rest ≡ goes_on [] v left → run_call (operations_of p) [] a w (r.steps + rest) ≡ goes_on [] v left
  joined_call w a o r rest v left f found leaves list =
      let st : StandsFor p x frozen w.heap = stands w a f in
      let g : GoodCall p x frozen a = good w a f in
      let by : LeavesBy p w.heap a o r = leaves_by p w.heap a o r (leaves.0, same_section w a f o (f.objects a.receiver o found) leaves.0 ∙ leaves.1) in
      let after : World = in_heap w (slice_set w.heap a.receiver (object_with o by.section.own)) in
      let list2 : serial_ops p by.section.listed after rest ≡ goes_on [] v left =
      ap (λ l. serial_ops p l after rest) (sym by.listed) ∙ ap (λ q. serial_ops p r.listed (in_heap w (slice_set w.heap a.receiver q)) rest) (sym by.object) ∙ list in
      let steady : SteadyFlow (suc rest) (λ k. serial_ops p by.section.listed after k) = serial_ops_steady p by.section.listed after rest in
      let n : Reached (λ k. serial_ops p by.section.listed after k) (on_with [] v) rest left = steady.reached rest (omega arith) (on_with [] v) left list2 in
      let call : Reaches (λ k. run_call (operations_of p) [] a w k) (on_with [] v) (r.steps + n.s) = call_then p program roots x is w st.heap a g.inside (parallel.separable a.op g.inside) o found (well_here w a f) by.locals by.section r.steps v n.s by.reaches n.reaches in
      let taken = n.is in
      ap (λ k. run_call (operations_of p) [] a w k) (let z : r.steps + rest ≡ (r.steps + n.s) + left = omega arith in z) ∙ call.at left

  law : SectionsThenLists at
  law = record { parts = parted; joins = joined_call; counts = λ a o r leaves. leaves_steps p frozen a o r leaves }

-- nothing in the serial meaning takes a note
no_notes : (p : PlainProgram) (is : List Invocation) (h : List Object) (k : ℕ) (v : World) (j : ℕ) → serial_ops p is (fresh h) k ≡ goes_on [] v j → v.notes ≡ []
no_notes p is h k v j e = notes_same (ap (λ o. moved (λ ps. ps) (λ ns. []) o) (sym e) ∙ serial_ops_moved (λ ps. ps) (λ ns. []) (λ ps v. refl) p is (fresh h) k ∙ e)
  where
    notes_same : goes_on [] (shifted (λ ps. ps) (λ ns. []) v) j ≡ goes_on [] v j → v.notes ≡ []
    notes_same q = sym (ap (λ (w : World). w.notes) (ends_same q))

abbrev world_with : List Object → List Datum → List Note → World
world_with h ps ns = record { heap = h; prints = ps; notes = ns }

pub depth_first : DepthFirst
depth_first p program roots x is parallel h heap ops typed inside budget last steps = (forth, back)
  where
    self : StandsFor p x h h
    self = record { heap = heap; agree = record { as_many = refl; each = λ n o e. record { other = o; there = e; agree = record { class = refl; constants = λ f c free. refl } } } }

    forth : RunsTo p h ops budget last steps → (steps ≤ budget) × CompleteRun p h h ops last steps
    forth r =
        let c : Complete (setting p program roots x is parallel h heap) h ops budget last r.left =
        serial_completes (setting p program roots x is parallel h heap) (law p program roots x is parallel h heap) budget budget (omega arith) (fresh h) ops _ r.left (fine p program roots x is parallel h heap h self ops typed inside) r.run in
        let t = r.taken in let s = c.steps in
        (omega arith, record { order = c.es; run = subst (λ n. PendingRun p h last [] c.es h ops n) (let z : c.s ≡ steps = omega arith in z) c.run })

    back : (steps ≤ budget) × CompleteRun p h h ops last steps → RunsTo p h ops budget last steps
    back (le, c) =
        let left : ℕ = budget - steps in
        let e : Ended p ops (fresh h) last (steps + left) left =
        completes_serial (setting p program roots x is parallel h heap) (law p program roots x is parallel h heap) (length c.order) ops c.order (fresh h) last steps left (omega arith) (fine p program roots x is parallel h heap h self ops typed inside) c.run in
        let notes : e.world.notes ≡ [] = no_notes p ops h (steps + left) e.world left e.run in
        record {
          prints = e.world.prints;
          left = left;
          run = ap (λ k. serial_ops p ops (fresh h) k) (let z : budget ≡ steps + left = omega arith in z) ∙ e.run
              ∙ ap (λ g. goes_on [] (world_with g e.world.prints e.world.notes) left) e.heap ∙ ap (λ ns. goes_on [] (world_with last e.world.prints ns) left) notes;
          taken = omega arith;
        }
