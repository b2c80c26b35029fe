-- The first ones of some calls ran in the heap itself, as their serial run; what the others do from there, all of them do.
use Rattle.std.proofs.Common.{◌≡◌, ◌≤◌, ◌<◌, ◌-◌, ◌∙◌, ℕ, List, [], ◌++◌, append-nil, map, take, drop, Option, Some, None, Result, Ok, Err, IfOk, OnErr, refl, ap, sym, subst, arith}
use Rattle.std.specs.Prelude.{Contains}
use Rattle.std.proofs.lemmas.List.{map-append, take-append-drop}
use Rattle.std.proofs.lemmas.List.Elements.{Contains-append_right}
use mathlib.Core.Logic.{dite}
use native.Mathlib.Decide.{dec_le}
use Rattle.ca_base.specs.declared.faults.Memory.{Memory}
use Rattle.ca_program.specs.declared.program.OpId.{OpId}
use Rattle.ca_program.specs.Plain.{PlainProgram}
use Rattle.ca_model.specs.declared.value.Object.{Object}
use Rattle.ca_model.specs.Typed.{TypedHeap}
use Rattle.ca_meaning.specs.Expressions.{Invocation}
use Rattle.ca_meaning.specs.ProgramTyped.{ProgramTyped}
use Rattle.ca_meaning.specs.Serial.{World, fresh}
use Rattle.ca_meaning.specs.WellTyped.{AllWellTyped}
use Rattle.ca_meaning_laws.specs.Budgets.{on_with}
use Rattle.ca_meaning_laws.proofs.Bigs.{serial_ops_steady}
use Rattle.ca_parallel.specs.declared.op.Op.{Op}
use Rattle.ca_parallel.specs.Calls.{RunsTo, invocation_of, invocations_of, operation_of}
use Rattle.ca_parallel.specs.Extents.{Extent}
use Rattle.ca_parallel.specs.Parallel.{ParallelFrom}
use Rattle.ca_order_laws.specs.Order.{AllInside}
use Rattle.ca_order_laws.specs.Pending.{CompleteRun}
use Rattle.ca_order_laws.proofs.SerialOrder.{depth_first}
use Rattle.ca_undo.specs.declared.puts.Kept.{Kept}
use Rattle.ca_sections.specs.InOrder.{CallsEnd, Continues}
use Rattle.ca_undo.specs.Puts.{before}
use Rattle.ca_workers.specs.clauses.Ahead.{EndsAhead, WaitFrom, with_steps}
use Rattle.ca_workers.specs.clauses.Runs.{IsSetting, MayWait, NoneWithin, Placed}
use Rattle.ca_workers.proofs.Beginning.{known_setting, known_waits, own_setting, own_waits}

-- ---- calls from a place on

-- those of some calls from a place on are of the extent of all
pub fewer_inside : (x : Extent) (ops : List Op) (n : ℕ) → AllInside x (invocations_of ops) → AllInside x (invocations_of (drop n ops))
fewer_inside x ops n inside i c =
    let parts : invocations_of ops ≡ invocations_of (take n ops) ++ invocations_of (drop n ops) = ap invocations_of (sym (take-append-drop n ops)) ∙ map-append invocation_of (take n ops) (drop n ops) in
    inside i (subst (λ (is : List Invocation). Contains is i) (sym parts) (Contains-append_right (invocations_of (take n ops)) (invocations_of (drop n ops)) i c))

-- calls that are lent from a place on, with none beside them
pub lent_behind : (ops rest none : List Op) (n : ℕ) → rest ≡ drop n ops → none ≡ [] → invocations_of rest ++ invocations_of none ≡ invocations_of (drop n ops)
lent_behind ops rest none n e empty = ap (λ (os : List Op). invocations_of os ++ invocations_of none) e ∙ (ap (λ (os : List Op). invocations_of (drop n ops) ++ invocations_of os) empty ∙ append-nil (invocations_of (drop n ops)))

-- what an engine is handed may wait
pub from_handed : (p : PlainProgram) (program : ProgramTyped p) (h : List Object) (heap : TypedHeap p h) (first : List Op) → AllWellTyped p h (invocations_of first) → ParallelFrom p (map operation_of first) → WaitFrom p h (map operation_of first) (invocations_of first)
from_handed p program h heap first typed from = record {
  extent = from.extent;
  setting = known_setting p program h heap first typed from;
  waits = known_waits p program h heap first typed from;
  own = λ x of. (own_setting p program h heap first typed from x of, own_waits p program h heap first typed from x of);
}

-- and so may the others where the first ones ran
here_setting : (p : PlainProgram) (x : Extent) (h now : List Object) → IsSetting p x h → TypedHeap p now → IsSetting p x now
here_setting p x h now set heap = record { program = set.program; roots = set.roots; extent = set.extent; parallel = set.parallel; heap = heap }

here_waits : (p : PlainProgram) (x : Extent) (now : List Object) (ops : List Op) (n : ℕ) → TypedHeap p now → AllWellTyped p now (invocations_of (drop n ops)) → AllInside x (invocations_of ops) → MayWait p x now now (invocations_of (drop n ops))
here_waits p x now ops n heap typed inside = record {
  stands = record { heap = heap; agree = record { as_many = refl; each = λ m o e. record { other = o; there = e; agree = record { class = refl; constants = λ f c free. refl } } } };
  typed = typed;
  inside = fewer_inside x ops n inside;
}

pub later : (p : PlainProgram) (h : List Object) (roots : List OpId) (ops : List Op) (n : ℕ) → WaitFrom p h roots (invocations_of ops) → (budget left : ℕ) (now : List Object) → Continues p h (invocations_of ops) budget now (invocations_of (drop n ops)) left → WaitFrom p now roots (invocations_of (drop n ops))
later p h roots ops n w budget left now go = record {
  extent = w.extent;
  setting = here_setting p w.extent h now w.setting go.heap;
  waits = here_waits p w.extent now ops n go.heap go.typed w.waits.inside;
  own = λ x of. (here_setting p x h now (w.own x of).0 go.heap, here_waits p x now ops n go.heap go.typed (w.own x of).1.inside);
}

-- what undoes them still does, where neither that nor the heap changed
pub undone : (k kept : Kept) (g now h : List Object) → k ≡ kept → g ≡ now → before kept now ≡ h → before k g ≡ h
undone k kept g now h same here back = subst (λ (z : Kept). before z g ≡ h) (sym same) (subst (λ (z : List Object). before kept z ≡ h) (sym here) back)

-- ---- what the others do

module _ (p : PlainProgram) (x : Extent) (h : List Object) (set : IsSetting p x h) (all : List Invocation) (w : MayWait p x h h all) (budget : ℕ) where
  -- the calls aren't done
  pub never_within : (now : List Object) → CallsEnd p h all budget now None → NoneWithin p h h all budget
  never_within now never last t c = dite (dec_le t budget) (λ le. absurd (refuted le)) (λ gt. omega (arith, gt))
    where
      refuted : t ≤ budget → ⊥
      refuted le =
          let r : RunsTo p h all budget last t = (depth_first p set.program set.roots x set.extent set.parallel h set.heap all w.typed w.inside budget last t).1 (le, c) in
          never [] _ r.left r.run

  module _ (now : List Object) (rest : List Invocation) (left : ℕ) (go : Continues p h all budget now rest left) (inside : AllInside x rest) (last : List Object) where
    -- they are done, and so are all
    pub all_done : (more : ℕ) → Placed p now now rest left last (Some more) → Placed p h h all budget last (with_steps budget left (Some more))
    all_done more d =
        let r : RunsTo p now rest left last more = (depth_first p set.program set.roots x set.extent set.parallel now go.heap rest go.typed inside left last more).1 (d.1, d.0) in
        let few = go.few in
        let within : more ≤ left = d.1 in
        let taken = r.taken in
        let whole : RunsTo p h all budget last (budget - (left - more)) = record { prints = r.prints; left = r.left; run = go.same ∙ r.run; taken = omega (arith, few, within, taken) } in
        let c = (depth_first p set.program set.roots x set.extent set.parallel h set.heap all w.typed w.inside budget last (budget - (left - more))).0 whole in
        (c.1, c.0)

    -- they aren't, and neither are all
    pub none_done : NoneWithin p now now rest left → NoneWithin p h h all budget
    none_done none end t c = dite (dec_le t budget) (λ le. absurd (refuted le)) (λ gt. omega (arith, gt))
      where
        refuted : t ≤ budget → ⊥
        refuted le =
            let r : RunsTo p h all budget end t = (depth_first p set.program set.roots x set.extent set.parallel h set.heap all w.typed w.inside budget end t).1 (le, c) in
            let there : World = record { heap = end; prints = r.prints; notes = [] } in
            let s = (serial_ops_steady p rest (fresh now) left).reached left (omega arith) (on_with [] there) r.left (sym go.same ∙ r.run) in
            let others : RunsTo p now rest left end s.s = record { prints = r.prints; left = r.left; run = sym go.same ∙ r.run; taken = s.is } in
            let d = (depth_first p set.program set.roots x set.extent set.parallel now go.heap rest go.typed inside left end s.s).0 others in
            let few : s.s ≤ left = d.0 in
            let many : left < s.s = none end s.s d.1 in
            omega (arith, few, many)

    -- so it is where these ended so, and what isn't done was undone
    module _ (whole : List Object) (back : last ≡ now → whole ≡ h) (after : List Object) where
      pub ahead_placed : (ended told : Result (Option ℕ) Memory) → IfOk ended (Placed p now now rest left last) → EndsAhead budget left ended told last after whole → IfOk told (Placed p h h all budget after)
      ahead_placed (Ok (Some more)) told d e = subst (λ (r : Result (Option ℕ) Memory). IfOk r (Placed p h h all budget after)) (sym e.0) (subst (λ (g : List Object). Placed p h h all budget g (with_steps budget left (Some more))) (sym e.1) (all_done more d))
      ahead_placed (Ok None) told d e = subst (λ (r : Result (Option ℕ) Memory). IfOk r (Placed p h h all budget after)) (sym e.0) (none_done d.0, e.1 ∙ back d.1)
      ahead_placed (Err wanting) told d e = subst (λ (r : Result (Option ℕ) Memory). IfOk r (Placed p h h all budget after)) (sym e.0) tt

      pub ahead_kept : (ended told : Result (Option ℕ) Memory) → OnErr ended (last ≡ now) → EndsAhead budget left ended told last after whole → OnErr told (after ≡ h)
      ahead_kept (Ok (Some more)) told k e = subst (λ (r : Result (Option ℕ) Memory). OnErr r (after ≡ h)) (sym e.0) tt
      ahead_kept (Ok None) told k e = subst (λ (r : Result (Option ℕ) Memory). OnErr r (after ≡ h)) (sym e.0) tt
      ahead_kept (Err wanting) told k e = subst (λ (r : Result (Option ℕ) Memory). OnErr r (after ≡ h)) (sym e.0) (e.1 ∙ back k)
