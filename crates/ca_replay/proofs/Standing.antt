-- A machine that made some of its steps: what waits is well typed, and a step more leaves it so.
use Rattle.std.proofs.Common.{◌≡◌, ℕ, zero, suc, ◌+◌, ◌<◌, List, [], ◌∷◌, ◌++◌, length, Option, Some, None, Result, Ok, Err, IfOk, refl, ap, sym, subst, ◌∙◌}
use Rattle.std.specs.Prelude.{slice_get, OnErr}
use Rattle.std.proofs.lemmas.Option.{slice_get_within}
use Rattle.ca_program.specs.declared.program.ClassId.{ClassId}
use Rattle.ca_program.specs.Plain.{PlainProgram, PlainMethod}
use Rattle.ca_model.specs.declared.value.Object.{Object}
use Rattle.ca_model.specs.declared.value.Trap.{Trap}
use Rattle.ca_model.specs.declared.value.Value.{Value as Datum}
use Rattle.ca_model.specs.Typed.{IsOfClass}
use Rattle.ca_meaning.specs.Expressions.{Invocation}
use Rattle.ca_meaning.specs.ProgramTyped.{ProgramTyped}
use Rattle.ca_meaning.specs.Sections.{done, stopped, over, section}
use Rattle.ca_meaning.specs.WellTyped.{CallTyped, AllWellTyped}
use Rattle.ca_parallel.specs.declared.op.Op.{Op}
use Rattle.ca_parallel.specs.Calls.{invocations_of}
use Rattle.ca_parallel.specs.Lists.{note}
use Rattle.ca_parallel.specs.Notes.{NoteGood}
use Rattle.ca_order_laws.proofs.PendingRuns.{rounds}
use Rattle.ca_order_laws.proofs.Standing.{runs_stay}
use Rattle.ca_beside.proofs.Present.{same_some}
use Rattle.ca_trace.specs.Laws.{RunsNow}
use Rattle.ca_trace.proofs.Existing.{all_inside, itself}
use Rattle.ca_replay.specs.declared.machine.StepAnswer.{StepAnswer}
use Rattle.ca_replay.specs.declared.machine.StepAnswer.TheVariants.{Done, NotPending, Trapped, Spent}
use Rattle.ca_run.specs.Turns.{RanThis}
use Rattle.ca_run.proofs.Going.{one_run}
use Rattle.ca_replay.specs.Steps.{Stands, Kept, EndsSo, DoesntWait, StepIs}

in_heap : (h : List Object) (r : ℕ) (c : ClassId) → IsOfClass (slice_get h r) c → r < length h
in_heap h r c t = from (slice_get h r) refl t
  where
    from : (o : Option Object) → slice_get h r ≡ o → IsOfClass o c → r < length h
    from None e t = absurd t
    from (Some o) e t = slice_get_within h r o e

call_in_heap : (h : List Object) (m : Option PlainMethod) (r : ℕ) (vs : List Datum) → CallTyped h m r vs → r < length h
call_in_heap h None r vs t = absurd t
call_in_heap h (Some m) r vs t = in_heap h r m.class t.0

receiver_in_heap : (p : PlainProgram) (h : List Object) (ops : List Op) → AllWellTyped p h (invocations_of ops) → (n : ℕ) (o : Op) → slice_get ops n ≡ Some o → o.receiver < length h
receiver_in_heap p h [] t n o e = absurd (let z = e in cc)
receiver_in_heap p h (x ∷ ops) t zero o e = subst (λ (y : Op). y.receiver < length h) (same_some (slice_get (x ∷ ops) 0) x o refl e) (call_in_heap h (slice_get p.ops x.op.0) x.receiver x.args t.0)
receiver_in_heap p h (x ∷ ops) t (suc n) o e = receiver_in_heap p h ops t.1 n o e

module _ (p : PlainProgram) (program : ProgramTyped p) (frozen h : List Object) where
  waits_typed : (waiting : List Invocation) → Stands p frozen h waiting → AllWellTyped p frozen waiting
  waits_typed waiting s =
      let g = s.parallel in
      let good : NoteGood p (note frozen s.first 0) = record { heap = s.heap; typed = s.typed; parallel = s.parallel } in
      (runs_stay p program g.roots g.extent g.is g.parallel frozen frozen s.heap (itself p g.extent (note frozen s.first 0) good) s.first s.typed (all_inside g.extent s.first g.holds) h waiting s.order s.steps s.run).1

  -- the receivers of what waits are in the heap
  pub within : (ops : List Op) → Stands p frozen h (invocations_of ops) → (n : ℕ) (o : Op) → slice_get ops n ≡ Some o → o.receiver < length frozen
  within ops s n o e = receiver_in_heap p frozen ops (waits_typed (invocations_of ops) s) n o e

module _ (p : PlainProgram) (frozen h : List Object) (waiting : List Invocation) (left : ℕ) (i : Invocation) (after : List Object) (rest : List Invocation) where
  pub kept_stands : Kept h after waiting rest → Stands p frozen h waiting → Stands p frozen after rest
  kept_stands k s = subst (λ g. Stands p frozen g rest) (sym k.heap) (subst (λ ws. Stands p frozen h ws) (sym k.waits) s)

  ran_stands : (steps : ℕ) → RanThis p frozen h waiting left i after rest steps → Stands p frozen h waiting → Stands p frozen after rest
  ran_stands steps r s = record {
    first = s.first;
    order = s.order ++ i ∷ [];
    steps = s.steps + steps;
    heap = s.heap;
    typed = s.typed;
    parallel = s.parallel;
    run = rounds p frozen frozen h after s.first waiting rest s.order (i ∷ []) s.steps steps s.run (one_run p frozen h waiting left i after rest steps r);
  }

  step_stands : (a : StepAnswer) → StepIs p frozen h waiting left i after rest a → Stands p frozen h waiting → Stands p frozen after rest
  step_stands (Done steps) r s = ran_stands steps r s
  step_stands NotPending r s = kept_stands r.1 s
  step_stands (Trapped t) r s = kept_stands r.1 s
  step_stands Spent r s = kept_stands r.1 s

  -- whatever a step answers
  pub stays_standing : {E : Type 0} (r : Result StepAnswer E) → IfOk r (StepIs p frozen h waiting left i after rest) → OnErr r (Kept h after waiting rest) → Stands p frozen h waiting → Stands p frozen after rest
  stays_standing (Ok a) is kept s = step_stands a is s
  stays_standing (Err e) is kept s = kept_stands kept s

module _ (p : PlainProgram) (frozen h : List Object) (waiting : List Invocation) (left : ℕ) (i : Invocation) where
  -- an operation that doesn't wait, or whose section isn't done, doesn't run now
  pub not_pending : DoesntWait waiting i → ¬ RunsNow p frozen h waiting left i
  not_pending none r = none r.others r.waits

  same_object : (o : Object) → slice_get h i.receiver ≡ Some o → (r : RunsNow p frozen h waiting left i) → section p frozen i.receiver o i.op i.arguments left ≡ done r.outcome
  same_object o found r = ap (λ q. section p frozen i.receiver q i.op i.arguments left) (same_some (slice_get h i.receiver) o r.object found r.found) ∙ r.section

  pub trapped_now : (t : Trap) → EndsSo p frozen h waiting left i (stopped t) → ¬ RunsNow p frozen h waiting left i
  trapped_now t s r = (let z : stopped t ≡ done r.outcome = sym s.section ∙ same_object s.object s.found r in cc)

  pub spent_now : EndsSo p frozen h waiting left i over → ¬ RunsNow p frozen h waiting left i
  spent_now s r = (let z : over ≡ done r.outcome = sym s.section ∙ same_object s.object s.found r in cc)

pub same_kept : (h after : List Object) (old now : List Op) → (after ≡ h) × (now ≡ old) → Kept h after (invocations_of old) (invocations_of now)
same_kept h after old now e = record { heap = e.0; waits = ap invocations_of e.1 }
