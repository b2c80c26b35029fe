-- A call whose body ran in the heap, with none below it, is what it means.
use Rattle.std.proofs.Common.{◌≡◌, ◌-◌, ℕ, suc, List, [], map, Option, Some, None, Result, Ok, Err, refl, ap, sym, ◌∙◌, subst}
use Rattle.std.specs.Prelude.{pos, slice_get, IfOk}
use Rattle.ca_program.specs.declared.program.Program.{Program}
use Rattle.ca_program.specs.Plain.{PlainProgram}
use Rattle.ca_program.specs.Instructions.{Code}
use Rattle.ca_program.specs.Kinds.{param_kind}
use Rattle.ca_program.specs.View.{program_view}
use Rattle.ca_model.specs.declared.value.TrapKind.{TrapKind}
use Rattle.ca_model.specs.declared.value.Value.TheVariants.{Ref}
use Rattle.ca_model.specs.declared.value.Object.{Object}
use Rattle.ca_model.specs.Typed.{TypedHeap}
use Rattle.ca_meaning.specs.Expressions.{trap_at}
use Rattle.ca_meaning.specs.ProgramTyped.{ProgramTyped}
use Rattle.ca_meaning.specs.Serial.{World, fresh, operations_of}
use Rattle.ca_meaning.specs.WellTyped.{WellTyped}
use Rattle.ca_parallel.specs.declared.op.Op.{Op}
use Rattle.ca_parallel.specs.Calls.{invocation_of}
use Rattle.ca_code.specs.Codes.{code_seen}
use Rattle.ca_code_laws.specs.Machine.{State, Outcome, Finished, Trapped, Spent, Ends, line_in}
use Rattle.ca_code_laws.specs.Runs.{outcome_of, run_access}
use Rattle.ca_code_laws.specs.Told.{Holds}
use Rattle.ca_code_laws.specs.Words.{pointer_of}
use Rattle.ca_code_laws.proofs.FitEnd.{comes_to_end}
use Rattle.ca_code_laws.proofs.OneEnd.{call_known}
use Rattle.ca_steps.specs.declared.frames.Frames.{Frames}
use Rattle.ca_steps.specs.declared.running.Halt.{Halt}
use Rattle.ca_steps.specs.declared.running.Halt.TheVariants as halt
use Rattle.ca_steps.specs.declared.running.Laid.{Laid}
use Rattle.ca_steps.specs.Stands.{back_seen, here_state, seen}
use Rattle.ca_steps.specs.Here.{Halted}
use Rattle.ca_sections.specs.Fitting.{Entered, Starts}
use Rattle.ca_sections.specs.InOrder.{CallEnds, LeftBy}
use Rattle.ca_sections.proofs.InOrder.{call_done, call_undone}

module _ (p : PlainProgram) (typed : ProgramTyped p) (on : Laid) (place number : ℕ) (h : List Object) (heap : TypedHeap p h) (op : Op) (well : WellTyped p h (invocation_of op)) (k : ℕ) (m0 : Frames) (starts : Starts p op.op on place) (entered : Entered p op m0) (named : pointer_of (pos number) ≡ Ref op.receiver) where
  abbrev code : Code
  code = code_seen on.code

  abbrev start : State World
  start = record { at = place; base = 0; left = k; this = Ref op.receiver; below = []; slots = seen m0.slots.items; world = fresh h }

  abbrev first : State World
  first = here_state (record { at = place; base = 0; left = k }) number m0.below m0.slots.items (fresh h)

  begins : first ≡ start
  begins = λ i. record { at = place; base = 0; left = k; this = named i; below = ap (map back_seen) entered.below i; slots = seen m0.slots.items; world = fresh h }

  -- whoever runs it to an end knows it
  known : (o : Outcome World) → Ends (run_access p) code first o → o ≡ outcome_of ((operations_of p).invoke (invocation_of op) (fresh h) k)
  known o ends =
      call_known p typed code starts.laid (invocation_of op) (fresh h) heap well place 0 k (seen m0.slots.items) starts.begins holds o (subst (λ s. Ends (run_access p) code s o) begins ends)
    where
      holds : Holds (λ j. param_kind (slice_get p.ops op.op.0) j) (seen m0.slots.items) 0 op.args
      holds = subst (λ x. Holds (λ j. param_kind x j) (seen m0.slots.items) 0 op.args) (sym starts.is) (entered.arguments starts.method starts.is starts.fits.parameters).1

  ended : (t : State World) (after : List Object) → t.world ≡ fresh after → Halted (run_access p) code first halt.Ends t → CallEnds p h (invocation_of op) (suc k) after (Some t.left)
  ended t after is ran =
      call_done p h after (invocation_of op) k t.left (sym (known (Finished t.world t.left) (comes_to_end (run_access p) code first t ran.2 ran.1 ran.0)) ∙ ap (λ w. Finished w t.left) is)

  undone : (o : Outcome World) (after : List Object) → ((w : World) (j : ℕ) → ¬ (o ≡ Finished w j)) → Ends (run_access p) code first o → CallEnds p h (invocation_of op) (suc k) after None
  undone o after never ends = call_undone p h after (invocation_of op) k (λ w j e. never w j (known o ends ∙ e))

-- The same within a budget of one step more, of a run whose access has the program.
module _ (p : PlainProgram) (typed : ProgramTyped p) (on : Laid) (place number : ℕ) (h : List Object) (heap : TypedHeap p h) (op : Op) (well : WellTyped p h (invocation_of op)) (budget : ℕ) (m0 : Frames) (starts : Starts p op.op on place) (entered : Entered p op m0) (named : pointer_of (pos number) ≡ Ref op.receiver) (least : budget ≡ suc (budget - 1)) (q : Program) (same : program_view q ≡ p) (x : Halt) (t : State World) (after : List Object) (is : t.world ≡ fresh after) (ran : Halted (run_access (program_view q)) (code_seen on.code) (here_state (record { at = place; base = 0; left = budget - 1 }) number m0.below m0.slots.items (fresh h)) x t) where
  abbrev from : State World
  from = here_state (record { at = place; base = 0; left = budget - 1 }) number m0.below m0.slots.items (fresh h)

  halted : (y : Halt) → x ≡ y → Halted (run_access p) (code_seen on.code) from y t
  halted y e = subst (λ y. Halted (run_access p) (code_seen on.code) from y t) e (subst (λ p. Halted (run_access p) (code_seen on.code) from x t) same ran)

  call_ended : (left : ℕ) → t.left ≡ left → x ≡ halt.Ends → CallEnds p h (invocation_of op) budget after (Some left)
  call_ended left so e =
      subst (λ n. CallEnds p h (invocation_of op) n after (Some left)) (sym least)
      (subst (λ n. CallEnds p h (invocation_of op) (suc (budget - 1)) after (Some n)) so (ended p typed on place number h heap op well (budget - 1) m0 starts entered named t after is (halted halt.Ends e)))

  call_trapped : (kind : TrapKind) → x ≡ halt.Traps kind → CallEnds p h (invocation_of op) budget after None
  call_trapped kind e =
      subst (λ n. CallEnds p h (invocation_of op) n after None) (sym least)
      (undone p typed on place number h heap op well (budget - 1) m0 starts entered named (Trapped (trap_at (line_in (slice_get (code_seen on.code).lines t.at)) kind) t.world) after (λ w j e. cc) (halted (halt.Traps kind) e))

  call_spent : x ≡ halt.Spends → CallEnds p h (invocation_of op) budget after None
  call_spent e =
      subst (λ n. CallEnds p h (invocation_of op) n after None) (sym least)
      (undone p typed on place number h heap op well (budget - 1) m0 starts entered named (Spent t.world) after (λ w j e. cc) (halted halt.Spends e))

  -- what is left by how it halts
  pub call_told : {E : Type 0} (left : ℕ) → t.left ≡ left → (r : Result (Option ℕ) E) → IfOk r (λ still. LeftBy x left still) → IfOk r (λ still. CallEnds p h (invocation_of op) budget after still)
  call_told left so (Err e) told = tt
  call_told left so (Ok still) told = by x refl still told
    where
      by : (y : Halt) → x ≡ y → (still : Option ℕ) → LeftBy y left still → CallEnds p h (invocation_of op) budget after still
      by halt.Ends e still is = subst (λ (o : Option ℕ). CallEnds p h (invocation_of op) budget after o) (sym is) (call_ended left so e)
      by (halt.Traps kind) e still is = subst (λ (o : Option ℕ). CallEnds p h (invocation_of op) budget after o) (sym is) (call_trapped kind e)
      by halt.Spends e still is = subst (λ (o : Option ℕ). CallEnds p h (invocation_of op) budget after o) (sym is) (call_spent e)
      by halt.Leaves e still is = absurd is
      by halt.Fails e still is = absurd is
      by halt.Memory e still is = absurd is
