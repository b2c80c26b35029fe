-- The run that lists the calls of marked loops first keeps types.
use Rattle.std.proofs.Common.{◌≡◌, ℕ, zero, suc, ◌-◌, List, [], ◌∷◌, length, Bool, true, false, Option, Some, None, refl}
use Rattle.std.specs.Prelude.{slice_get}
use Rattle.ca_program.specs.Plain.{PlainProgram, PlainMethod, Statement}
use Rattle.ca_model.specs.declared.value.Value.{Value as Datum}
use Rattle.ca_model.specs.declared.value.Value.TheVariants.{Ref}
use Rattle.ca_model.specs.declared.value.Object.{Object}
use Rattle.ca_model.specs.Typed.{TypedHeap}
use Rattle.ca_meaning.specs.Expressions.{Invocation}
use Rattle.ca_meaning.specs.Flows.{Flow, goes_on, gives_back, stops, runs_out, exec, exec_all}
use Rattle.ca_meaning.specs.Functions.{own_of, place, body_of, locals_of, functions_of}
use Rattle.ca_meaning.specs.Serial.{World, Operations, operations_of, serial_parts}
use Rattle.ca_meaning.specs.Sections.{Section, section_start, section_parts, LoopSectioned, loop_done, loop_stopped, loop_over, loop_sectioned, loop_section}
use Rattle.ca_meaning.specs.WellTyped.{ValuesTyped, CallTyped, WellTyped, AllWellTyped}
use Rattle.ca_meaning.specs.ProgramTyped.{Scope, StatementTyped, scope_of, ProgramTyped}
use Rattle.ca_meaning_laws.specs.Typed.{Extends, IsReceiver, FlowTyped, goes_on_typed, runs_out_typed, KeepsHeap, goes_on_kept, runs_out_kept, WorldTyped, SectionTyped, heap_of, frozen_heap}
use Rattle.ca_meaning_laws.proofs.Values.{frame_typed}
use Rattle.ca_meaning_laws.proofs.Heaps.{extends_self, extends_then, values_kept, receiver_kept, own_typed}
use Rattle.ca_meaning_laws.proofs.Evals.{due_typed}
use Rattle.ca_meaning_laws.proofs.Statements.{typed_with, PartsTyped, exec_typed, all_exec_typed, turn_typed}
use Rattle.ca_meaning_laws.proofs.FunctionTypes.{serial_place, calls_typed}
use Rattle.ca_meaning_laws.proofs.SerialTypes.{WorldFlow, OperationsTyped, run_typed, parts_typed, kept, all_operations_typed, serial_parts_typed, serial_ops_keep}
use Rattle.ca_meaning_laws.proofs.SectionTypes.{section_loop_typed}
use Rattle.ca_parallel.specs.Lists.{PlainMarks, op_in, loop_in, note, noted, either, noted_call}
use Rattle.ca_note_laws.specs.Listing.{puts_nothing, behind_list, with_list, by_section, listing_loop, listing_parts, listing_operations, listing_of}

-- what the section of a loop leaves: typed locals, and well typed calls
abbrev pub LeavesTyped : PlainProgram → List Object → Scope → LoopSectioned → Type 0
LeavesTyped p h s (loop_done m) = ValuesTyped h m.locals s.locals × AllWellTyped p h m.listed
LeavesTyped p h s (loop_stopped t) = Unit {0}
LeavesTyped p h s loop_over = Unit {0}

either_typed : (p : PlainProgram) (s : Scope) (r : Datum) (h : List Object) (b : Bool) (x y : Flow World) → WorldFlow p s r h x → WorldFlow p s r h y → WorldFlow p s r h (either b x y)
either_typed p s r h true x y a b = a
either_typed p s r h false x y a b = b

module _ (p : PlainProgram) (typed : ProgramTyped p) where
  pub loop_leaves : (h : List Object) → TypedHeap p h → (s : Scope) (r : Datum) → IsReceiver h s.class r → (y : Statement) → StatementTyped p s y → (line : ℕ) (ls : List Datum) (k : ℕ) → ValuesTyped h ls s.locals → LeavesTyped p h s (loop_section p h r ls line y k)
  loop_leaves h heap s r receiver y t line ls k v =
      let x = section_start (own_of h r) in
      let good : SectionTyped p h s x = record { own = own_typed p h s.class r heap receiver; listed = tt } in
      by (exec (section_parts p h r) line ls x y k) (section_loop_typed p typed h heap s r receiver y t line ls x k good v)
    where
      by : (o : Flow Section) → FlowTyped (frozen_heap h) (SectionTyped p h s) s h o → LeavesTyped p h s (loop_sectioned k o)
      by (goes_on ls x j) (goes_on_typed _ _ _ good ext v) = (v, good.listed)
      by (gives_back u x j) f = tt
      by (stops z x) f = tt
      by (runs_out x) f = tt

  module _ (marks : PlainMarks) (into : ℕ → Bool) where
    -- a loop that is handed on
    loop_typed : (s : Scope) (r : Datum) (h : List Object) (line : ℕ) (ls : List Datum) (w : World) (y : Statement) (k : ℕ) (plain : Flow World) → WorldTyped p s r w → Extends h w.heap → ValuesTyped w.heap ls s.locals → StatementTyped p s y → WorldFlow p s r h plain → WorldFlow p s r h (listing_loop into p marks r line ls w y k plain)
    loop_typed s r h line ls w y k plain good ext v t flow =
        either_typed p s r h (loop_in marks.loops y) _ plain
        (either_typed p s r h (puts_nothing y) _ _ (by (loop_section p w.heap r ls line y k) (loop_leaves w.heap good.heap s r good.receiver y t line ls k v)) (serially w good ext v))
        flow
      where
        serially : (w : World) → WorldTyped p s r w → Extends h w.heap → ValuesTyped w.heap ls s.locals → WorldFlow p s r h (exec (serial_parts p r) line ls w y k)
        serially w good ext v = exec_typed heap_of (WorldTyped p s r) p s (serial_parts p r) (serial_parts_typed p typed s r) h y t line ls w k good ext v

        by_list : (new : List Datum) (plain o : Flow World) → ValuesTyped w.heap new s.locals → WorldFlow p s r h plain → KeepsHeap p w.heap o → WorldFlow p s r h (behind_list new o plain)
        by_list new plain (goes_on _ x j) of_types flow (goes_on_kept _ _ _ heap more) =
            goes_on_typed new x j (record { heap = heap; receiver = receiver_kept w.heap x.heap more s.class r good.receiver }) (extends_then h w.heap x.heap ext more) (values_kept w.heap x.heap more new s.locals of_types)
        by_list new plain (gives_back u x j) of_types flow kept = flow
        by_list new plain (stops z x) of_types flow kept = flow
        by_list new plain (runs_out x) of_types flow kept = flow

        by : (o : LoopSectioned) → LeavesTyped p w.heap s o → WorldFlow p s r h (by_section into p r line ls w y k o)
        by (loop_done m) leaves =
            let x = with_list w k m in
            either_typed p s r h (into (length w.notes)) _ _ (serially x (record { heap = good.heap; receiver = good.receiver }) ext v)
            (by_list m.locals _ _ leaves.0 (serially x (record { heap = good.heap; receiver = good.receiver }) ext v) (serial_ops_keep p typed m.listed x (k - m.steps) good.heap leaves.1))
        by (loop_stopped z) leaves = serially w good ext v
        by loop_over leaves = serially w good ext v

    call_typed : (o : Operations) → OperationsTyped p o → (s : Scope) (r : Datum) (h : List Object) (ls : List Datum) (i : Invocation) (w : World) (k : ℕ) → WorldTyped p s r w → Extends h w.heap → ValuesTyped w.heap ls s.locals → WellTyped p w.heap i → WorldFlow p s r h (noted_call marks (operations_of p) o ls i w k)
    call_typed o all s r h ls i w k good ext v well =
        let x : World = noted w (note w.heap (i ∷ []) k) in
        either_typed p s r h (op_in marks.ops i.op) _ _
        (run_typed p (operations_of p) (all_operations_typed p typed) s r h ls i x k (record { heap = good.heap; receiver = good.receiver }) ext v well)
        (run_typed p o all s r h ls i w k good ext v well)

    pub listing_parts_typed : (o : Operations) → OperationsTyped p o → (s : Scope) (r : Datum) → PartsTyped heap_of (WorldTyped p s r) p s (listing_parts into p marks o r)
    listing_parts_typed o all s r =
        let plain = parts_typed p typed o all s r in
        record {
          values = λ line ls w e ty k good v t. plain.values line ls w e ty k good v t;
          acts = λ h line ls w y k good ext v t. plain.acts h line ls w y k good ext v t;
          calls = λ h line ls w e op es k class tys good ext v is_op te tes.
              typed_with heap_of (WorldTyped p s r) s (λ i. WellTyped p w.heap i) h _ w _ good ext
              (due_typed p s (place w.heap r line ls) (functions_of p.functions w.heap).call (calls_typed p typed w.heap good.heap) (serial_place p w.heap s r line ls good.heap good.receiver v) e op es class tys is_op te tes k)
              (λ i k1 well. call_typed o all s r h ls i w k1 good ext v well);
          agains = λ h line ls w y k good ext v t. all.agains s r h line ls w y k good ext v t;
          begins = λ h line ls w y k a good ext v t flow. loop_typed s r h line ls w y k a good ext v t flow;
        }

    body_typed : (o : Operations) → OperationsTyped p o → (n r : ℕ) (vs : List Datum) (w : World) (k : ℕ) → TypedHeap p w.heap → (m : Option PlainMethod) → slice_get p.ops n ≡ m → CallTyped w.heap m r vs → KeepsHeap p w.heap (exec_all (listing_parts into p marks o (Ref r)) (locals_of m vs) w (body_of m) k)
    body_typed o all n r vs w k heap None e call = absurd call
    body_typed o all n r vs w k heap (Some m) e call =
        let mt = typed.ops n m e in
        kept p typed (scope_of m) (Ref r) w.heap _
        (all_exec_typed heap_of (WorldTyped p (scope_of m) (Ref r)) p (scope_of m) (listing_parts into p marks o (Ref r)) (listing_parts_typed o all (scope_of m) (Ref r)) w.heap m.body.statements mt.method.body _ w k
        (record { heap = heap; receiver = call.0 }) (extends_self w.heap) (frame_typed w.heap vs m.params m.body.locals call.1))

    operations_typed : (n : ℕ) → OperationsTyped p (listing_operations into n p marks)
    operations_typed zero = record {
      invokes = λ i w k heap well. runs_out_kept w heap (extends_self w.heap);
      agains = λ s r h line ls w x k good ext v t. runs_out_typed w good ext;
    }
    operations_typed (suc n) =
        let all : OperationsTyped p (listing_operations into n p marks) = operations_typed n in
        record {
          invokes = λ i w k heap well. body_typed (listing_operations into n p marks) all i.op.0 i.receiver i.arguments w k heap (slice_get p.ops i.op.0) refl well;
          agains = λ s r h line ls w x k good ext v t.
              turn_typed heap_of (WorldTyped p s r) p s (listing_parts into p marks (listing_operations into n p marks) r) (listing_parts_typed (listing_operations into n p marks) all s r) h x t line ls w k good ext v;
        }

    pub listing_typed : OperationsTyped p (listing_of into p marks)
    listing_typed = record {
      invokes = λ i w k heap well. (operations_typed (suc k)).invokes i w k heap well;
      agains = λ s r h line ls w x k good ext v t. (operations_typed (suc k)).agains s r h line ls w x k good ext v t;
    }
