-- Calls that run in the heap, one after the other, are the serial run.
use Rattle.std.proofs.Common.{◌≡◌, ◌-◌, ◌+◌, ◌<◌, ◌≤◌, ℕ, suc, List, [], ◌∷◌, length, drop, get_or, Some, None, refl, ap, sym, ◌∙◌, subst, arith}
use Rattle.std.proofs.lemmas.List.{at_drop_more}
use Rattle.ca_program.specs.Plain.{PlainProgram}
use Rattle.ca_model.specs.declared.value.Value.{Value as Datum}
use Rattle.ca_model.specs.declared.value.Object.{Object}
use Rattle.ca_model.specs.Typed.{TypedHeap}
use Rattle.ca_meaning.specs.Expressions.{Invocation}
use Rattle.ca_meaning.specs.Flows.{Flow, goes_on, gives_back, stops, runs_out, and_on}
use Rattle.ca_meaning.specs.ProgramTyped.{ProgramTyped}
use Rattle.ca_meaning.specs.Serial.{World, came_back, fresh, operations_of, run_call, serial_ops}
use Rattle.ca_meaning.specs.WellTyped.{AllWellTyped, WellTyped}
use Rattle.ca_meaning_laws.specs.Typed.{Extends, KeepsHeap, goes_on_kept}
use Rattle.ca_meaning_laws.specs.Budgets.{on_with}
use Rattle.ca_meaning_laws.proofs.Bigs.{serial_ops_steady}
use Rattle.ca_meaning_laws.proofs.SerialTypes.{serial_ops_keep, well_kept}
use Rattle.ca_parallel.specs.declared.op.Op.{Op}
use Rattle.ca_parallel.specs.Calls.{RunsTo, invocation_of, invocations_of}
use Rattle.ca_code_laws.specs.Machine.{Finished}
use Rattle.ca_code_laws.specs.Runs.{outcome_of}
use Rattle.ca_sections.specs.InOrder.{CallEnds, CallsEnd, Continues, EndsIn}

-- a call that its body ends so, behind the step that it takes: done
pub call_done : (p : PlainProgram) (h after : List Object) (i : Invocation) (k left : ℕ) → outcome_of ((operations_of p).invoke i (fresh h) k) ≡ Finished (fresh after) left → CallEnds p h i (suc k) after (Some left)
call_done p h after i k left e = by ((operations_of p).invoke i (fresh h) k) e
  where
    by : (o : Flow World) → outcome_of o ≡ Finished (fresh after) left → came_back [] o ≡ goes_on [] (fresh after) left
    by (goes_on ls w j) e = cc
    by (gives_back v w j) e = absurd (cc)
    by (stops t w) e = absurd (cc)
    by (runs_out w) e = absurd (cc)

-- or not done
pub call_undone : (p : PlainProgram) (h after : List Object) (i : Invocation) (k : ℕ) → ((w : World) (j : ℕ) → ¬ (outcome_of ((operations_of p).invoke i (fresh h) k) ≡ Finished w j)) → CallEnds p h i (suc k) after None
call_undone p h after i k never = by ((operations_of p).invoke i (fresh h) k) never
  where
    by : (o : Flow World) → ((w : World) (j : ℕ) → ¬ (outcome_of o ≡ Finished w j)) → EndsIn (came_back [] o) after None
    by (goes_on ls w j) never = λ ms x l e. never w j refl
    by (gives_back v w j) never = λ ms x l e. cc
    by (stops t w) never = λ ms x l e. cc
    by (runs_out w) never = λ ms x l e. cc

-- no step is left for it
pub call_too_many : (p : PlainProgram) (h after : List Object) (i : Invocation) (k : ℕ) → k ≡ 0 → CallEnds p h i k after None
call_too_many p h after i k e = subst (λ n. CallEnds p h i n after None) (sym e) (λ ls w j same. cc)

pub one_alone : (p : PlainProgram) (h after : List Object) (i : Invocation) (k left : ℕ) → CallEnds p h i k after (Some left) → serial_ops p (i ∷ []) (fresh h) k ≡ goes_on [] (fresh after) left
one_alone p h after i k left ran = ap (λ o. and_on o (λ ls w j. serial_ops p [] w j)) ran

-- calls take no more steps than are left
pub calls_take : (p : PlainProgram) (h after : List Object) (is : List Invocation) (k left : ℕ) → CallsEnd p h is k after (Some left) → left ≤ k
calls_take p h after is k left ran =
    let r = (serial_ops_steady p is (fresh h) k).reached k (omega arith) (on_with [] (fresh after)) left ran in
    omega (arith, r.is)

-- where a flow is done its heap is typed, and has what the other one had
abbrev DoneTyped : PlainProgram → List Object → Flow World → Type 0
DoneTyped p h (goes_on ls w k) = TypedHeap p w.heap × Extends h w.heap
DoneTyped p h _ = Unit {0}

done_typed : (p : PlainProgram) (h : List Object) (o : Flow World) → KeepsHeap p h o → DoneTyped p h o
done_typed p h (goes_on ls w k) (goes_on_kept _ _ _ t ext) = (t, ext)
done_typed p h (gives_back v w k) keeps = tt
done_typed p h (stops t w) keeps = tt
done_typed p h (runs_out w) keeps = tt

typed_behind : (p : PlainProgram) → ProgramTyped p → (h after : List Object) (i : Invocation) (k left : ℕ) → TypedHeap p h → WellTyped p h i → CallEnds p h i k after (Some left) → TypedHeap p after × Extends h after
typed_behind p typed h after i k left heap well ran =
    subst (DoneTyped p h) (one_alone p h after i k left ran) (done_typed p h (serial_ops p (i ∷ []) (fresh h) k) (serial_ops_keep p typed (i ∷ []) (fresh h) k heap (well, tt)))

pub none_ran : (p : PlainProgram) (h : List Object) (all : List Invocation) (budget : ℕ) → TypedHeap p h → AllWellTyped p h all → Continues p h all budget h all budget
none_ran p h all budget heap typed = record { same = refl; heap = heap; typed = typed; few = omega arith }

pub one_ran : (p : PlainProgram) → ProgramTyped p → (h now after : List Object) (i : Invocation) (is all : List Invocation) (budget k left : ℕ) → Continues p h all budget now (i ∷ is) k → CallEnds p now i k after (Some left) → Continues p h all budget after is left
one_ran p typed h now after i is all budget k left g ran =
    let kept = typed_behind p typed now after i k left g.heap g.typed.0 ran in
    record {
      same = g.same ∙ ap (λ o. and_on o (λ ls w j. serial_ops p is w j)) ran;
      heap = kept.0;
      typed = well_kept p now after kept.1 is g.typed.1;
      few = omega (arith, g.few, calls_take p now after (i ∷ []) k left (one_alone p now after i k left ran));
    }

-- the next call, and those behind it
pub next_call : (ops : List Op) (i : ℕ) (op : Op) → i < length ops → op ≡ get_or ops i op → invocations_of (drop i ops) ≡ invocation_of op ∷ invocations_of (drop (i + 1) ops)
next_call ops i op lt is = at_drop_more invocations_of ops i op lt ∙ ap (λ o. invocation_of o ∷ invocations_of (drop (i + 1) ops)) (sym is)

-- all ran
pub all_ran : (p : PlainProgram) (h now : List Object) (all rest : List Invocation) (budget k : ℕ) → Continues p h all budget now rest k → rest ≡ [] → CallsEnd p h all budget now (Some k)
all_ran p h now all rest budget k g none = g.same ∙ ap (λ is. serial_ops p is (fresh now) k) none

-- or one isn't done
pub one_stopped : (p : PlainProgram) (h now after last : List Object) (i : Invocation) (is all : List Invocation) (budget k : ℕ) → Continues p h all budget now (i ∷ is) k → CallEnds p now i k after None → CallsEnd p h all budget last None
one_stopped p h now after last i is all budget k g never = λ ls w j e. by (run_call (operations_of p) [] i (fresh now) k) never ls w j (sym g.same ∙ e)
  where
    by : (o : Flow World) → EndsIn o after None → (ls : List Datum) (w : World) (j : ℕ) → ¬ (and_on o (λ ls w k. serial_ops p is w k) ≡ goes_on ls w j)
    by (goes_on ms x l) never ls w j e = never ms x l refl
    by (gives_back v x l) never ls w j e = cc
    by (stops t x) never ls w j e = cc
    by (runs_out x) never ls w j e = cc

-- what an engine answers by that
pub runs_to : (p : PlainProgram) (h after : List Object) (is : List Invocation) (budget left : ℕ) → CallsEnd p h is budget after (Some left) → RunsTo p h is budget after (budget - left)
runs_to p h after is budget left ran = record { prints = []; left = left; run = ran; taken = omega (arith, calls_take p h after is budget left ran) }

pub never_runs : (p : PlainProgram) (h last : List Object) (is : List Invocation) (budget : ℕ) → CallsEnd p h is budget last None → (after : List Object) (steps : ℕ) → ¬ RunsTo p h is budget after steps
never_runs p h last is budget never = λ after steps r. never [] _ r.left r.run
