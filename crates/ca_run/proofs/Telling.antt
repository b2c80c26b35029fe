-- What one worker that tells its lines answers.
use Rattle.std.proofs.Common.{◌≡◌, ℕ, ◌<◌, ◌^◌, ◌≤◌, List, [], ◌∷◌, ◌++◌, length, take, map, Option, Some, None, MatchOption, refl, ap, sym, subst, ◌∙◌, append_assoc}
use Rattle.std.proofs.lemmas.List.{take_at}
use Rattle.ca_program.specs.declared.program.OpId.{OpId}
use Rattle.ca_program.specs.Plain.{PlainProgram}
use Rattle.ca_model.specs.declared.value.Object.{Object}
use Rattle.ca_model.specs.Typed.{TypedHeap}
use Rattle.ca_meaning.specs.Expressions.{Invocation}
use Rattle.ca_meaning.specs.ProgramTyped.{ProgramTyped}
use Rattle.ca_meaning.specs.Serial.{Note}
use Rattle.ca_meaning.specs.WellTyped.{AllWellTyped}
use Rattle.ca_parallel.specs.declared.op.Op.{Op}
use Rattle.ca_parallel.specs.Calls.{RunsTo, invocations_of, operation_of}
use Rattle.ca_parallel.specs.Lists.{note}
use Rattle.ca_parallel.specs.Notes.{op_of, NoteGood}
use Rattle.ca_parallel.specs.Parallel.{ParallelFrom}
use Rattle.ca_serial.specs.declared.extents.ExtentAnswer.TheVariants.{Done, Declined}
use Rattle.ca_serial.specs.Extents.{IsNotDone}
use Rattle.ca_beside.specs.Beside.{present, SameShapes}
use Rattle.ca_run.specs.Turns.{StuckBehind}
use Rattle.ca_run.proofs.Answering.{same_shapes, stuck_not_done}
use Rattle.ca_order_laws.proofs.Standing.{runs_stay}
use Rattle.ca_trace.specs.declared.line.Line.{Line}
use Rattle.ca_trace.specs.declared.line.Line.TheVariants as line
use Rattle.ca_trace.specs.Lines.{steps_of, block_of, LinesOf, not_done}
use Rattle.ca_trace.specs.Engines.{Recorded}
use Rattle.ca_trace.proofs.Existing.{all_inside, itself}
use Rattle.ca_trace.proofs.Going.{done_in_full}
use Rattle.ca_trace.proofs.OfProgram.{lines_are_of_the_program}
use Rattle.ca_run.specs.Traced.{Traces}
use Rattle.ca_run.specs.Traced.{Told, LinesBehind}

same_ops : (first : List Op) → map operation_of first ≡ map op_of (invocations_of first)
same_ops [] = refl
same_ops (o ∷ os) = ap (λ (l : List OpId). o.op ∷ l) (same_ops os)

done_is_not_declined : {k : ℕ} → Done k ≡ Declined → ⊥
done_is_not_declined e = cc

module _ (p : PlainProgram) (program : ProgramTyped p) (h : List Object) (heap : TypedHeap p h) (first : List Op) (typed : AllWellTyped p h (invocations_of first)) (from : ParallelFrom p (map operation_of first)) (left : ℕ) (before : List Line) (few : length h < 2 ^ 32) where
  abbrev n : Note
  n = note h (invocations_of first) left

  good : NoteGood p n
  good = record { heap = heap; typed = typed; parallel = subst (λ ops. ParallelFrom p ops) (same_ops first) from }

  module _ (after : List Object) (lines : List Line) (steps : ℕ) (t : Told p h h (invocations_of first) left (before ++ line.Block ∷ []) after lines steps) where
    pub told_shapes : SameShapes h after
    told_shapes =
        let g = good.parallel in
        same_shapes p g.extent h after heap (runs_stay p program g.roots g.extent g.is g.parallel h h heap (itself p g.extent n good) (invocations_of first) typed (all_inside g.extent (invocations_of first) g.holds) after [] (invocations_of t.ops) steps t.run).0

    pub told_done : (now : List Object) → now ≡ after → Traces p h (invocations_of first) left now before lines (Done steps)
    told_done now is = record {
      answers = subst (λ g. RunsTo p h (invocations_of first) left g steps) (sym is) (done_in_full p program n good t.ops after steps t.run t.within).0;
      declined = λ e. absurd (done_is_not_declined e);
      recorded = record { lines = block_of t.ops; of_list = (done_in_full p program n good t.ops after steps t.run t.within).1; of_program = lines_are_of_the_program p program n good few (block_of t.ops) (done_in_full p program n good t.ops after steps t.run t.within).1; added = t.added ∙ append_assoc before (line.Block ∷ []) (steps_of t.ops ++ line.End ∷ []) };
    }

  pub told_declined : StuckBehind p h h (invocations_of first) left → (longer cut now : List Line) (k : ℕ) → LinesBehind before longer → k ≡ length before → cut ≡ take k longer → now ≡ cut ++ line.Declined ∷ [] → Traces p h (invocations_of first) left h before now Declined
  told_declined s longer cut now k b is same grown =
      let none : IsNotDone p h (invocations_of first) left = stuck_not_done p program h heap first typed from left [] refl s in
      record {
        answers = refl;
        declined = λ e. none;
        recorded = record { lines = line.Declined ∷ []; of_list = not_done none; of_program = lines_are_of_the_program p program n good few (line.Declined ∷ []) (not_done none); added = grown ∙ ap (λ (l : List Line). l ++ line.Declined ∷ []) (same ∙ (ap (λ (l : List Line). take k l) b.is ∙ take_at before b.more k (sym is))) };
      }
