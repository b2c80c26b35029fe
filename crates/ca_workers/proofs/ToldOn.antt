-- Rounds put together, with the lines of their operations.
use Rattle.std.proofs.Common.{◌≡◌, ℕ, ◌+◌, ◌-◌, ◌<◌, ◌≤◌, ◌^◌, List, [], ◌∷◌, ◌++◌, length, take, map, refl, ap, sym, subst, ◌∙◌, arith, append_assoc, append-nil}
use Rattle.std.proofs.lemmas.List.{map-append, take_at}
use Rattle.ca_program.specs.declared.program.OpId.{OpId}
use Rattle.ca_program.specs.Plain.{PlainProgram}
use Rattle.ca_model.specs.declared.value.Object.{Object}
use Rattle.ca_model.specs.Typed.{TypedHeap}
use Rattle.ca_meaning.specs.Expressions.{Invocation}
use Rattle.ca_meaning.specs.ProgramTyped.{ProgramTyped}
use Rattle.ca_meaning.specs.WellTyped.{AllWellTyped}
use Rattle.ca_parallel.specs.declared.op.Op.{Op}
use Rattle.ca_parallel.specs.Calls.{invocation_of, invocations_of, operation_of}
use Rattle.ca_parallel.specs.Lists.{note}
use Rattle.ca_parallel.specs.Notes.{op_of, NoteGood}
use Rattle.ca_parallel.specs.Parallel.{ParallelFrom}
use Rattle.ca_order_laws.specs.Pending.{PendingRun, rests}
use Rattle.ca_order_laws.proofs.PendingRuns.{rounds}
use Rattle.ca_logs.specs.declared.log.Entry.{Entry}
use Rattle.ca_logs.specs.declared.log.CellLog.{CellLog}
use Rattle.ca_logs.specs.Entries.{ran_in, tasks_in, task_calls}
use Rattle.ca_logs.specs.LogOrder.{ordered}
use Rattle.ca_logs.specs.Laws.{objects_of}
use Rattle.ca_cells.specs.declared.cells.RoundLog.{RoundLog}
use Rattle.ca_cells.specs.Logs.{logs_in, loose_in}
use Rattle.ca_pool.specs.Gathered.{IsTold}
use Rattle.ca_serial.specs.declared.extents.ExtentAnswer.TheVariants.{Declined}
use Rattle.ca_serial.specs.Extents.{IsNotDone}
use Rattle.ca_trace.specs.declared.line.Line.{Line}
use Rattle.ca_trace.specs.declared.line.Line.TheVariants as line
use Rattle.ca_trace.specs.Lines.{step_of, steps_of, not_done}
use Rattle.ca_trace.proofs.OfProgram.{lines_are_of_the_program}
use Rattle.ca_run.specs.Traced.{LinesBehind, Told, Traces}
use Rattle.ca_run.specs.Turns.{RanTo}
use Rattle.ca_run.proofs.Going.{Going}
use Rattle.ca_workers.specs.clauses.Runs.{RanBy, order_in}
use Rattle.ca_workers.specs.clauses.Told.{Adds, RanTold}
use Rattle.ca_workers.proofs.Parts.{told_entries}

-- ---- lines behind others

pub none_behind_them : (before lines : List Line) → lines ≡ before → LinesBehind before lines
none_behind_them before lines same = record { more = []; is = same ∙ sym (append-nil before) }

pub behind_both : (before mid lines : List Line) → LinesBehind before mid → LinesBehind mid lines → LinesBehind before lines
behind_both before mid lines a b = record {
  more = a.more ++ b.more;
  is = b.is ∙ (ap (λ (l : List Line). l ++ b.more) a.is ∙ append_assoc before a.more b.more);
}

pub adds_behind : (before : List Line) (logs : List CellLog) (loose : List (List Entry)) (lines : List Line) → Adds before logs loose lines → LinesBehind before lines
adds_behind before logs loose lines a = record { more = steps_of a.ops; is = a.added }

pub line_behind : (before mid lines : List Line) (l : Line) → LinesBehind before mid → lines ≡ mid ++ l ∷ [] → LinesBehind before lines
line_behind before mid lines l a grown = behind_both before mid lines a (record { more = l ∷ []; is = grown })

-- cut to the lines before
pub cut_again : (before longer : List Line) (k : ℕ) → LinesBehind before longer → k ≡ length before → take k longer ≡ before
cut_again before longer k b size = ap (λ (l : List Line). take k l) b.is ∙ take_at before b.more k (sym size)

-- ---- one round

-- what a round ran, in the order of its log, in that of the lines that were added
pub round_told : (p : PlainProgram) (frozen h : List Object) (ws : List Invocation) (left : ℕ) (before : List Line) (log : RoundLog) → IsTold log → (logs : List CellLog) (loose : List (List Entry)) → logs ≡ log.logs.items → loose ≡ loose_in log →
    (after : List Object) → after ≡ objects_of (logs_in log) → (rest : List Invocation) (steps : ℕ) → RanBy p frozen h ws left (objects_of (logs_in log)) rest (order_in log) steps → (lines : List Line) → Adds before logs loose lines → RanTold p frozen h ws left before after rest lines steps × (0 < steps)
round_told p frozen h ws left before log told logs loose a b after heap rest steps r lines adds =
    let same : invocations_of adds.ops ≡ order_in log = adds.calls ∙ ap (λ (es : List Entry). task_calls (tasks_in (ordered (ran_in es)))) (told_entries log told logs loose a b) in (
      record {
        ops = adds.ops;
        run = subst (λ (os : List Invocation). PendingRun p frozen after rest os h ws steps) (sym same)
            (subst (λ (g : List Object). PendingRun p frozen g rest (order_in log) h ws steps) (sym heap) r.run);
        within = r.within;
        added = adds.added;
      },
      r.some,
    )

pub round_runs : (p : PlainProgram) (frozen h : List Object) (ws : List Invocation) (left : ℕ) (before : List Line) (after : List Object) (rest : List Invocation) (lines : List Line) (steps : ℕ) → RanTold p frozen h ws left before after rest lines steps → RanTo p frozen h ws left after rest steps
round_runs p frozen h ws left before after rest lines steps r = record { order = invocations_of r.ops; run = r.run; within = r.within }

-- ---- rounds one after the other

-- the machine ran so far, in the order of the lines that were added
pub record GoingTold (p : PlainProgram) (frozen h : List Object) (ws : List Invocation) (budget : ℕ) (before : List Line) (now : List Object) (rest : List Invocation) (left : ℕ) (lines : List Line) : Type 0 where
  pub ops : List Op
  pub steps : ℕ
  pub run : PendingRun p frozen now rest (invocations_of ops) h ws steps
  pub sum : steps + left ≡ budget
  pub added : lines ≡ before ++ steps_of ops

module _ (p : PlainProgram) (frozen h : List Object) (ws : List Invocation) (budget : ℕ) (before : List Line) where
  pub nothing_told : GoingTold p frozen h ws budget before h ws budget before
  nothing_told = record { ops = []; steps = 0; run = rests ws (record { weighed = λ f. refl }); sum = omega arith; added = sym (append-nil before) }

  module _ (now : List Object) (rest : List Invocation) (left : ℕ) (lines : List Line) (g : GoingTold p frozen h ws budget before now rest left lines) where
    pub untold : Going p frozen h ws budget 0 now rest left
    untold = record { order = invocations_of g.ops; steps = g.steps; run = g.run; sum = g.sum; counted = omega arith }

    pub told_on : (after : List Object) (more : List Invocation) (longer : List Line) (steps : ℕ) → RanTold p frozen now rest left lines after more longer steps → GoingTold p frozen h ws budget before after more (left - steps) longer
    told_on after more longer steps r =
        let le : steps ≤ left = r.within in
        let sum : g.steps + left ≡ budget = g.sum in
        let both : PendingRun p frozen after more (invocations_of g.ops ++ invocations_of r.ops) h ws (g.steps + steps) = rounds p frozen h now after ws rest more (invocations_of g.ops) (invocations_of r.ops) g.steps steps g.run r.run in
        record {
          ops = g.ops ++ r.ops;
          steps = g.steps + steps;
          run = subst (λ (os : List Invocation). PendingRun p frozen after more os h ws (g.steps + steps)) (sym (map-append invocation_of g.ops r.ops)) both;
          sum = (let z : (g.steps + steps) + (left - steps) ≡ budget = omega (arith, le, sum) in z);
          added = r.added ∙ (ap (λ (l : List Line). l ++ steps_of r.ops) g.added ∙ (append_assoc before (steps_of g.ops) (steps_of r.ops) ∙ ap (λ (l : List Line). before ++ l) (sym (map-append step_of g.ops r.ops))));
        }

    pub told_behind : LinesBehind before lines
    told_behind = record { more = steps_of g.ops; is = g.added }

    pub told_to_its_end : rest ≡ [] → RanTold p frozen h ws budget before now [] lines (budget - left)
    told_to_its_end none =
        let sum : g.steps + left ≡ budget = g.sum in
        let steps : g.steps ≡ budget - left = omega (arith, sum) in
        record {
          ops = g.ops;
          run = subst (λ (n : ℕ). PendingRun p frozen now [] (invocations_of g.ops) h ws n) steps (subst (λ (is : List Invocation). PendingRun p frozen now is (invocations_of g.ops) h ws g.steps) none g.run);
          within = (let z : budget - left ≤ budget = omega arith in z);
          added = g.added;
        }

-- ---- a whole list

-- what holds of what is the same
pub carried : (Q : PlainProgram → List Object → List Invocation → List Line → Type 0) (q p : PlainProgram) (g h : List Object) (js is : List Invocation) (d b : List Line) → q ≡ p → g ≡ h → js ≡ is → d ≡ b → Q q g js d → Q p h is b
carried Q q p g h js is d b e f k l x = subst (λ (z : PlainProgram). Q z h is b) e (subst (λ (z : List Object). Q q z is b) f (subst (λ (z : List Invocation). Q q g z b) k (subst (λ (z : List Line). Q q g js z) l x)))

-- with the end of the block
pub block_told : (p : PlainProgram) (frozen h : List Object) (is : List Invocation) (left : ℕ) (before : List Line) (last : List Object) (lines : List Line) (steps : ℕ) → RanTold p frozen h is left before last [] lines steps → (longer : List Line) → longer ≡ lines ++ line.End ∷ [] → Told p frozen h is left before last longer steps
block_told p frozen h is left before last lines steps r longer grown = record {
  ops = r.ops;
  run = r.run;
  within = r.within;
  added = grown ∙ (ap (λ (l : List Line). l ++ line.End ∷ []) r.added ∙ append_assoc before (steps_of r.ops) (line.End ∷ []));
}

same_ops : (first : List Op) → map operation_of first ≡ map op_of (invocations_of first)
same_ops [] = refl
same_ops (o ∷ os) = ap (λ (l : List OpId). o.op ∷ l) (same_ops os)

-- the list isn't done, and the lines were cut
pub none_told : (p : PlainProgram) → ProgramTyped p → (h : List Object) → TypedHeap p h → (first : List Op) → AllWellTyped p h (invocations_of first) → ParallelFrom p (map operation_of first) → (left : ℕ) → length h < 2 ^ 32 → IsNotDone p h (invocations_of first) left →
    (before longer now : List Line) (k : ℕ) → LinesBehind before longer → k ≡ length before → now ≡ take k longer ++ line.Declined ∷ [] → Traces p h (invocations_of first) left h before now Declined
none_told p program h heap first typed from left few none before longer now k b size grown =
    let good : NoteGood p (note h (invocations_of first) left) = record { heap = heap; typed = typed; parallel = subst (λ (ops : List OpId). ParallelFrom p ops) (same_ops first) from } in
    record {
      answers = refl;
      declined = λ e. none;
      recorded = record {
        lines = line.Declined ∷ [];
        of_list = not_done none;
        of_program = lines_are_of_the_program p program (note h (invocations_of first) left) good few (line.Declined ∷ []) (not_done none);
        added = grown ∙ ap (λ (l : List Line). l ++ line.Declined ∷ []) (cut_again before longer k b size);
      };
    }
