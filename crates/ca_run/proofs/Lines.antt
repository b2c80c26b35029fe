-- Lines that are added while operations run.
use Rattle.std.proofs.Common.{◌≡◌, ℕ, ◌+◌, ◌-◌, ◌≤◌, List, [], ◌∷◌, ◌++◌, refl, ap, sym, subst, ◌∙◌, arith, append_assoc, append-nil}
use Rattle.std.proofs.lemmas.List.{map-append}
use Rattle.ca_program.specs.Plain.{PlainProgram}
use Rattle.ca_model.specs.declared.value.Object.{Object}
use Rattle.ca_meaning.specs.Expressions.{Invocation}
use Rattle.ca_parallel.specs.declared.op.Op.{Op}
use Rattle.ca_parallel.specs.Calls.{invocation_of, invocations_of}
use Rattle.ca_order_laws.specs.Pending.{PendingRun, rests}
use Rattle.ca_order_laws.proofs.PendingRuns.{rounds}
use Rattle.ca_run.specs.Turns.{RanThis, Sticking, StuckBehind}
use Rattle.ca_run.proofs.Going.{ran_within, one_run}
use Rattle.ca_run.proofs.Turning.{taken}
use Rattle.ca_trace.specs.declared.line.Line.{Line}
use Rattle.ca_trace.specs.declared.line.Line.TheVariants.{End, Step}
use Rattle.ca_trace.specs.Lines.{step_of, steps_of}
use Rattle.ca_run.specs.Traced.{Told, LinesBehind}

pub record Recording (p : PlainProgram) (frozen h : List Object) (is : List Invocation) (left : ℕ) (before : List Line) (now : List Object) (rest : List Invocation) (still : ℕ) (lines : List Line) : Type 0 where
  pub ops : List Op
  pub steps : ℕ
  pub run : PendingRun p frozen now rest (invocations_of ops) h is steps
  pub sum : steps + still ≡ left
  pub added : lines ≡ before ++ steps_of ops

pub at_start : (p : PlainProgram) (frozen h : List Object) (is : List Invocation) (left : ℕ) (before : List Line) → Recording p frozen h is left before h is left before
at_start p frozen h is left before = record { ops = []; steps = 0; run = rests is (record { weighed = λ f. refl }); sum = omega arith; added = sym (append-nil before) }

module _ (p : PlainProgram) (frozen h : List Object) (is : List Invocation) (left : ℕ) (before : List Line) (now : List Object) (ws others : List Op) (still : ℕ) (lines : List Line) (r : Recording p frozen h is left before now (invocations_of ws) still lines) (op : Op) (popped : ws ≡ others ++ op ∷ []) where
  -- with the operation in front
  in_front : PendingRun p frozen now (invocation_of op ∷ invocations_of others) (invocations_of r.ops ++ []) h is (r.steps + 0)
  in_front = rounds p frozen h now now is (invocations_of ws) (invocation_of op ∷ invocations_of others) (invocations_of r.ops) [] r.steps 0 r.run (rests (invocations_of ws) (taken ws others op popped))

  pub one_on : (after : List Object) (more : List Invocation) (steps : ℕ) (longer : List Line) → RanThis p frozen now (invocation_of op ∷ invocations_of others) still (invocation_of op) after more steps → longer ≡ lines ++ Step op ∷ [] → Recording p frozen h is left before after more (still - steps) longer
  one_on after more steps longer q grown =
      let one : PendingRun p frozen after more (invocation_of op ∷ []) now (invocation_of op ∷ invocations_of others) steps = one_run p frozen now (invocation_of op ∷ invocations_of others) still (invocation_of op) after more steps q in
      let both : PendingRun p frozen after more ((invocations_of r.ops ++ []) ++ invocation_of op ∷ []) h is ((r.steps + 0) + steps) = rounds p frozen h now after is (invocation_of op ∷ invocations_of others) more (invocations_of r.ops ++ []) (invocation_of op ∷ []) (r.steps + 0) steps in_front one in
      let order : (invocations_of r.ops ++ []) ++ invocation_of op ∷ [] ≡ invocations_of (r.ops ++ op ∷ []) = ap (λ (l : List Invocation). l ++ invocation_of op ∷ []) (append-nil (invocations_of r.ops)) ∙ sym (map-append invocation_of r.ops (op ∷ [])) in
      let le : steps ≤ still = ran_within p frozen now (invocation_of op ∷ invocations_of others) still (invocation_of op) after more steps q in let sum = r.sum in
      record {
        ops = r.ops ++ op ∷ [];
        steps = (r.steps + 0) + steps;
        run = subst (λ os. PendingRun p frozen after more os h is ((r.steps + 0) + steps)) order both;
        sum = (let z : ((r.steps + 0) + steps) + (still - steps) ≡ left = omega (arith, le, sum) in z);
        added = grown ∙ (ap (λ (l : List Line). l ++ Step op ∷ []) r.added ∙ (append_assoc before (steps_of r.ops) (Step op ∷ []) ∙ ap (λ (l : List Line). before ++ l) (sym (map-append step_of r.ops (op ∷ [])))));
      }

  pub stuck : Sticking p frozen now (invocation_of op ∷ invocations_of others) still → StuckBehind p frozen h is left
  stuck k =
      let sum = r.sum in
      record {
        mid = now;
        rest = invocation_of op ∷ invocations_of others;
        steps = r.steps + 0;
        ran = record { order = invocations_of r.ops ++ []; run = in_front; within = (let z : r.steps + 0 ≤ left = omega (arith, sum) in z) };
        stuck = subst (λ n. Sticking p frozen now (invocation_of op ∷ invocations_of others) n) (let z : still ≡ left - (r.steps + 0) = omega (arith, sum) in z) k;
      }

module _ (p : PlainProgram) (frozen h : List Object) (is : List Invocation) (left : ℕ) (before : List Line) (now : List Object) (still : ℕ) (lines : List Line) where
  pub lines_behind : (rest : List Invocation) → Recording p frozen h is left before now rest still lines → LinesBehind before lines
  lines_behind rest r = record { more = steps_of r.ops; is = r.added }

  pub longer_behind : (rest : List Invocation) → Recording p frozen h is left before now rest still lines → (longer : List Line) (l : Line) → longer ≡ lines ++ l ∷ [] → LinesBehind before longer
  longer_behind rest r longer l grown = record { more = steps_of r.ops ++ l ∷ []; is = grown ∙ (ap (λ (z : List Line). z ++ l ∷ []) r.added ∙ append_assoc before (steps_of r.ops) (l ∷ [])) }

  pub all_told : (ws : List Op) → ws ≡ [] → Recording p frozen h is left before now (invocations_of ws) still lines → (longer : List Line) → longer ≡ lines ++ End ∷ [] → Told p frozen h is left before now longer (left - still)
  all_told ws none r longer grown =
      let sum = r.sum in
      let steps : r.steps ≡ left - still = omega (arith, sum) in
      record {
        ops = r.ops;
        run = subst (λ n. PendingRun p frozen now [] (invocations_of r.ops) h is n) steps (subst (λ os. PendingRun p frozen now os (invocations_of r.ops) h is r.steps) (ap invocations_of none) r.run);
        within = (let z : left - still ≤ left = omega arith in z);
        added = grown ∙ (ap (λ (z : List Line). z ++ End ∷ []) r.added ∙ append_assoc before (steps_of r.ops) (End ∷ []));
      }
