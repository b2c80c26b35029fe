-- What waits behind rounds and is run in order, as a turn of theirs.
use Rattle.std.proofs.Common.{◌≡◌, ◌<◌, ◌≤◌, ◌+◌, ⊎_elim, ℕ, List, [], ◌∷◌, ◌++◌, length, map, refl, sym, ap, subst, ◌∙◌, arith}
use Rattle.std.proofs.lemmas.List.{length-map, map-append}
use Rattle.ca_program.specs.Plain.{PlainProgram}
use Rattle.ca_model.specs.declared.value.Object.{Object}
use Rattle.ca_meaning.specs.Expressions.{Invocation}
use Rattle.ca_meaning.specs.Multisets.{weight}
use Rattle.ca_parallel.specs.declared.op.Op.{Op}
use Rattle.ca_parallel.specs.Calls.{invocations_of}
use Rattle.ca_order_laws.specs.Pending.{PendingRun, rests, runs}
use Rattle.ca_order_laws.proofs.Sections.{leaves_steps}
use Rattle.ca_logs.specs.declared.log.Task.{Task}
use Rattle.ca_logs.specs.Entries.{task_after, call_of, task_calls}
use Rattle.ca_logs.specs.Telling.{operation_in}
use Rattle.ca_run.specs.declared.turns.Progress.{Progress}
use Rattle.ca_run.specs.declared.turns.Progress.TheVariants.{Went, Stuck}
use Rattle.ca_run.specs.Turns.{RanTo, StuckBehind, WentTo, StuckWithin, Progressed}
use Rattle.ca_workers.specs.clauses.Runs.{with_lent}
use Rattle.ca_workers.proofs.Beginning.{calls_of_tasks}
use Rattle.ca_workers.proofs.Going.{moved}
use Rattle.ca_workers.proofs.Lent.{some_in_round}
use Rattle.ca_workers.proofs.Logs.{steps_for_each}

calls_in : (ts : List Task) → task_calls ts ≡ invocations_of (map operation_in ts)
calls_in [] = refl
calls_in (t ∷ ts) = ap (λ (is : List Invocation). call_of t ∷ is) (calls_in ts)

-- calls that are lent and tasks behind them, whose calls are taken out
handed_on : (calls ops : List Op) (ts : List Task) → ops ≡ map operation_in ts → task_calls (with_lent calls ts) ≡ invocations_of calls ++ invocations_of ops
handed_on calls ops ts is = map-append call_of (map (task_after 0) calls) ts
    ∙ (ap (λ (js : List Invocation). js ++ task_calls ts) (calls_of_tasks calls) ∙ ap (λ (js : List Invocation). invocations_of calls ++ js) (calls_in ts ∙ ap invocations_of (sym is)))

counted : (is : List Invocation) → length is ≡ weight (λ (i : Invocation). 1) is
counted [] = refl
counted (i ∷ is) = let h = counted is in omega (arith, h)

-- where something waited and nothing does, a step was taken
took_a_step : {p : PlainProgram} {frozen last : List Object} {rest order : List Invocation} {h : List Object} {ws : List Invocation} {s : ℕ} → PendingRun p frozen last rest order h ws s → 0 < length ws → rest ≡ [] → 0 < s
took_a_step {p} {frozen} {last} {rest} (rests ws same) some none =
    let all : weight (λ (i : Invocation). 1) ws ≡ weight (λ (i : Invocation). 1) rest = same.weighed (λ (i : Invocation). 1) in
    let nothing : weight (λ (i : Invocation). 1) rest ≡ 0 = ap (weight (λ (i : Invocation). 1)) none in
    let long = counted ws in
    absurd (omega (arith, all, nothing, long, some))
took_a_step {p} {frozen} (runs i more h ws others o m steps same found leaves tail) some none = let lt : 0 < m.steps = leaves_steps p frozen i o m leaves in omega (arith, lt)

module _ (p : PlainProgram) (frozen now : List Object) (calls ops : List Op) (ts : List Task) (is : ops ≡ map operation_in ts) (left limit : ℕ) (after : List Object) (rest : List Invocation) (progress : Progress) (turns : Progressed p frozen now (invocations_of calls ++ invocations_of ops) left limit after rest progress) where
  abbrev ws : List Invocation
  ws = task_calls (with_lent calls ts)

  here : Progressed p frozen now ws left limit after rest progress
  here = subst (λ (js : List Invocation). Progressed p frozen now js left limit after rest progress) (sym (handed_on calls ops ts is)) turns

  pub sticks : progress ≡ Stuck → StuckBehind p frozen now ws left
  sticks e = let s : StuckWithin p frozen now ws left limit = subst (λ (q : Progress). Progressed p frozen now ws left limit after rest q) e here in s.behind

  pub goes_in_order : (steps : ℕ) → progress ≡ Went steps → 0 < limit → 0 < length calls + length ts → (more : List Task) → task_calls more ≡ rest → RanTo p frozen now ws left after (task_calls more) steps × (0 < steps)
  goes_in_order steps e some waits more same =
      let w : WentTo p frozen now ws left limit after rest steps = subst (λ (q : Progress). Progressed p frozen now ws left limit after rest q) e here in
      let ran : RanTo p frozen now ws left after rest steps = w.ran in
      let each = some_in_round calls ts waits in
      let long = length-map (with_lent calls ts) call_of in
      let many : 0 < length ws = omega (arith, each, long) in
      let few : length ran.order ≤ steps = steps_for_each ran.run in (
        moved p frozen now ws left after rest steps ran after refl (task_calls more) same,
        ⊎_elim (λ (none : rest ≡ []). took_a_step ran.run many none) (λ (full : length ran.order ≡ limit). let z : 0 < steps = omega (arith, full, few, some) in z) w.ended,
      )
