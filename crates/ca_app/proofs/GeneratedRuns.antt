-- A generated text is accepted, and its serial run is done, within each budget that is great enough.
use Rattle.std.proofs.Common.{◌≡◌, ℕ, ◌+◌, ◌*◌, ◌-◌, ◌≤◌, List, [], map, refl, sym, ap, ◌∙◌, subst, arith}
use Rattle.ca_program.specs.Plain.{PlainProgram}
use Rattle.ca_model.specs.declared.value.Value.{Value as Datum}
use Rattle.ca_model.specs.declared.value.Value.TheVariants.{Null}
use Rattle.ca_model.specs.Slots.{start_of}
use Rattle.ca_meaning.specs.Flows.{Flow, goes_on, gives_back, stops, runs_out}
use Rattle.ca_meaning.specs.Serial.{World, fresh, done, ended, main_run, serial}
use Rattle.ca_meaning_laws.specs.Budgets.{on_with}
use Rattle.ca_meaning_laws.proofs.Bigs.{all_serial_steady}
use Rattle.ca_gen.specs.Generated.{generated}
use Rattle.ca_gen_laws.specs.Runs.{RunsWithin}
use Rattle.ca_gen_laws.proofs.Accepted.{runs_within}
use Rattle.ca_app.specs.Accepted.{Accepted}
use Rattle.ca_app.specs.Causes.{IsDone}

accepted_text : {text : List ℕ} {budget : ℕ} → RunsWithin 1048576 budget text → (p : PlainProgram) × Accepted text p × IsDone (serial p budget)
accepted_text r = (
  r.program,
  record { tree = r.tree; has_tree = record { tokens = r.tokens; has_tokens = record { short = r.short; lexed = r.lexed; few = r.few }; derived = r.derived }; resolved = r.resolved },
  ([], r.heap, r.steps, r.done),
)

pub generated_runs : (text : List ℕ) (seed size : ℕ) → 1 ≤ size → size ≤ 20000 → text ≡ generated seed size → (p : PlainProgram) × Accepted text p × IsDone (serial p (5 * size + 2))
generated_runs text seed size some most is =
    let P : List ℕ → Type 0 = λ t. RunsWithin 1048576 (5 * size + 2) t in
    accepted_text (subst P (sym is) (runs_within seed size some most))

-- How statements went that are done.
record WentOn (f : Flow World) : Type 0 where
  pub locals : List Datum
  pub world : World
  pub left : ℕ
  pub is : f ≡ goes_on locals world left

went_on : (budget : ℕ) (f : Flow World) → IsDone (ended budget f) → WentOn f
went_on budget (goes_on ls w k) d = record { locals = ls; world = w; left = k; is = refl }
went_on budget (gives_back v w k) d = let e = d.3 in absurd cc
went_on budget (stops t w) d = let e = d.3 in absurd cc
went_on budget (runs_out w) d = let e = d.3 in absurd cc

-- what is done within a budget is done within each greater one
pub done_within_more : (p : PlainProgram) (b c : ℕ) → b ≤ c → IsDone (serial p b) → IsDone (serial p c)
done_within_more p b c more d =
    let went : WentOn (main_run p b) = went_on b (main_run p b) d in
    let reached = (all_serial_steady p Null p.main.statements (map start_of p.main.locals) (fresh []) b).reached b (omega arith) (on_with went.locals went.world) went.left went.is in
    let is = reached.is in
    let further : c ≡ reached.s + (c - reached.s) = omega arith in
    let end : main_run p c ≡ goes_on went.locals went.world (c - reached.s) = ap (main_run p) further ∙ reached.reaches.at (c - reached.s) in
    (went.world.prints, went.world.heap, c - (c - reached.s), ap (ended c) end)
