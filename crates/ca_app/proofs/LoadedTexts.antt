-- What the run of a generated text comes to.
use Rattle.std.proofs.Common.{◌≡◌, ℕ, ◌+◌, ◌*◌, ◌≤◌, List, sym, ◌∙◌, subst, arith}
use Rattle.ca_base.specs.Devices.{Rose}
use Rattle.ca_tree.specs.declared.name.Place.{Place}
use Rattle.ca_program.specs.Plain.{PlainProgram}
use Rattle.ca_model.specs.declared.value.Object.{Object}
use Rattle.ca_model.specs.declared.value.Trap.{Trap}
use Rattle.ca_model.specs.declared.value.Value.{Value as Datum}
use Rattle.ca_meaning.specs.Serial.{Ended, done, trapped, spent, serial}
use Rattle.ca_gen.specs.Generated.{generated}
use Rattle.ca_app.specs.Accepted.{Accepted}
use Rattle.ca_app.specs.Causes.{IsDone}
use Rattle.ca_app.specs.clauses.Reading.{IsProgramOf, IsRefusalOf}
use Rattle.ca_app.specs.Reply.{IsLoaded}
use Rattle.ca_app.proofs.GeneratedRuns.{done_within_more}

-- the text has a program whose run is done within so many steps
abbrev pub Runs : List ℕ → ℕ → Type 0
Runs text budget = (p : PlainProgram) × Accepted text p × IsDone (serial p budget)

module _ {text : List ℕ} where
  -- which is the program that was read
  pub read_is_done : {p : PlainProgram} (size : ℕ) → size ≤ 20000 → IsProgramOf text p → Runs text (5 * size + 2) → IsDone (serial p 1000000000)
  read_is_done {p} size most is runs =
      let P : PlainProgram → Type 0 = λ x. IsDone (serial x (5 * size + 2)) in
      done_within_more p (5 * size + 2) 1000000000 (omega arith) (subst P (is.only runs.0 runs.1) runs.2)

  pub never_refused : {at : Place} {code budget : ℕ} → IsRefusalOf text at code → Runs text budget → ⊥
  never_refused is runs = is.unaccepted runs.0 runs.1

  pub is_loaded : {p : PlainProgram} {heap : List Object} {steps : ℕ} (seed size : ℕ) → text ≡ generated seed size → IsProgramOf text p
      → (prints : List Datum) × (serial p 1000000000 ≡ done prints heap steps) → IsLoaded seed size heap steps
  is_loaded {p} seed size is read ran =
      let P : List ℕ → Type 0 = λ t. Accepted t p in
      record { program = p; accepted = subst P is read.accepted; prints = ran.0; ran = ran.1 }

-- what is done neither traps nor is spent
pub never_trapped : {e : Ended} (prints : List Datum) (t : Trap) → IsDone e → e ≡ trapped prints t → ⊥
never_trapped prints t d is = let e = sym is ∙ d.3 in cc

pub never_spent : {e : Ended} (prints : List Datum) → IsDone e → e ≡ spent prints → ⊥
never_spent prints d is = let e = sym is ∙ d.3 in cc

-- a sink without faults never has one more
pub never_rose : Rose 0 0 → ⊥
never_rose rose = omega arith
