-- What a task of a free operation does: its section on its receiver's object in the frozen heap is an entry that stands in no
-- history, with the clock next to the task's. It is kept where no clock is next, and behind an entry with a stop.
use Rattle.std.specs.Prelude.{◌≡◌, ℕ, suc, Bool, ◌||◌, true, false, List, [], ◌∷◌, ◌++◌, All, map}
use Rattle.ca_program.specs.Plain.{PlainProgram}
use Rattle.ca_model.specs.declared.value.Object.{Object}
use Rattle.ca_meaning.specs.Sections.{Sectioned, done, stopped, over, Outcome}
use Rattle.ca_logs.specs.declared.log.Task.{Task}
use Rattle.ca_logs.specs.declared.log.Stop.{Stop}
use Rattle.ca_logs.specs.declared.log.Stop.TheVariants.{Trapped, Spent}
use Rattle.ca_logs.specs.declared.log.Entry.{Entry}
use Rattle.ca_logs.specs.Lasts.{last_of}
use Rattle.ca_logs.specs.Entries.{has_stop, task_after}
use Rattle.ca_logs.specs.Loose.{frozen_section}
use Rattle.ca_cells.specs.Adds.{IsRan}
use Rattle.ca_cells.specs.Histories.{is_last_clock, ran_entry, stuck_entry, op_of}
use Rattle.ca_cells.specs.Rounds.{program_of, frozen_of, MayRun}
use Rattle.ca_cells.specs.Seats.{IsStop}
use Rattle.ca_cells.specs.declared.adding.Added.{Added}
use Rattle.ca_cells.specs.declared.adding.Added.TheVariants as added
use Rattle.ca_cells.specs.declared.rule.Given.{Given}
use Rattle.ca_cells.specs.declared.cells.Applied.{Applied}
use Rattle.ca_cells.specs.declared.cells.Applied.TheVariants.{Ran, Stuck, Kept}

-- no entry comes behind these of a task that may run after this clock
abbrev pub is_closed_free : List Entry → ℕ → Bool
is_closed_free es after = has_stop (last_of es) || is_last_clock after

-- the entry of its complete section, and of one that stopped
abbrev pub free_ran : Task → Outcome → Entry
free_ran task m = ran_entry task (suc task.after) m.steps (map op_of m.listed)

abbrev pub free_stuck : Task → Stop → Entry
free_stuck task why = stuck_entry task (suc task.after) why

-- the tasks that it lists, which may run after the entry
abbrev pub free_made : Task → Outcome → List Task
free_made task m = map (task_after (suc task.after)) (map op_of m.listed)

-- whether no entry comes, and how the section ends: the entries before and after, and the answer
abbrev pub AddsFreeBy : Bool → Sectioned → Task → List Entry → List Entry → Added → Type 0
AddsFreeBy true s task old new answer = (answer ≡ added.Kept) × (new ≡ old)
AddsFreeBy false (done m) task old new answer = (new ≡ old ++ free_ran task m ∷ []) × IsRan answer (free_made task m) m.steps
AddsFreeBy false (stopped t) task old new answer = (answer ≡ added.Stuck (Trapped t)) × (new ≡ old ++ free_stuck task (Trapped t) ∷ [])
AddsFreeBy false over task old new answer = (answer ≡ added.Stuck Spent) × (new ≡ old ++ free_stuck task Spent ∷ [])

-- within so many steps
abbrev pub AddsFree : PlainProgram → List Object → Task → ℕ → List Entry → List Entry → Added → Type 0
AddsFree p frozen task left old new answer = AddsFreeBy (is_closed_free old task.after) (frozen_section p frozen task left) task old new answer

-- What it does for a seat, whose loose entries are these before and after.
module _ (given : Given) (task : Task) (left : ℕ) (old new : List Entry) where
  abbrev section_of : Sectioned
  section_of = frozen_section (program_of given) (frozen_of given) task left

  -- its section is complete, and its entry is added
  pub record RanFree (made : List Task) (taken : ℕ) : Type 0 where
    pub outcome : Outcome
    pub takes_one : is_closed_free old task.after ≡ false
    pub section : section_of ≡ done outcome
    pub tasks : made ≡ free_made task outcome
    pub steps : taken ≡ outcome.steps
    pub loose : new ≡ old ++ free_ran task outcome ∷ []
    pub may_run : All (MayRun given) made

  -- its section stops, and its entry is added
  pub record StuckFree (why : Stop) : Type 0 where
    pub takes_one : is_closed_free old task.after ≡ false
    pub section : IsStop section_of why
    pub loose : new ≡ old ++ free_stuck task why ∷ []

  -- no entry of it is taken
  pub record KeptFree (back : Task) : Type 0 where
    pub same : back ≡ task
    pub closed : is_closed_free old task.after ≡ true
    pub loose : new ≡ old

  abbrev pub AppliesFree : Applied → Type 0
  AppliesFree (Ran tasks steps) = RanFree tasks.items steps
  AppliesFree (Stuck why) = StuckFree why
  AppliesFree (Kept back) = KeptFree back
