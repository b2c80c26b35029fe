-- What tasks of one object do to its history, one after the other, and what the seat notes of it.
use Rattle.std.specs.Prelude.{◌≡◌, ℕ, Bool, true, false, not, ◌++◌, List, [], ◌∷◌, All, Option, Some, None, map}
use Rattle.ca_meaning.specs.Sections.{Sectioned, done, section, Outcome}
use Rattle.ca_logs.specs.declared.log.Task.{Task}
use Rattle.ca_logs.specs.declared.log.Stop.{Stop}
use Rattle.ca_logs.specs.declared.log.Entry.{Entry}
use Rattle.ca_logs.specs.declared.log.CellLog.{CellLog}
use Rattle.ca_logs.specs.Entries.{HasReceiver, task_after, with_entry}
use Rattle.ca_cells.specs.Histories.{is_closed, is_last_clock, next_clock, ran_entry, stuck_entry, op_of}
use Rattle.ca_cells.specs.Rounds.{program_of, frozen_of, IsLegal, MayRun}
use Rattle.ca_cells.specs.Notes.{IsKept, note_of, last_place}
use Rattle.ca_cells.specs.Seats.{IsStop, notes_of, kept_of}
use Rattle.ca_cells.specs.declared.rule.Given.{Given}
use Rattle.ca_cells.specs.declared.rule.Note.{Note}
use Rattle.ca_cells.specs.declared.rule.Place.{Place}
use Rattle.ca_cells.specs.declared.cells.Seat.{Seat}

-- within so many steps each, on the object of this number
module _ (given : Given) (left : ℕ) (number : ℕ) where
  abbrev pub section_on : Task → CellLog → Sectioned
  section_on task found = section (program_of given) (frozen_of given) task.op.receiver found.object task.op.op task.op.args left

  -- the entry of its complete section
  abbrev pub entry_ran : Task → CellLog → Outcome → Entry
  entry_ran task found m = ran_entry task (next_clock found task.after) m.steps (map op_of m.listed)

  abbrev pub entry_stuck : Task → CellLog → Stop → Entry
  entry_stuck task found why = stuck_entry task (next_clock found task.after) why

  -- the tasks that it lists, which may run after the entry
  abbrev pub made_by : Task → CellLog → Outcome → List Task
  made_by task found m = map (task_after (next_clock found task.after)) (map op_of m.listed)

  -- From a history to another: the tasks, the entries as they are noted, what they listed, the stop, and the tasks that are
  -- kept. The tasks end with a section that stops, or with a task of which the history takes no entry.
  pub data Runs : CellLog → List Task → List Note → List Task → Option Stop → List Task → CellLog → Type 0 where
    all_ran : (log : CellLog) → Runs log [] [] [] None [] log
    one_ran : (old : CellLog) (task : Task) (tasks : List Task) (m : Outcome) (notes : List Note) (made : List Task) (stop : Option Stop) (kept : List Task) (new : CellLog) →
        is_closed old task.after ≡ false → section_on task old ≡ done m → IsLegal given number (with_entry old (entry_ran task old m) m.object) →
        Runs (with_entry old (entry_ran task old m) m.object) tasks notes made stop kept new →
        Runs old (task ∷ tasks) (note_of number old (entry_ran task old m) ∷ notes) (made_by task old m ++ made) stop kept new
    one_stuck : (old : CellLog) (task : Task) (tasks : List Task) (why : Stop) →
        is_closed old task.after ≡ false → IsStop (section_on task old) why → IsLegal given number (with_entry old (entry_stuck task old why) old.object) →
        Runs old (task ∷ tasks) (note_of number old (entry_stuck task old why) ∷ []) [] (Some why) tasks (with_entry old (entry_stuck task old why) old.object)
    one_kept : (old : CellLog) (task : Task) (tasks : List Task) → is_closed old task.after ≡ true → Runs old (task ∷ tasks) [] [] None (task ∷ tasks) old

-- whether the history is the cause that tasks are kept, and not the first one's own clock
abbrev pub is_closed_to : Option Stop → List Task → Bool
is_closed_to None (task ∷ tasks) = not (is_last_clock task.after)
is_closed_to stop tasks = false

-- the place of the last entry, where that one keeps the tasks
abbrev pub closing_place : ℕ → CellLog → Bool → List Place
closing_place number log true = last_place number log ∷ []
closing_place number log false = []

-- What tasks of one object do in its cell, and what the seat notes of it.
pub record AppliesAll (given : Given) (tasks : List Task) (left : ℕ) (old new : Seat) (made : List Task) (stop : Option Stop) (kept : List Task) : Type 0 where
  pub cell : ℕ
  pub found : CellLog
  pub last : CellLog
  pub notes : List Note
  pub legal : IsLegal given cell found
  pub one : All (HasReceiver cell) tasks
  pub runs : Runs given left cell found tasks notes made stop kept last
  pub noted : notes_of new ≡ notes_of old ++ notes
  pub closed : kept_of new ≡ kept_of old ++ closing_place cell last (is_closed_to stop kept)
  pub closing : is_closed_to stop kept ≡ true → IsKept last (last_place cell last)
  pub may_run : All (MayRun given) made
