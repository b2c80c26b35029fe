-- How tasks of one object are run one after the other, and how what they did is taken back.
use Rattle.std.specs.Prelude.{◌≡◌, ◌≤◌, ℕ, Bool, true, false, not, List, [], ◌++◌, All, take, drop, length, None}
use Rattle.ca_meaning.specs.Sections.{done, Outcome}
use Rattle.ca_undo.specs.Olds.{put_back, AllThere}
use Rattle.ca_undo.specs.declared.olds.Old.{Old}
use Rattle.ca_sections.specs.Answers.{CanUndo}
use Rattle.ca_sections.specs.declared.desk.Desk.{Desk}
use Rattle.ca_model.specs.declared.value.Object.{Object}
use Rattle.ca_logs.specs.declared.log.Task.{Task}
use Rattle.ca_logs.specs.declared.log.Stop.{Stop}
use Rattle.ca_logs.specs.declared.log.CellLog.{CellLog}
use Rattle.ca_logs.specs.Entries.{with_entry}
use Rattle.ca_cells.specs.Histories.{is_closed, is_last_clock}
use Rattle.ca_cells.specs.Rounds.{IsLegal, MayRun}
use Rattle.ca_cells.specs.Notes.{IsKept, last_place}
use Rattle.ca_cells.specs.Seats.{IsStop}
use Rattle.ca_cells.specs.Items.{Runs, is_closed_to, section_on, entry_ran, entry_stuck, made_by}
use Rattle.ca_cells.specs.declared.rule.Given.{Given}
use Rattle.ca_cells.specs.declared.rule.Note.{Note}
use Rattle.ca_cells.specs.declared.cells.course.Course.{Course}
use Rattle.ca_cells.specs.declared.cells.course.Next.{Next}
use Rattle.ca_cells.specs.declared.cells.course.Next.TheVariants.{Ran, Stuck, Closed}

-- they ran to this history, and those behind the ones that have an entry are kept
pub record RunsTo (given : Given) (left number : ℕ) (old : CellLog) (tasks made : List Task) (course : Course) (new : CellLog) : Type 0 where
  pub notes : List Note
  pub runs : Runs given left number old tasks notes made course.stop (drop course.count tasks) new
  pub count : course.count ≤ length tasks
  pub closed : course.closed ≡ is_closed_to course.stop (drop course.count tasks)
  pub closing : course.closed ≡ true → IsKept new (last_place number new)
  pub may_run : All (MayRun given) made

-- What the next task does.
module _ (given : Given) (left number : ℕ) (task : Task) (old new : CellLog) (had made : List Task) where
  pub record RanNext : Type 0 where
    pub outcome : Outcome
    pub takes_one : is_closed old task.after ≡ false
    pub section : section_on given left number task old ≡ done outcome
    pub new_is : new ≡ with_entry old (entry_ran given left number task old outcome) outcome.object
    pub legal : IsLegal given number new
    pub made_is : made ≡ had ++ made_by given left number task old outcome
    pub may_run : All (MayRun given) (made_by given left number task old outcome)

  pub record StuckNext (why : Stop) : Type 0 where
    pub takes_one : is_closed old task.after ≡ false
    pub section : IsStop (section_on given left number task old) why
    pub new_is : new ≡ with_entry old (entry_stuck given left number task old why) old.object
    pub legal : IsLegal given number new
    pub made_is : made ≡ had

  pub record ClosedNext (closed : Bool) : Type 0 where
    pub closed_is : is_closed old task.after ≡ true
    pub new_is : new ≡ old
    pub made_is : made ≡ had
    pub own : closed ≡ not (is_last_clock task.after)
    pub closing : closed ≡ true → IsKept old (last_place number old)

  abbrev pub Nexts : Next → Type 0
  Nexts Ran = RanNext
  Nexts (Stuck why) = StuckNext why
  Nexts (Closed closed) = ClosedNext closed

-- the first tasks ran
pub record Behind (given : Given) (left number : ℕ) (found : CellLog) (tasks made : List Task) (log : CellLog) : Type 0 where
  pub notes : List Note
  pub runs : Runs given left number found tasks notes made None [] log
  pub legal : IsLegal given number log
  pub may_run : All (MayRun given) made

-- With these old values, and without the entries behind those that were found, the history is the one that was found.
pub record Backable (olds : List Old) (log found : CellLog) : Type 0 where
  pub there : AllThere olds log.object.slots
  pub back : put_back olds log.object.slots ≡ found.object.slots
  pub class : log.object.class ≡ found.object.class
  pub opened : log.opened ≡ found.opened
  pub entries : take (length found.entries) log.entries ≡ found.entries
  pub longer : length found.entries ≤ length log.entries

-- the same once the last section is undone
pub record Undoable (desk : Desk) (olds : List Old) (log found : CellLog) : Type 0 where
  pub before : Object
  pub can : CanUndo desk log.object before
  pub back : Backable olds (record { opened = log.opened; object = before; entries = log.entries }) found
