-- What each status says of the words and the text.
use Rattle.std.specs.Prelude.{ℕ, ◌≡◌, ◌<◌, ◌≤◌, ◌⊎◌, Bool, true, false, List, length, Option}
use Rattle.ca_tree.specs.declared.name.Place.{Place}
use Rattle.ca_base.specs.Devices.{grown}
use Rattle.ca_program.specs.Plain.{PlainProgram}
use Rattle.ca_model.specs.declared.value.Object.{Object}
use Rattle.ca_model.specs.declared.value.Trap.{Trap}
use Rattle.ca_model.specs.declared.value.Value.{Value as Datum}
use Rattle.ca_meaning.specs.Serial.{Ended, done, trapped, spent, serial}
use Rattle.ca_words.specs.declared.Command.{Command}
use Rattle.ca_words.specs.declared.Command.TheVariants.{OnText, Alone, Trace, Verify}
use Rattle.ca_words.specs.declared.TextCommand.TheVariants.{Run, Tell}
use Rattle.ca_words.specs.declared.PlanCommand.{PlanCommand}
use Rattle.ca_words.specs.declared.LoneCommand.TheVariants.{Gen, Load}
use Rattle.ca_words.specs.Words.{Names, reads, reads_program}
use Rattle.ca_gen.specs.Generated.{generated}
use Rattle.ca_app.specs.Accepted.{Accepted}
use Rattle.ca_app.specs.Refusals.{RefusedAt, is_limit_code}
use Rattle.ca_app.specs.Reply.{IsLoaded}
use Rattle.ca_app.specs.Summary.{summary_text}
use Rattle.ca_app.specs.Told.{CommandTold}
use Rattle.ca_trace.specs.declared.line.Line.{Line}
use Rattle.ca_trace.specs.Bad.{FirstBad}
use Rattle.ca_trace.specs.Texts.{ReadsAs, BadText, SplitAt, NoSchedule}
use Rattle.ca_app.specs.declared.refusals.TheConstants.{TOO_LONG, NO_SCHEDULE, ILL_FORMED}
use Rattle.ca_app.specs.Verified.{FollowsPlan, most_with_schedule, at_line, nowhere}

-- the words name no command
abbrev pub IsUsageFault : List (List ℕ) → Type 0
IsUsageFault words = (c : Command) → Names words c → ⊥

-- the words name no command, or one that doesn't read its source
abbrev pub ReadsNothing : List (List ℕ) → Type 0
ReadsNothing words = (c : Command) → Names words c → reads c ≡ false

-- the words name a command that reads its source
abbrev pub ReadsSource : List (List ℕ) → Type 0
ReadsSource words = (c : Command) × Names words c × (reads c ≡ true)

-- the words don't name `trace`, the command that has several replies
abbrev pub NamesNoTrace : List (List ℕ) → Type 0
NamesNoTrace words = (workers budget : ℕ) → Names words (Trace workers budget) → ⊥

-- The words name a command that reads a source and nothing behind it, and the text is refused, by a limit or not.
pub record IsRefused (words : List (List ℕ)) (limit : Bool) (text : List ℕ) : Type 0 where
  pub command : Command
  pub named : Names words command
  pub reading : reads_program command ≡ true
  pub at : Place
  pub code : ℕ
  pub refused : RefusedAt text at code
  pub kind : is_limit_code code ≡ limit

-- What refuses a source with a schedule behind it, in this order: its length, that there is no schedule, what refuses the
-- source, and the first ill-formed line of the schedule.
pub data CheckRefused (text : List ℕ) : Place → ℕ → Type 0 where
  too_long : most_with_schedule < length text → CheckRefused text nowhere TOO_LONG.0
  unscheduled : length text ≤ most_with_schedule → NoSchedule text → CheckRefused text nowhere NO_SCHEDULE.0
  source_refused : {source schedule : List ℕ} {at : Place} {code : ℕ} → length text ≤ most_with_schedule → SplitAt text source schedule → RefusedAt source at code → CheckRefused text at code
  ill_formed : {source schedule : List ℕ} {p : PlainProgram} {n : ℕ} → length text ≤ most_with_schedule → SplitAt text source schedule → Accepted source p → BadText p schedule n → CheckRefused text (at_line n) ILL_FORMED.0

-- The words name `verify`, and the text is refused, by a limit or not.
pub record IsCheckRefused (words : List (List ℕ)) (limit : Bool) (text : List ℕ) : Type 0 where
  pub budget : ℕ
  pub named : Names words (Verify budget)
  pub at : Place
  pub code : ℕ
  pub refused : CheckRefused text at code
  pub kind : is_limit_code code ≡ limit

-- The words name `verify`, and the lines of the schedule are so for the source's program and the budget.
pub record IsChecked (words : List (List ℕ)) (text : List ℕ) (is : PlainProgram → ℕ → List Line → Type 0) : Type 0 where
  pub budget : ℕ
  pub source : List ℕ
  pub schedule : List ℕ
  pub program : PlainProgram
  pub lines : List Line
  pub named : Names words (Verify budget)
  pub short : length text ≤ most_with_schedule
  pub split : SplitAt text source schedule
  pub accepted : Accepted source program
  pub read : ReadsAs program schedule lines
  pub so : is program budget lines

-- The lines don't follow the program's plan, and there is a first bad one.
abbrev pub LinesGoWrong : PlainProgram → ℕ → List Line → Type 0
LinesGoWrong p budget lines = (n : ℕ) × FirstBad (FollowsPlan p budget) lines n

-- the words name a run of the source, recorded or not
abbrev pub NamesRun : List (List ℕ) → ℕ → ℕ → Type 0
NamesRun words workers budget = Names words (OnText (Run workers budget)) ⊎ Names words (Trace workers budget)

-- The words name a run, and the serial run of the text's program ends so.
pub record RunEnds (words : List (List ℕ)) (text : List ℕ) (end : Ended → Type 0) : Type 0 where
  pub workers : ℕ
  pub budget : ℕ
  pub program : PlainProgram
  pub named : NamesRun words workers budget
  pub accepted : Accepted text program
  pub ends : end (serial program budget)

-- The words name `pairs`, `plan` or `emit`, and what was written is what it tells of the plan of the text's program.
pub record PlanTold (words : List (List ℕ)) (text : List ℕ) (old now : Option (List ℕ)) : Type 0 where
  pub command : PlanCommand
  pub named : Names words (OnText (Tell command))
  pub told : CommandTold command text old now

-- The words name `gen`, and what was written is the text of its seed and its size.
pub record Generates (words : List (List ℕ)) (old now : Option (List ℕ)) : Type 0 where
  pub seed : ℕ
  pub size : ℕ
  pub named : Names words (Alone (Gen seed size))
  pub bytes : now ≡ grown old (generated seed size)

-- The words name `load`, and what was written is the summary of the serial run of the text of its seed and its size.
pub record Loads (words : List (List ℕ)) (old now : Option (List ℕ)) : Type 0 where
  pub seed : ℕ
  pub size : ℕ
  pub workers : ℕ
  pub named : Names words (Alone (Load seed size workers))
  pub heap : List Object
  pub steps : ℕ
  pub loaded : IsLoaded seed size heap steps
  pub bytes : now ≡ grown old (summary_text heap steps)

abbrev pub IsDone : Ended → Type 0
IsDone e = (prints : List Datum) × (heap : List Object) × (steps : ℕ) × (e ≡ done prints heap steps)

abbrev pub IsTrapped : Ended → Type 0
IsTrapped e = (prints : List Datum) × (t : Trap) × (e ≡ trapped prints t)

abbrev pub IsSpent : Ended → Type 0
IsSpent e = (prints : List Datum) × (e ≡ spent prints)

-- What status 0 says, by the command that the words name.
pub data IsDoneBy (words : List (List ℕ)) (text : List ℕ) (old now : Option (List ℕ)) : Type 0 where
  by_run : RunEnds words text IsDone → IsDoneBy words text old now
  by_plan : PlanTold words text old now → IsDoneBy words text old now
  by_gen : Generates words old now → IsDoneBy words text old now
  by_load : Loads words old now → IsDoneBy words text old now
  by_verify : IsChecked words text FollowsPlan → IsDoneBy words text old now
