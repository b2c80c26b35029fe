-- How a call ends by what it was asked: a command, or words that name none.
use Rattle.std.specs.Prelude.{ℕ, ◌≡◌, ◌≤◌, ◌⊎◌, Bool, true, false, List, length, Option, Some, None}
use Rattle.ca_base.specs.Devices.{Rose, at_end}
use Rattle.ca_base.specs.declared.read_to_end.ReadError.{ReadError}
use Rattle.ca_base.specs.declared.read_to_end.ReadError.TheVariants.{Fault, Limit, Memory}
use Rattle.ca_words.specs.declared.Command.{Command}
use Rattle.ca_words.specs.declared.Command.TheVariants.{OnText, Alone, Trace, Verify}
use Rattle.ca_words.specs.declared.LoneCommand.{LoneCommand}
use Rattle.ca_words.specs.declared.TextCommand.{TextCommand}
use Rattle.ca_words.specs.declared.TextCommand.TheVariants.{Tell}
use Rattle.ca_words.specs.declared.PlanCommand.{PlanCommand}
use Rattle.ca_words.specs.Words.{reads}
use Rattle.ca_app.specs.declared.serving.TheConstants.{MOST_BYTES, MOST_WITH_SCHEDULE, DONE, USAGE, NO_MEMORY, READ_FAULT, WRITE_FAULT, PAST_LIMIT}
use Rattle.ca_app.specs.declared.refusals.TheConstants.{TOO_LONG}
use Rattle.ca_app.specs.Ends.{Ends, EndsWith, EndsWithOne, SinkCause, IsReadToEnd}
use Rattle.ca_app.specs.Refusals.{refusal_reply}
use Rattle.ca_app.specs.Reply.{CommandReplies, UnreadReplies, usage_reply}
use Rattle.ca_app.specs.Told.{CommandTold}
use Rattle.ca_app.specs.Traced.{TraceReplies}
use Rattle.ca_app.specs.Verified.{VerifyReplies, nowhere}

-- whether the source is read
abbrev pub reads_source : Option Command → Bool
reads_source None = false
reads_source (Some command) = reads command

-- the most bytes of what is read
abbrev pub most_read : Option Command → ℕ
most_read None = MOST_BYTES
most_read (Some (OnText command)) = MOST_BYTES
most_read (Some (Alone command)) = MOST_BYTES
most_read (Some (Trace workers budget)) = MOST_BYTES
most_read (Some (Verify budget)) = MOST_WITH_SCHEDULE

-- What a status says of the devices: what the source has left and the counts of faults of source and sink, before and after.
pub record Uses (asked : Option Command) (status : ℕ) (left left' : Option (List ℕ)) (faults faults' sunk sunk' : ℕ) : Type 0 where
  pub later : faults ≤ faults'
  pub read_fault : status ≡ READ_FAULT → (reads_source asked ≡ true) × Rose faults faults'
  pub write_fault : SinkCause status sunk sunk'
  pub read_to_end : reads_source asked ≡ true → IsReadToEnd status → left' ≡ at_end left
  pub limit_read_to_end : (text : List ℕ) → left ≡ Some text → length text ≤ most_read asked → status ≡ PAST_LIMIT → left' ≡ at_end left
  pub usage_only : status ≡ USAGE → asked ≡ None

-- A command on a text ended with its reply, and what `pairs`, `plan` and `emit` wrote is told of the text's program.
pub record Served (command : TextCommand) (text : List ℕ) (status : ℕ) (old now : Option (List ℕ)) : Type 0 where
  pub ends : EndsWith (CommandReplies command text) status old now
  pub told : (told : PlanCommand) → command ≡ Tell told → status ≡ DONE → CommandTold told text old now

-- How the call ended: where something is read, by the text that the source tells.
pub data Answers (left : Option (List ℕ)) (status : ℕ) (old now : Option (List ℕ)) : Option Command → Type 0 where
  no_command : Ends usage_reply status old now → (status ≡ USAGE) ⊎ (status ≡ WRITE_FAULT) → Answers left status old now None
  on_text : {command : TextCommand} → ((text : List ℕ) → left ≡ Some text → Served command text status old now) → Answers left status old now (Some (OnText command))
  alone : {command : LoneCommand} → EndsWith (UnreadReplies command) status old now → Answers left status old now (Some (Alone command))
  traced : {workers budget : ℕ} → ((text : List ℕ) → left ≡ Some text → EndsWithOne (TraceReplies budget text) status old now) → Answers left status old now (Some (Trace workers budget))
  verified : {budget : ℕ} → ((text : List ℕ) → left ≡ Some text → EndsWith (VerifyReplies budget text) status old now) → Answers left status old now (Some (Verify budget))

-- How a call ends that got no text: a source that is too long was told, else nothing was written.
pub data Untold (status : ℕ) (old now : Option (List ℕ)) : ReadError → Type 0 where
  overlong : Ends (refusal_reply nowhere TOO_LONG.0) status old now → Untold status old now Limit
  read_fault : status ≡ READ_FAULT → now ≡ old → Untold status old now Fault
  no_memory : status ≡ NO_MEMORY → now ≡ old → Untold status old now Memory
