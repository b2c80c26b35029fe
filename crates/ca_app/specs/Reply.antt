-- What words and a text reply: a status and the bytes that are written.
use Rattle.std.specs.Prelude.{ℕ, ◌≡◌, List}
use Rattle.ca_tree.specs.declared.name.Place.{Place}
use Rattle.ca_tree.specs.Plain.{TextTree}
use Rattle.ca_program.specs.Plain.{PlainProgram}
use Rattle.ca_model.specs.declared.value.Object.{Object}
use Rattle.ca_model.specs.declared.value.Value.{Value as Datum}
use Rattle.ca_meaning.specs.Output.{Reply, output}
use Rattle.ca_meaning.specs.Serial.{done, serial}
use Rattle.ca_words.specs.declared.Command.{Command}
use Rattle.ca_words.specs.declared.Command.TheVariants.{OnText, Alone, Trace, Verify}
use Rattle.ca_words.specs.declared.TextCommand.{TextCommand}
use Rattle.ca_words.specs.declared.TextCommand.TheVariants.{Run, Tell}
use Rattle.ca_words.specs.declared.PlanCommand.{PlanCommand}
use Rattle.ca_words.specs.declared.LoneCommand.{LoneCommand}
use Rattle.ca_words.specs.declared.LoneCommand.TheVariants.{Gen, Load}
use Rattle.ca_words.specs.Words.{Names, usage_text}
use Rattle.ca_gen.specs.Generated.{generated}
use Rattle.ca_plan.specs.Plans.{PlainPlan, PlanOf}
use Rattle.ca_app.specs.declared.serving.TheConstants.{DONE, USAGE}
use Rattle.ca_app.specs.Accepted.{Accepted}
use Rattle.ca_app.specs.Refusals.{RefusedAt, refusal_reply}
use Rattle.ca_app.specs.Summary.{summary_text}
use Rattle.ca_app.specs.Told.{Tells}
use Rattle.ca_app.specs.Verified.{VerifyReplies}

abbrev pub usage_reply : Reply
usage_reply = record { status = USAGE; bytes = usage_text }

-- what `gen` replies, whatever the text
abbrev pub generated_reply : ℕ → ℕ → Reply
generated_reply seed size = record { status = DONE; bytes = generated seed size }

-- The text of the seed and the size is accepted, and the serial run of its program, for 1,000,000,000 steps, is done with
-- this heap in so many steps.
pub record IsLoaded (seed size : ℕ) (heap : List Object) (steps : ℕ) : Type 0 where
  pub program : PlainProgram
  pub accepted : Accepted (generated seed size) program
  pub prints : List Datum
  pub ran : serial program 1000000000 ≡ done prints heap steps

-- what `load` replies, whatever the text and the workers
abbrev pub loaded_reply : List Object → ℕ → Reply
loaded_reply heap steps = record { status = DONE; bytes = summary_text heap steps }

-- what a command that reads nothing replies
pub data UnreadReplies : LoneCommand → Reply → Type 0 where
  generates : {seed size : ℕ} → UnreadReplies (Gen seed size) (generated_reply seed size)
  loads : {seed size workers steps : ℕ} {heap : List Object} → IsLoaded seed size heap steps → UnreadReplies (Load seed size workers) (loaded_reply heap steps)

-- what a command replies to a program, whose text has this tree
pub data ProgramReplies (tree : TextTree) (p : PlainProgram) : TextCommand → Reply → Type 0 where
  runs : {workers budget : ℕ} → ProgramReplies tree p (Run workers budget) (output p budget)
  tells : {plan : PlainPlan} {command : PlanCommand} {bytes : List ℕ} → PlanOf p plan → Tells tree p plan command bytes → ProgramReplies tree p (Tell command) (record { status = DONE; bytes = bytes })

-- what a command replies to a text: a refusal, or what it replies to the text's program
pub data CommandReplies (command : TextCommand) (text : List ℕ) : Reply → Type 0 where
  refuses : {at : Place} {code : ℕ} → RefusedAt text at code → CommandReplies command text (refusal_reply at code)
  serves : {p : PlainProgram} {reply : Reply} → (accepted : Accepted text p) → ProgramReplies accepted.tree p command reply → CommandReplies command text reply

-- What words on a text reply: they name no command, or one that reads nothing, or one that reads a source, or the one that
-- reads a source and a schedule. Of `trace` there are the refusals alone: `TraceReplies` has all that it replies.
pub data Replies (words : List (List ℕ)) (text : List ℕ) : Reply → Type 0 where
  usage : ((command : Command) → Names words command → ⊥) → Replies words text usage_reply
  unread : {command : LoneCommand} {reply : Reply} → Names words (Alone command) → UnreadReplies command reply → Replies words text reply
  named : {command : TextCommand} {reply : Reply} → Names words (OnText command) → CommandReplies command text reply → Replies words text reply
  untraced : {workers budget code : ℕ} {at : Place} → Names words (Trace workers budget) → RefusedAt text at code → Replies words text (refusal_reply at code)
  verifies : {budget : ℕ} {reply : Reply} → Names words (Verify budget) → VerifyReplies budget text reply → Replies words text reply
