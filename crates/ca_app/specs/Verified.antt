-- What `verify` replies to a text.
use Rattle.std.specs.Prelude.{ℕ, ◌<◌, ◌≤◌, ◌+◌, ◌++◌, List, length, codes, decimal}
use Rattle.ca_tree.specs.declared.name.Place.{Place}
use Rattle.ca_program.specs.Plain.{PlainProgram}
use Rattle.ca_meaning.specs.Output.{Reply}
use Rattle.ca_plan.specs.Plans.{PlainPlan, PlanOf}
use Rattle.ca_trace.specs.declared.line.Line.{Line}
use Rattle.ca_trace.specs.Lines.{Follows}
use Rattle.ca_trace.specs.Bad.{FirstBad}
use Rattle.ca_trace.specs.Texts.{ReadsAs, BadText, SplitAt, NoSchedule}
use Rattle.ca_app.specs.declared.serving.TheConstants.{DONE, GOES_WRONG, MOST_WITH_SCHEDULE}
use Rattle.ca_app.specs.declared.refusals.TheConstants.{TOO_LONG, NO_SCHEDULE, ILL_FORMED}
use Rattle.ca_app.specs.Accepted.{Accepted}
use Rattle.ca_app.specs.Refusals.{RefusedAt, refusal_reply}

-- the lines of a run with the marks of a plan of the program
pub record FollowsPlan (p : PlainProgram) (budget : ℕ) (lines : List Line) : Type 0 where
  pub plan : PlainPlan
  pub is_plan : PlanOf p plan
  pub follows : Follows p plan.marks budget lines

-- the most bytes of a source with a schedule behind it
abbrev pub most_with_schedule : ℕ
most_with_schedule = MOST_WITH_SCHEDULE

abbrev pub at_line : ℕ → Place
at_line n = record { line = n; column = 1 }

abbrev pub nowhere : Place
nowhere = record { line = 0; column = 0 }

abbrev pub yes_reply : Reply
yes_reply = record { status = DONE; bytes = codes "yes\n" }

-- The line is counted from the first one of the schedule, which is 1. `n` counts from the second, which is 0.
abbrev pub no_reply : ℕ → Reply
no_reply n = record { status = GOES_WRONG; bytes = codes "no " ++ (decimal (n + 2) ++ codes "\n") }

-- what is replied to the lines of a schedule
pub data LinesReplies (p : PlainProgram) (budget : ℕ) (lines : List Line) : Reply → Type 0 where
  follows : FollowsPlan p budget lines → LinesReplies p budget lines yes_reply
  goes_wrong : {n : ℕ} → FirstBad (FollowsPlan p budget) lines n → LinesReplies p budget lines (no_reply n)

-- what is replied to the text of a schedule of the program
pub data ScheduleReplies (p : PlainProgram) (budget : ℕ) (schedule : List ℕ) : Reply → Type 0 where
  ill_formed : {n : ℕ} → BadText p schedule n → ScheduleReplies p budget schedule (refusal_reply (at_line n) ILL_FORMED.0)
  judges : {lines : List Line} {reply : Reply} → ReadsAs p schedule lines → LinesReplies p budget lines reply → ScheduleReplies p budget schedule reply

-- what is replied to a source and the schedule behind it
pub data PairReplies (budget : ℕ) (source schedule : List ℕ) : Reply → Type 0 where
  refuses : {at : Place} {code : ℕ} → RefusedAt source at code → PairReplies budget source schedule (refusal_reply at code)
  reads : {p : PlainProgram} {reply : Reply} → Accepted source p → ScheduleReplies p budget schedule reply → PairReplies budget source schedule reply

-- what `verify` replies
pub data VerifyReplies (budget : ℕ) (text : List ℕ) : Reply → Type 0 where
  too_long : most_with_schedule < length text → VerifyReplies budget text (refusal_reply nowhere TOO_LONG.0)
  unscheduled : length text ≤ most_with_schedule → NoSchedule text → VerifyReplies budget text (refusal_reply nowhere NO_SCHEDULE.0)
  scheduled : {source schedule : List ℕ} {reply : Reply} → length text ≤ most_with_schedule → SplitAt text source schedule → PairReplies budget source schedule reply → VerifyReplies budget text reply
