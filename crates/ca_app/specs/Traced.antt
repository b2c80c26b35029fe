-- What `trace` replies to a text.
use Rattle.std.specs.Prelude.{ℕ, ◌++◌, List, codes}
use Rattle.ca_tree.specs.declared.name.Place.{Place}
use Rattle.ca_program.specs.Plain.{PlainProgram}
use Rattle.ca_meaning.specs.Output.{Reply, output}
use Rattle.ca_trace.specs.declared.line.Line.{Line}
use Rattle.ca_trace.specs.Texts.{ReadsAs}
use Rattle.ca_app.specs.Accepted.{Accepted}
use Rattle.ca_app.specs.Refusals.{RefusedAt, refusal_reply}
use Rattle.ca_app.specs.Verified.{FollowsPlan}

-- The status is that of the run, and the schedule stands behind a line feed, so that it may be put behind its source.
abbrev pub traced_reply : PlainProgram → ℕ → List ℕ → Reply
traced_reply p budget schedule = record { status = (output p budget).status; bytes = codes "\n" ++ schedule }

-- what is replied to a program: any schedule whose lines follow its plan, so one for each order that a run may have
pub data TracedReplies (p : PlainProgram) (budget : ℕ) : Reply → Type 0 where
  traces : {schedule : List ℕ} {lines : List Line} → ReadsAs p schedule lines → FollowsPlan p budget lines → TracedReplies p budget (traced_reply p budget schedule)

-- what `trace` replies: a refusal, or what is replied to the text's program
pub data TraceReplies (budget : ℕ) (text : List ℕ) : Reply → Type 0 where
  refuses : {at : Place} {code : ℕ} → RefusedAt text at code → TraceReplies budget text (refusal_reply at code)
  records : {p : PlainProgram} {reply : Reply} → Accepted text p → TracedReplies p budget reply → TraceReplies budget text reply
