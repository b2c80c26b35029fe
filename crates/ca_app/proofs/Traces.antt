-- What was given is one of the replies of `trace`, and what each status says of it.
use Rattle.std.proofs.Common.{◌≡◌, ℕ, ◌-◌, ◌≤◌, All, List, ◌++◌, length, length-append, Option, Result, Ok, Err, codes, ap, ◌∙◌, arith}
use Rattle.std.specs.Prelude.{IfOk}
use Rattle.ca_tree.specs.declared.name.Place.{Place}
use Rattle.ca_base.specs.Devices.{Writes}
use Rattle.ca_program.specs.Plain.{PlainProgram}
use Rattle.ca_meaning.specs.Output.{output}
use Rattle.ca_parallel.specs.Lists.{PlainMarks}
use Rattle.ca_words.specs.declared.Command.{Command}
use Rattle.ca_words.specs.declared.Command.TheVariants.{Trace}
use Rattle.ca_words.specs.Words.{Names}
use Rattle.ca_words.proofs.OneCommand.{one_command}
use Rattle.ca_plan.specs.Plans.{PlainPlan, PlanOf}
use Rattle.ca_trace.specs.declared.line.Line.{Line}
use Rattle.ca_trace.specs.Lines.{Follows, last_lines}
use Rattle.ca_trace.specs.Texts.{IsLineOf, schedule_text}
use Rattle.ca_app.specs.Accepted.{Accepted}
use Rattle.ca_app.specs.Refusals.{refusal_reply}
use Rattle.ca_app.specs.clauses.Reading.{IsRefusalOf}
use Rattle.ca_app.specs.Ends.{Ends, whole, status_after, EndsWithOne, unreplied, replied}
use Rattle.ca_app.specs.Traced.{TracedReplies, traces, TraceReplies, records}
use Rattle.ca_app.specs.Traced as t
use Rattle.ca_app.specs.Verified.{FollowsPlan}
use Rattle.ca_app.proofs.Endings.{ends_written}
use Rattle.ca_app.proofs.OneVerify.{marks_follow}

-- ---- the lines of a run

-- lines that follow by the marks of a plan follow the plan
pub follow_plan : {T E : Type 0} (p : PlainProgram) (ms : PlainMarks) → (of : PlainPlan) × PlanOf p of × (ms ≡ of.marks) → (budget : ℕ) (lines : T → List Line) (r : Result T E)
    → IfOk r (λ x. Follows p ms budget (lines x)) → IfOk r (λ x. FollowsPlan p budget (lines x))
follow_plan p ms planned budget lines (Ok x) f = marks_follow p planned.0 planned.1 ms planned.2 budget (lines x) f
follow_plan p ms planned budget lines (Err e) f = tt

-- ---- what was given

module _ {status : ℕ} {old now : Option (List ℕ)} (budget : ℕ) where
  pub ends_traced : {text : List ℕ} (p : PlainProgram) → Accepted text p → EndsWithOne (TracedReplies p budget) status old now → EndsWithOne (TraceReplies budget text) status old now
  ends_traced p accepted (unreplied u) = unreplied u
  ends_traced p accepted (replied r ends) = replied (records accepted r) ends

  pub ends_untraced : {text : List ℕ} {at : Place} {code : ℕ} → IsRefusalOf text at code → Ends (refusal_reply at code) status old now → EndsWithOne (TraceReplies budget text) status old now
  ends_untraced is ends = replied (t.refuses is.refused) ends

-- the budget of `trace` that words name
pub same_trace : {words : List (List ℕ)} (v a w b : ℕ) → Names words (Trace v a) → Names words (Trace w b) → a ≡ b
same_trace {words} v a w b names names' = from (one_command words (Trace v a) (Trace w b) names names')
  where
    from : ◌≡◌ {A = Command} (Trace v a) (Trace w b) → a ≡ b
    from e = cc

-- ---- the lines that were told

pub two_lines : (p : PlainProgram) (budget : ℕ) (lines : List Line) → FollowsPlan p budget lines → 2 ≤ length lines
two_lines p budget lines f =
    let whole = ap length f.follows.whole in
    let long = length-append f.follows.front (last_lines p budget) in
    omega (arith, whole, long)

pub ends_told_lines : {T E : Type 0} {old now : Option (List ℕ)} (p : PlainProgram) (budget : ℕ) (lines : List Line) (schedule : List ℕ) → FollowsPlan p budget lines → All (IsLineOf p) lines → schedule ≡ schedule_text p lines
    → (r : Result T E) (status ended : ℕ) → status ≡ (output p budget).status → Writes old now r (codes "\n" ++ schedule) → ended ≡ status_after r status → EndsWithOne (TracedReplies p budget) ended old now
ends_told_lines {old = old} {now = now} p budget lines schedule follows each is r status ended same written end =
    replied (traces (record { each = each; is = is }) follows) (ends_written r (output p budget).status ended (codes "\n" ++ schedule) old now written (end ∙ ap (λ s. status_after r s) same))
