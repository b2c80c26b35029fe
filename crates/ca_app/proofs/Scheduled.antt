-- What was given is the one reply of `verify` that there is.
use Rattle.std.proofs.Common.{◌≡◌, ℕ, ◌<◌, ◌≤◌, List, length, Option, subst, arith}
use Rattle.ca_tree.specs.declared.name.Place.{Place}
use Rattle.ca_program.specs.Plain.{PlainProgram}
use Rattle.ca_meaning.specs.Output.{Reply}
use Rattle.ca_parallel.specs.Lists.{PlainMarks}
use Rattle.ca_plan.specs.Plans.{PlainPlan, PlanOf}
use Rattle.ca_trace.specs.declared.line.Line.{Line}
use Rattle.ca_trace.specs.Lines.{Follows}
use Rattle.ca_trace.specs.Bad.{FirstBad}
use Rattle.ca_trace.specs.Texts.{ReadsAs, BadText, SplitAt, NoSchedule}
use Rattle.ca_lines.specs.Named.{NamesGood}
use Rattle.ca_lines.proofs.Once.{one_list, reads_or_bad}
use Rattle.ca_app.specs.Refusals.{refusal_reply}
use Rattle.ca_app.specs.clauses.Reading.{IsProgramOf, IsRefusalOf}
use Rattle.ca_app.specs.Ends.{Ends, EndsWith}
use Rattle.ca_app.specs.Verified.{FollowsPlan, at_line, nowhere, most_with_schedule, yes_reply, no_reply, LinesReplies, follows, goes_wrong, ScheduleReplies, ill_formed, judges, PairReplies, refuses, reads, VerifyReplies, too_long, unscheduled, scheduled}
use Rattle.ca_app.proofs.Endings.{only_reply, ends_alike}
use Rattle.ca_app.proofs.OneVerify.{lines_one, schedule_one, pair_one, verify_one, split_one, marks_follow, marks_go_wrong}

module _ {status : ℕ} {old now : Option (List ℕ)} (budget : ℕ) where
  -- the marks of a plan tell of each
  pub ends_yes : (p : PlainProgram) (ms : PlainMarks) → (of : PlainPlan) × PlanOf p of × (ms ≡ of.marks) → (k : ℕ) → k ≡ budget → (lines : List Line) → Follows p ms k lines → Ends yes_reply status old now → EndsWith (LinesReplies p budget lines) status old now
  ends_yes p ms planned k same lines f ends =
      let it : FollowsPlan p budget lines = marks_follow p planned.0 planned.1 ms planned.2 budget lines (subst (λ b. Follows p ms b lines) same f) in
      only_reply (LinesReplies p budget lines) yes_reply (follows it) (lines_one budget p lines) ends

  pub ends_no : (p : PlainProgram) (ms : PlainMarks) → (of : PlainPlan) × PlanOf p of × (ms ≡ of.marks) → (k : ℕ) → k ≡ budget → (lines : List Line) (n : ℕ) → FirstBad (Follows p ms k) lines n → Ends (no_reply n) status old now → EndsWith (LinesReplies p budget lines) status old now
  ends_no p ms planned k same lines n f ends =
      let it : FirstBad (FollowsPlan p budget) lines n = marks_go_wrong p planned.0 planned.1 ms planned.2 budget lines n (subst (λ b. FirstBad (Follows p ms b) lines n) same f) in
      only_reply (LinesReplies p budget lines) (no_reply n) (goes_wrong it) (lines_one budget p lines) ends

  module _ (p : PlainProgram) (names : NamesGood p) (schedule : List ℕ) where
    pub ends_ill_formed : (at : Place) (code n : ℕ) → at ≡ at_line n → code ≡ 61 → BadText p schedule n → Ends (refusal_reply at code) status old now → EndsWith (ScheduleReplies p budget schedule) status old now
    ends_ill_formed at code n place is bad ends =
        only_reply (ScheduleReplies p budget schedule) (refusal_reply (at_line n) 61) (ill_formed bad) (schedule_one budget p names schedule)
        (subst (λ x. Ends (refusal_reply x 61) status old now) place (subst (λ x. Ends (refusal_reply at x) status old now) is ends))

    pub ends_judged : (lines : List Line) → ReadsAs p schedule lines → EndsWith (LinesReplies p budget lines) status old now → EndsWith (ScheduleReplies p budget schedule) status old now
    ends_judged lines read = ends_alike (LinesReplies p budget lines) (ScheduleReplies p budget schedule) (λ reply f. judges read f) back
      where
        back : (reply : Reply) → ScheduleReplies p budget schedule reply → LinesReplies p budget lines reply
        back reply (ill_formed {n = n} bad) = absurd (reads_or_bad p names schedule lines n read bad)
        back reply (judges {lines = ls} l f) = subst (λ z. LinesReplies p budget z reply) (one_list p names schedule ls lines l read) f

  module _ (source schedule : List ℕ) where
    pub ends_source_refused : {at : Place} {code : ℕ} → IsRefusalOf source at code → Ends (refusal_reply at code) status old now → EndsWith (PairReplies budget source schedule) status old now
    ends_source_refused {at} {code} is ends = only_reply (PairReplies budget source schedule) (refusal_reply at code) (refuses is.refused) (pair_one budget source schedule) ends

    pub ends_read : (p : PlainProgram) → IsProgramOf source p → EndsWith (ScheduleReplies p budget schedule) status old now → EndsWith (PairReplies budget source schedule) status old now
    ends_read p is = ends_alike (ScheduleReplies p budget schedule) (PairReplies budget source schedule) (λ reply f. reads is.accepted f) back
      where
        back : (reply : Reply) → PairReplies budget source schedule reply → ScheduleReplies p budget schedule reply
        back reply (refuses {at = at} {code = code} refused) = absurd (is.unrefused at code refused)
        back reply (reads {p = q} accepted replies) = subst (λ z. ScheduleReplies z budget schedule reply) (is.only q accepted) replies

  module _ (text : List ℕ) where
    pub ends_too_long : most_with_schedule < length text → Ends (refusal_reply nowhere 4) status old now → EndsWith (VerifyReplies budget text) status old now
    ends_too_long more ends = only_reply (VerifyReplies budget text) (refusal_reply nowhere 4) (too_long more) (verify_one budget text) ends

    pub ends_unscheduled : length text ≤ most_with_schedule → NoSchedule text → Ends (refusal_reply nowhere 60) status old now → EndsWith (VerifyReplies budget text) status old now
    ends_unscheduled short none ends = only_reply (VerifyReplies budget text) (refusal_reply nowhere 60) (unscheduled short none) (verify_one budget text) ends

    pub ends_scheduled : length text ≤ most_with_schedule → (source schedule : List ℕ) → SplitAt text source schedule → EndsWith (PairReplies budget source schedule) status old now → EndsWith (VerifyReplies budget text) status old now
    ends_scheduled short source schedule split = ends_alike (PairReplies budget source schedule) (VerifyReplies budget text) (λ reply f. scheduled short split f) back
      where
        back : (reply : Reply) → VerifyReplies budget text reply → PairReplies budget source schedule reply
        back reply (too_long more) = absurd (omega (arith, more, short))
        back reply (unscheduled k none) = absurd (none source schedule split.whole split.header)
        back reply (scheduled {source = a} {schedule = b} k other replies) =
            let w = split_one text a b source schedule other split in
            subst (λ z. PairReplies budget source z reply) w.1 (subst (λ z. PairReplies budget z b reply) w.0 replies)
