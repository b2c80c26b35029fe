-- What each status says of the reply that was given.
use Rattle.std.proofs.Common.{◌≡◌, ℕ, ◌⊎◌, Bool, true, false, List, Option, refl, sym, ◌∙◌, subst, ap, inl, inr}
use Rattle.std.specs.Prelude.{cond, nat_eq}
use Rattle.ca_base.specs.Devices.{grown}
use Rattle.ca_tree.specs.declared.name.Place.{Place}
use Rattle.ca_program.specs.Plain.{PlainProgram}
use Rattle.ca_meaning.specs.Output.{Reply, reply_of}
use Rattle.ca_meaning.specs.Serial.{Ended, done, trapped, spent, serial}
use Rattle.ca_words.specs.declared.Command.TheVariants.{OnText, Trace, Verify}
use Rattle.ca_words.specs.declared.LoneCommand.{LoneCommand}
use Rattle.ca_words.specs.Words.{Names}
use Rattle.ca_app.specs.declared.ending.Status.{Status}
use Rattle.ca_app.specs.declared.ending.Status.TheVariants.{Done, Refused, Trapped, Spent, PastLimit, GoesWrong}
use Rattle.ca_app.specs.clauses.Ended.{number_of}
use Rattle.ca_app.specs.Accepted.{Accepted}
use Rattle.ca_app.specs.Refusals.{is_limit_code, refusal_status}
use Rattle.ca_app.specs.Reply.{runs, tells, refuses, serves, UnreadReplies, generates, loads, Replies, usage, unread, named, untraced, verifies}
use Rattle.ca_app.specs.Verified.{VerifyReplies}
use Rattle.ca_app.specs.Verified as v
use Rattle.ca_app.specs.Traced.{traces, TraceReplies, records}
use Rattle.ca_app.specs.Traced as t
use Rattle.ca_app.specs.Causes.{NamesRun, IsRefused, CheckRefused, IsCheckRefused, IsChecked, LinesGoWrong, RunEnds, PlanTold, IsTrapped, IsSpent, IsDoneBy, by_run, by_plan, by_gen, by_load, by_verify}
use Rattle.ca_app.specs.Causes as causes
use Rattle.ca_app.proofs.Asked.{TellsPlan}

-- a refusal has one of two statuses
pub not_refused : (limit : Bool) (status : ℕ) → (status ≡ 8 → ⊥) → (status ≡ 1 → ⊥) → status ≡ refusal_status limit → ⊥
not_refused true status eight one e = eight e
not_refused false status eight one e = one e

-- what a command that reads nothing replies has status 0
pub unread_at : {command : LoneCommand} {reply : Reply} → UnreadReplies command reply → reply.status ≡ 0
unread_at generates = refl
unread_at (loads loaded) = refl

-- the statuses have numbers of their own
abbrev pub status_at : ℕ → Status
status_at n = cond (nat_eq n 0) Done (cond (nat_eq n 1) Refused (cond (nat_eq n 3) Trapped (cond (nat_eq n 4) Spent (cond (nat_eq n 8) PastLimit GoesWrong))))

pub number_back : (s : Status) → status_at (number_of s) ≡ s
number_back Done = refl
number_back Refused = refl
number_back Trapped = refl
number_back Spent = refl
number_back PastLimit = refl
number_back GoesWrong = refl

one_status : (s t : Status) → number_of s ≡ number_of t → s ≡ t
one_status s t e = sym (number_back s) ∙ (ap status_at e ∙ number_back t)

-- the text is refused, by a limit or not, as a source or as one with a schedule behind it
abbrev pub IsTextRefused : List (List ℕ) → Bool → List ℕ → Type 0
IsTextRefused words limit text = IsRefused words limit text ⊎ IsCheckRefused words limit text

-- A reply of the words and the text, or one of those of `trace`.
pub data IsReply (words : List (List ℕ)) (text : List ℕ) : Reply → Type 0 where
  the_one : {reply : Reply} → Replies words text reply → IsReply words text reply
  one_of_trace : {workers budget : ℕ} {reply : Reply} → Names words (Trace workers budget) → TraceReplies budget text reply → IsReply words text reply

-- what a status says
abbrev pub Says : List (List ℕ) → List ℕ → Option (List ℕ) → Option (List ℕ) → Status → Type 0
Says words text old now Done = IsDoneBy words text old now
Says words text old now Refused = IsTextRefused words false text
Says words text old now Trapped = RunEnds words text IsTrapped
Says words text old now Spent = RunEnds words text IsSpent
Says words text old now PastLimit = IsTextRefused words true text
Says words text old now GoesWrong = IsChecked words text LinesGoWrong

-- The number is that of a status, which says so.
pub record Said (words : List (List ℕ)) (text : List ℕ) (old now : Option (List ℕ)) (number : ℕ) : Type 0 where
  pub status : Status
  pub is : number ≡ number_of status
  pub says : Says words text old now status

module _ {words : List (List ℕ)} {text : List ℕ} {old now : Option (List ℕ)} where
  refused_so : (limit : Bool) → IsTextRefused words limit text → Said words text old now (refusal_status limit)
  refused_so true refused = record { status = PastLimit; is = refl; says = refused }
  refused_so false refused = record { status = Refused; is = refl; says = refused }

  check_refused : {at : Place} {code : ℕ} (budget : ℕ) → Names words (Verify budget) → CheckRefused text at code → Said words text old now (refusal_status (is_limit_code code))
  check_refused {at} {code} budget names refused =
      refused_so (is_limit_code code) (inr (record { budget = budget; named = names; at = at; code = code; refused = refused; kind = refl }))

  run_so : (workers budget : ℕ) (p : PlainProgram) → NamesRun words workers budget → Accepted text p → (end : Ended) → serial p budget ≡ end → Said words text old now (reply_of p budget end).status
  run_so workers budget p names accepted (done prints heap steps) is =
      record { status = Done; is = refl; says = by_run (record { workers = workers; budget = budget; program = p; named = names; accepted = accepted; ends = (prints, heap, steps, is) }) }
  run_so workers budget p names accepted (trapped prints trap) is =
      record { status = Trapped; is = refl; says = record { workers = workers; budget = budget; program = p; named = names; accepted = accepted; ends = (prints, trap, is) } }
  run_so workers budget p names accepted (spent prints) is =
      record { status = Spent; is = refl; says = record { workers = workers; budget = budget; program = p; named = names; accepted = accepted; ends = (prints, is) } }

  check_so : (budget : ℕ) (reply : Reply) → Names words (Verify budget) → VerifyReplies budget text reply → Said words text old now reply.status
  check_so budget reply names (v.too_long more) = check_refused budget names (causes.too_long more)
  check_so budget reply names (v.unscheduled short none) = check_refused budget names (causes.unscheduled short none)
  check_so budget reply names (v.scheduled short split (v.refuses refused)) = check_refused budget names (causes.source_refused short split refused)
  check_so budget reply names (v.scheduled short split (v.reads accepted (v.ill_formed line))) = check_refused budget names (causes.ill_formed short split accepted line)
  check_so budget reply names (v.scheduled {source = a} {schedule = b} short split (v.reads {p = p} accepted (v.judges {lines = ls} read (v.follows f)))) = record {
    status = Done;
    is = refl;
    says = by_verify (record { budget = budget; source = a; schedule = b; program = p; lines = ls; named = names; short = short; split = split; accepted = accepted; read = read; so = f });
  }
  check_so budget reply names (v.scheduled {source = a} {schedule = b} short split (v.reads {p = p} accepted (v.judges {lines = ls} read (v.goes_wrong {n = n} f)))) = record {
    status = GoesWrong;
    is = refl;
    says = record { budget = budget; source = a; schedule = b; program = p; lines = ls; named = names; short = short; split = split; accepted = accepted; read = read; so = (n, f) };
  }

  -- what is said by the status of a reply, where the words name a command; `told` is what `pairs`, `plan` and `emit` told
  pub said_so : (status : ℕ) (reply : Reply) → (TellsPlan words → status ≡ 0 → PlanTold words text old now) → status ≡ reply.status → now ≡ grown old reply.bytes
      → IsReply words text reply → Said words text old now reply.status ⊎ (reply.status ≡ 2)
  said_so status reply told same bytes (the_one (usage fault)) = inr refl
  said_so status reply told same bytes (the_one (unread names (generates {seed = x} {size = n}))) =
      inl (record { status = Done; is = refl; says = by_gen (record { seed = x; size = n; named = names; bytes = bytes }) })
  said_so status reply told same bytes (the_one (unread names (loads {seed = x} {size = n} {workers = w} {steps = s} {heap = h} loaded))) =
      inl (record { status = Done; is = refl; says = by_load (record { seed = x; size = n; workers = w; named = names; heap = h; steps = s; loaded = loaded; bytes = bytes }) })
  said_so status reply told same bytes (the_one (named {command = command} names (refuses {at = at} {code = code} refused))) =
      inl (refused_so (is_limit_code code) (inl (record { command = OnText command; named = names; reading = refl; at = at; code = code; refused = refused; kind = refl })))
  said_so status reply told same bytes (the_one (named names (serves {p = p} accepted (runs {workers = w} {budget = b})))) = inl (run_so w b p (inl names) accepted (serial p b) refl)
  said_so status reply told same bytes (the_one (named names (serves accepted (tells {command = what} is t)))) =
      inl (record { status = Done; is = refl; says = by_plan (told (what, names) same) })
  said_so status reply told same bytes (the_one (untraced {workers = w} {budget = b} {code = code} {at = at} names refused)) =
      inl (refused_so (is_limit_code code) (inl (record { command = Trace w b; named = names; reading = refl; at = at; code = code; refused = refused; kind = refl })))
  said_so status reply told same bytes (the_one (verifies {budget = b} names replies)) = inl (check_so b reply names replies)
  said_so status reply told same bytes (one_of_trace {workers = w} {budget = b} names (t.refuses {at = at} {code = code} refused)) =
      inl (refused_so (is_limit_code code) (inl (record { command = Trace w b; named = names; reading = refl; at = at; code = code; refused = refused; kind = refl })))
  said_so status reply told same bytes (one_of_trace {workers = w} {budget = b} names (records {p = p} accepted (traces read follows))) = inl (run_so w b p (inr names) accepted (serial p b) refl)

  -- so is what the status of the call says
  pub says_so : {number : ℕ} (t : Status) → Said words text old now number → number ≡ number_of t → Says words text old now t
  says_so t said e = subst (λ (s : Status). Says words text old now s) (one_status said.status t (sym said.is ∙ e)) said.says
