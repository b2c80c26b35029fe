-- What an answer below the reading of a source ends with.
use Rattle.std.proofs.Common.{◌≡◌, ℕ, ◌⊎◌, Bool, true, false, List, Option, Result, Ok, Err, inl, inr, refl, ap, sym, ◌∙◌, true≢false, arith}
use Rattle.std.specs.Prelude.{◌||◌, nat_eq}
use Rattle.ca_base.specs.Devices.{HasCause, Writes}
use Rattle.ca_tree.specs.declared.name.Place.{Place}
use Rattle.ca_meaning.specs.Output.{Reply}
use Rattle.ca_words.specs.declared.LoneCommand.{LoneCommand}
use Rattle.ca_app.specs.declared.ending.Status.{Status}
use Rattle.ca_app.specs.declared.ending.Unwritten.{Unwritten}
use Rattle.ca_app.specs.declared.ending.Unwritten.TheVariants.{Memory, Write}
use Rattle.ca_app.specs.clauses.Ended.{ended, finished, number_of}
use Rattle.ca_app.specs.Refusals.{is_limit_code, refusal_reply}
use Rattle.ca_app.specs.Ends.{Ends, whole, no_memory, read_fault, write_fault, Unreplied, EndsWith, SinkCause, IsReadToEnd, status_after}
use Rattle.ca_app.specs.Reply.{UnreadReplies}
use Rattle.ca_app.specs.Verified.{nowhere}
use Rattle.ca_app.proofs.Endings.{after_seven, ends_written}
use Rattle.ca_app.proofs.StatusLemmas.{not_refused, number_back, status_at, unread_at}

-- what came of writing a reply, as a number
pub written_so : {T E : Type 0} (r : Result T E) (status : Status) (answer : Result Status Unwritten) → answer ≡ finished r status → ended answer ≡ status_after r (number_of status)
written_so (Ok x) status answer e = ap ended e
written_so (Err x) status answer e = ap ended e

pub ends_as : {T E : Type 0} (r : Result T E) (status : Status) (answer : Result Status Unwritten) (number : ℕ) (bytes : List ℕ) (old now : Option (List ℕ))
    → number_of status ≡ number → Writes old now r bytes → answer ≡ finished r status → Ends (record { status = number; bytes = bytes }) (ended answer) old now
ends_as r status answer number bytes old now n w e = ends_written r number (ended answer) bytes old now w (written_so r status answer e ∙ ap (λ s. status_after r s) n)

-- a status has no other number
pub no_status : (s : Status) (n : ℕ) → ¬ (number_of (status_at n) ≡ n) → number_of s ≡ n → ⊥
no_status s n other e = other (ap number_of (ap status_at (sym e) ∙ number_back s) ∙ e)

-- it ends as a failed write only where the count of faults rose
pub caused : {T E : Type 0} (before now : ℕ) (r : Result T E) (status : Status) (answer : Result Status Unwritten) → HasCause before now r → answer ≡ finished r status → SinkCause (ended answer) before now
caused before now r status answer cause e = record {
  later = cause.later;
  rose = λ seven. after_seven before now r (number_of status) (ended answer) cause (written_so r status answer e) (no_status status 7 (λ x. omega arith)) seven;
}

no_end : (answer : Result Status Unwritten) (n : ℕ) → ¬ (number_of (status_at n) ≡ n) → ¬ (5 ≡ n) → ¬ (7 ≡ n) → ended answer ≡ n → ⊥
no_end (Ok s) n other memory write e = no_status s n other e
no_end (Err Memory) n other memory write e = memory e
no_end (Err Write) n other memory write e = write e

-- no answer ends as a failed read, or as words that name no command
pub no_six : (answer : Result Status Unwritten) → ended answer ≡ 6 → ⊥
no_six answer = no_end answer 6 (λ x. omega arith) (λ x. omega arith) (λ x. omega arith)

pub no_two : (answer : Result Status Unwritten) → ended answer ≡ 2 → ⊥
no_two answer = no_end answer 2 (λ x. omega arith) (λ x. omega arith) (λ x. omega arith)

-- a refusal that was told doesn't end as a reply without one
pub refused_not_done : (at : Place) (code : ℕ) {status : ℕ} {old now : Option (List ℕ)} → Ends (refusal_reply at code) status old now → status ≡ 0 → ⊥
refused_not_done at code (whole e w) zero = not_refused (is_limit_code code) 0 (λ n. omega arith) (λ n. omega arith) (sym zero ∙ e)
refused_not_done at code (no_memory e w) zero = omega (arith, e, zero)
refused_not_done at code (read_fault e w) zero = omega (arith, e, zero)
refused_not_done at code (write_fault e w) zero = omega (arith, e, zero)

-- the statuses behind which the source is read to its end
abbrev to_end : ℕ → Bool
to_end n = nat_eq n 0 || nat_eq n 1 || nat_eq n 3 || nat_eq n 4 || nat_eq n 9

is_to_end : {status : ℕ} → IsReadToEnd status → to_end status ≡ true
is_to_end (inl (inl e)) = ap to_end e
is_to_end (inl (inr e)) = ap to_end e
is_to_end (inr (inl e)) = ap to_end e
is_to_end (inr (inr (inl e))) = ap to_end e
is_to_end (inr (inr (inr e))) = ap to_end e

pub not_to_end : {status : ℕ} (n : ℕ) → status ≡ n → to_end n ≡ false → IsReadToEnd status → ⊥
not_to_end n e apart is = true≢false (sym (is_to_end is) ∙ (ap to_end e ∙ apart))

-- nor does one by a limit end as one of these
pub long_not_to_end : {status : ℕ} {old now : Option (List ℕ)} → Ends (refusal_reply nowhere 4) status old now → IsReadToEnd status → ⊥
long_not_to_end (whole e w) = not_to_end 8 e refl
long_not_to_end (no_memory e w) = not_to_end 5 e refl
long_not_to_end (read_fault e w) = not_to_end 6 e refl
long_not_to_end (write_fault e w) = not_to_end 7 e refl

-- a command that reads nothing has no refusal
pub no_eight : {command : LoneCommand} {status : ℕ} {old now : Option (List ℕ)} → EndsWith (UnreadReplies command) status old now → status ≡ 8 → ⊥
no_eight {command} {status} {old} {now} ends eight = from ends.some
  where
    at : {reply : Reply} → reply.status ≡ 0 → Ends reply status old now → ⊥
    at zero (whole e w) = omega (arith, eight, e, zero)
    at zero (no_memory e w) = omega (arith, eight, e)
    at zero (read_fault e w) = omega (arith, eight, e)
    at zero (write_fault e w) = omega (arith, eight, e)

    early : (status ≡ 5) ⊎ (status ≡ 6) → ⊥
    early (inl e) = omega (arith, eight, e)
    early (inr e) = omega (arith, eight, e)

    from : Unreplied status old now ⊎ ((reply : Reply) × UnreadReplies command reply) → ⊥
    from (inl u) = early u.cause
    from (inr s) = at (unread_at s.1) (ends.each s.0 s.1)
