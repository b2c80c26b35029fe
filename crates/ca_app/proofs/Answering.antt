-- From what was asked and how it was answered to the clauses of `top`.
use Rattle.std.proofs.Common.{◌≡◌, ℕ, ◌≤◌, ◌⊎◌, false, List, Option, Some, None, refl, sym, ◌∙◌, true≢false, subst, inl, inr, arith}
use Rattle.std.specs.Prelude.{IfSome, IfNone, length}
use Rattle.ca_base.specs.Devices.{Rose, grown, at_end}
use Rattle.ca_meaning.specs.Output.{Reply}
use Rattle.ca_words.specs.declared.Command.{Command}
use Rattle.ca_words.specs.declared.Command.TheVariants.{OnText, Alone, Trace, Verify}
use Rattle.ca_words.specs.declared.TextCommand.{TextCommand}
use Rattle.ca_words.specs.declared.TextCommand.TheVariants.{Tell}
use Rattle.ca_words.specs.declared.PlanCommand.{PlanCommand}
use Rattle.ca_words.specs.Words.{Names}
use Rattle.ca_app.specs.declared.ending.Status.{Status}
use Rattle.ca_app.specs.Causes.{IsUsageFault, NamesNoTrace, ReadsNothing, ReadsSource, PlanTold}
use Rattle.ca_app.specs.Ends.{Ends, whole, no_memory, read_fault, write_fault, Unreplied, EndsWith, EndsWithOne, unreplied, replied, Complete, CompleteWithOne, IsReadToEnd}
use Rattle.ca_app.specs.Reply.{Replies, usage_reply}
use Rattle.ca_app.specs.Told.{CommandTold}
use Rattle.ca_app.specs.Traced.{TraceReplies, refuses, records}
use Rattle.ca_app.specs.clauses.Asked.{reads_source, most_read, Uses, Answers, no_command, on_text, alone, traced, verified}
use Rattle.ca_app.specs.clauses.Ended.{number_of}
use Rattle.ca_app.proofs.Asked.{Asks, RepliesTo, TellsPlan, asks, one_asked, no_trace, tells_none, unread_by, read_by, at_least, replies_to}
use Rattle.ca_app.proofs.Ended.{no_status}
use Rattle.ca_app.proofs.Endings.{ends_asked, only_reply}
use Rattle.ca_app.proofs.OneReading.{is_refusal}
use Rattle.ca_app.proofs.OneReply.{one_refusal}
use Rattle.ca_app.proofs.StatusLemmas.{status_at, the_one, one_of_trace, Says, Said, said_so, says_so}
use Rattle.ca_app.proofs.Traces.{same_trace}

-- A reply that was given whole.
record Given (replies : Reply → Type 0) (status : ℕ) (old now : Option (List ℕ)) : Type 0 where
  pub reply : Reply
  pub is_one : replies reply
  pub same : status ≡ reply.status
  pub bytes : now ≡ grown old reply.bytes

-- How the call ended: with the one reply of the words and the text, or with one of those of `trace`.
data Got (words : List (List ℕ)) (text : List ℕ) (status : ℕ) (old now : Option (List ℕ)) : Type 0 where
  the_reply : NamesNoTrace words → (TellsPlan words → status ≡ 0 → PlanTold words text old now) → EndsWith (Replies words text) status old now → Got words text status old now
  a_trace : {workers budget : ℕ} → Names words (Trace workers budget) → EndsWithOne (TraceReplies budget text) status old now → Got words text status old now

same_text : (c d : TextCommand) → ◌≡◌ {A = Option Command} (Some (OnText c)) (Some (OnText d)) → c ≡ d
same_text c d e = cc

words_told : {text : List ℕ} {status : ℕ} {old now : Option (List ℕ)} (words : List (List ℕ)) (c : TextCommand) → Names words (OnText c)
    → ((told : PlanCommand) → c ≡ Tell told → status ≡ 0 → CommandTold told text old now) → TellsPlan words → status ≡ 0 → PlanTold words text old now
words_told words c names told n zero =
    let same = same_text c (Tell n.0) (one_asked words (Some (OnText c)) (Some (OnText (Tell n.0))) names n.1) in
    record { command = n.0; named = n.1; told = told n.0 same zero }

ends_usage : {status : ℕ} {old now : Option (List ℕ)} (text : List ℕ) → Ends usage_reply status old now → EndsWith (RepliesTo None text) status old now
ends_usage text = only_reply (RepliesTo None text) usage_reply refl (λ r s x y. x ∙ sym y)

-- where nothing is read, the reply doesn't need the text
unread_ends : {status : ℕ} {old now left : Option (List ℕ)} (words : List (List ℕ)) (text : List ℕ) (asked : Option Command) → Asks words asked → reads_source asked ≡ false
    → Answers left status old now asked → EndsWith (Replies words text) status old now
unread_ends words text asked is nothing (no_command ends cause) = ends_asked words text None is (ends_usage text ends)
unread_ends words text asked is nothing (alone {command = c} ends) = ends_asked words text (Some (Alone c)) is ends
unread_ends words text asked is nothing (on_text served) = absurd (true≢false nothing)
unread_ends words text asked is nothing (traced ends) = absurd (true≢false nothing)
unread_ends words text asked is nothing (verified ends) = absurd (true≢false nothing)

got : {status : ℕ} {old now left : Option (List ℕ)} (words : List (List ℕ)) (text : List ℕ) (asked : Option Command) → Asks words asked → left ≡ Some text
    → Answers left status old now asked → Got words text status old now
got words text asked is told (no_command ends cause) =
    the_reply (no_trace words None is (λ e. omega arith)) (λ n zero. tells_none words None is (λ e. omega arith) n)
    (ends_asked words text None is (ends_usage text ends))
got words text asked is told (on_text {command = c} served) =
    let s = served text told in
    the_reply (no_trace words (Some (OnText c)) is (λ e. omega arith)) (words_told words c is s.told) (ends_asked words text (Some (OnText c)) is s.ends)
got words text asked is told (alone {command = c} ends) =
    the_reply (no_trace words (Some (Alone c)) is (λ e. omega arith)) (λ n zero. tells_none words (Some (Alone c)) is (λ e. omega arith) n) (ends_asked words text (Some (Alone c)) is ends)
got words text asked is told (traced ends) = a_trace is (ends text told)
got words text asked is told (verified {budget = b} ends) =
    the_reply (no_trace words (Some (Verify b)) is (λ e. omega arith)) (λ n zero. tells_none words (Some (Verify b)) is (λ e. omega arith) n)
    (ends_asked words text (Some (Verify b)) is (ends text told))

-- ---- but for the statuses of memory and devices, a reply was given whole

no_early : {status : ℕ} → (status ≡ 5 → ⊥) → (status ≡ 6 → ⊥) → (status ≡ 5) ⊎ (status ≡ 6) → ⊥
no_early five six (inl e) = five e
no_early five six (inr e) = six e

module _ {replies : Reply → Type 0} {status : ℕ} {old now : Option (List ℕ)} where
  given_whole : (status ≡ 5 → ⊥) → (status ≡ 6 → ⊥) → (status ≡ 7 → ⊥) → (reply : Reply) → replies reply → Ends reply status old now → Given replies status old now
  given_whole five six seven reply is (whole e w) = record { reply = reply; is_one = is; same = e; bytes = w }
  given_whole five six seven reply is (no_memory e w) = absurd (five e)
  given_whole five six seven reply is (read_fault e w) = absurd (six e)
  given_whole five six seven reply is (write_fault e w) = absurd (seven e)

  given : (status ≡ 5 → ⊥) → (status ≡ 6 → ⊥) → (status ≡ 7 → ⊥) → EndsWith replies status old now → Given replies status old now
  given five six seven ends = from ends.some
    where
      from : Unreplied status old now ⊎ ((reply : Reply) × replies reply) → Given replies status old now
      from (inl u) = absurd (no_early five six u.cause)
      from (inr s) = given_whole five six seven s.0 s.1 (ends.each s.0 s.1)

  given_one : (status ≡ 5 → ⊥) → (status ≡ 6 → ⊥) → (status ≡ 7 → ⊥) → EndsWithOne replies status old now → Given replies status old now
  given_one five six seven (unreplied u) = absurd (no_early five six u.cause)
  given_one five six seven (replied {reply = reply} is ends) = given_whole five six seven reply is ends

-- ---- where no device failed, only memory can have run out

complete_whole : {reply : Reply} {status : ℕ} {old now : Option (List ℕ)} → (status ≡ 6 → ⊥) → (status ≡ 7 → ⊥) → Ends reply status old now → Complete reply status old now
complete_whole six seven (whole e w) = inr (e, w)
complete_whole six seven (no_memory e w) = inl e
complete_whole six seven (read_fault e w) = absurd (six e)
complete_whole six seven (write_fault e w) = absurd (seven e)

module _ (replies : Reply → Type 0) (status : ℕ) (old now : Option (List ℕ)) where
  complete_early : (status ≡ 6 → ⊥) → (status ≡ 5) ⊎ (status ≡ 6) → CompleteWithOne replies status old now
  complete_early six (inl e) = inl e
  complete_early six (inr e) = absurd (six e)

  complete_with : (reply : Reply) → replies reply → Complete reply status old now → CompleteWithOne replies status old now
  complete_with reply is (inl e) = inl e
  complete_with reply is (inr s) = inr (reply, is, s.0, s.1)

complete_one : {replies : Reply → Type 0} {status : ℕ} {old now : Option (List ℕ)} → (status ≡ 6 → ⊥) → (status ≡ 7 → ⊥) → EndsWithOne replies status old now → CompleteWithOne replies status old now
complete_one {replies} {status} {old} {now} six seven (unreplied u) = complete_early replies status old now six u.cause
complete_one {replies} {status} {old} {now} six seven (replied {reply = reply} is ends) = complete_with replies status old now reply is (complete_whole six seven ends)

-- a refused text has one reply of `trace`
one_of_both : {words : List (List ℕ)} {text : List ℕ} (workers budget : ℕ) → Names words (Trace workers budget) → (reply other : Reply) → Replies words text reply → TraceReplies budget text other → reply ≡ other
one_of_both {words} {text} w b names reply other replies (refuses refused) =
    let is = replies_to words text reply (Some (Trace w b)) names replies in
    is.3 ∙ one_refusal is.2 refused
one_of_both {words} {text} w b names reply other replies (records {p = p} accepted told) =
    let is = replies_to words text reply (Some (Trace w b)) names replies in
    absurd ((is_refusal is.2).unaccepted p accepted)

-- ---- what was got

module _ {status : ℕ} {old now : Option (List ℕ)} {words : List (List ℕ)} {text : List ℕ} where
  headline_of : Got words text status old now → NamesNoTrace words → EndsWith (Replies words text) status old now
  headline_of (the_reply none told ends) other = ends
  headline_of (a_trace {workers = w} {budget = b} names ends) other = absurd (other w b names)

  traced_of : Got words text status old now → (workers budget : ℕ) → Names words (Trace workers budget) → EndsWithOne (TraceReplies budget text) status old now
  traced_of (the_reply none told ends) w b names = absurd (none w b names)
  traced_of (a_trace {workers = v} {budget = a} names' ends) w b names =
      let P : ℕ → Type 0 = λ k. EndsWithOne (TraceReplies k text) status old now in
      subst P (same_trace v a w b names' names) ends

  said_of : (status ≡ 5 → ⊥) → (status ≡ 6 → ⊥) → (status ≡ 7 → ⊥) → Got words text status old now
      → (reply : Reply) × (status ≡ reply.status) × (Said words text old now reply.status ⊎ (reply.status ≡ 2))
  said_of five six seven (the_reply none told ends) =
      let g = given five six seven ends in
      (g.reply, g.same, said_so status g.reply told g.same g.bytes (the_one g.is_one))
  said_of five six seven (a_trace {workers = w} {budget = b} names ends) =
      let g = given_one five six seven ends in
      (g.reply, g.same, said_so status g.reply (λ n zero. tells_none words (Some (Trace w b)) names (λ e. omega arith) n) g.same g.bytes (one_of_trace names g.is_one))

  says_by : (t : Status) → status ≡ number_of t → (reply : Reply) → status ≡ reply.status → Said words text old now reply.status ⊎ (reply.status ≡ 2) → Says words text old now t
  says_by t is reply same (inl said) = says_so t said (sym same ∙ is)
  says_by t is reply same (inr two) = absurd (no_status t 2 (λ e. omega arith) (sym is ∙ (same ∙ two)))

  says_of : Got words text status old now → (t : Status) → status ≡ number_of t → Says words text old now t
  says_of it t is =
      let said = said_of (other 5 (λ x. omega arith)) (other 6 (λ x. omega arith)) (other 7 (λ x. omega arith)) it in
      says_by t is said.0 said.1 said.2
    where
      other : (n : ℕ) → ¬ (number_of (status_at n) ≡ n) → status ≡ n → ⊥
      other n none e = no_status t n none (sym is ∙ e)

  complete_of : (status ≡ 6 → ⊥) → (status ≡ 7 → ⊥) → Got words text status old now → (reply : Reply) → Replies words text reply → Complete reply status old now
  complete_of six seven (the_reply none told ends) reply replies = complete_whole six seven (ends.each reply replies)
  complete_of six seven (a_trace {workers = w} {budget = b} names ends) reply replies = from (complete_one six seven ends)
    where
      from : CompleteWithOne (TraceReplies b text) status old now → Complete reply status old now
      from (inl e) = inl e
      from (inr s) =
          let P : Reply → Type 0 = λ r. Complete r status old now in
          subst P (sym (one_of_both w b names reply s.0 replies s.1)) (inr (s.2, s.3))

-- ---- the clauses of `top`: the words ask this, and it was answered so

module _ (words : List (List ℕ)) (asked : Option Command) (named : IfSome asked (Names words)) (none : IfNone asked (IsUsageFault words)) where
  module _ {status : ℕ} {old now left : Option (List ℕ)} (answers : Answers left status old now asked) where
    got_so : (text : List ℕ) → left ≡ Some text → Got words text status old now
    got_so text told = got words text asked (asks words asked named none) told answers

    pub headline : (text : List ℕ) → left ≡ Some text → NamesNoTrace words → EndsWith (Replies words text) status old now
    headline text told other = headline_of (got_so text told) other

    pub traced_so : (text : List ℕ) → left ≡ Some text → (workers budget : ℕ) → Names words (Trace workers budget) → EndsWithOne (TraceReplies budget text) status old now
    traced_so text told w b names = traced_of (got_so text told) w b names

    pub says : (t : Status) (text : List ℕ) → left ≡ Some text → status ≡ number_of t → Says words text old now t
    says t text told is = says_of (got_so text told) t is

    pub unread_headline : ReadsNothing words → (text : List ℕ) → EndsWith (Replies words text) status old now
    unread_headline nothing text = let is = asks words asked named none in unread_ends words text asked is (unread_by words asked is nothing) answers

    pub usage_status : IsUsageFault words → (status ≡ 2) ⊎ (status ≡ 7)
    usage_status fault =
        let P : Option Command → Type 0 = λ x. Answers left status old now x in
        by (subst P (one_asked words asked None (asks words asked named none) fault) answers)
      where
        by : Answers left status old now None → (status ≡ 2) ⊎ (status ≡ 7)
        by (no_command ends cause) = cause

    module _ {left' : Option (List ℕ)} {faults faults' sunk sunk' : ℕ} (uses : Uses asked status left left' faults faults' sunk sunk') (text : List ℕ) (told : left ≡ Some text)
        (unread : Rose faults faults' → ⊥) (unwritten : Rose sunk sunk' → ⊥) where
      pub complete : (reply : Reply) → Replies words text reply → Complete reply status old now
      complete reply replies = complete_of (λ six. unread (uses.read_fault six).1) (λ seven. unwritten (uses.write_fault.rose seven)) (got_so text told) reply replies

      pub traced_complete : (workers budget : ℕ) → Names words (Trace workers budget) → CompleteWithOne (TraceReplies budget text) status old now
      traced_complete w b names =
          complete_one (λ six. unread (uses.read_fault six).1) (λ seven. unwritten (uses.write_fault.rose seven)) (traced_so text told w b names)

  module _ {status : ℕ} {left left' : Option (List ℕ)} {faults faults' sunk sunk' : ℕ} (uses : Uses asked status left left' faults faults' sunk sunk') where
    pub unread_fault : ReadsNothing words → status ≡ 6 → ⊥
    unread_fault nothing six = true≢false (sym (uses.read_fault six).0 ∙ unread_by words asked (asks words asked named none) nothing)

    pub usage_only : status ≡ 2 → IsUsageFault words
    usage_only two =
        let P : Option Command → Type 0 = λ x. Asks words x in
        subst P (uses.usage_only two) (asks words asked named none)

    pub read_to_end : ReadsSource words → IsReadToEnd status → left' ≡ at_end left
    read_to_end reads is = uses.read_to_end (read_by words asked (asks words asked named none) reads) is

    pub limit_read_to_end : (text : List ℕ) → left ≡ Some text → length text ≤ 1048576 → status ≡ 8 → left' ≡ at_end left
    limit_read_to_end text told short eight = uses.limit_read_to_end text told (at_least asked (length text) short) eight

    pub schedule_read_to_end : (text : List ℕ) → left ≡ Some text → (budget : ℕ) → Names words (Verify budget) → length text ≤ 67108864 → status ≡ 8 → left' ≡ at_end left
    schedule_read_to_end text told b names short eight =
        let P : Option Command → Type 0 = λ x. length text ≤ most_read x in
        let same = one_asked words asked (Some (Verify b)) (asks words asked named none) names in
        uses.limit_read_to_end text told (subst P (sym same) short) eight
