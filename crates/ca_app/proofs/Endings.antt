-- What was given is the one reply that there is.
use Rattle.std.proofs.Common.{◌≡◌, ℕ, List, [], ◌++◌, Option, Result, Ok, Err, ◌⊎◌, inl, inr, refl, ap, sym, ◌∙◌, subst, arith}
use Rattle.ca_base.specs.Devices.{Rose, HasCause, Writes, Began, grown}
use Rattle.ca_base.proofs.Writing.{began_more, grown_nothing, writes_after}
use Rattle.ca_tree.specs.declared.name.Place.{Place}
use Rattle.ca_tree.specs.Plain.{TextTree}
use Rattle.ca_program.specs.Plain.{PlainProgram}
use Rattle.ca_model.specs.declared.value.Object.{Object}
use Rattle.ca_model.specs.Texts.{heap_text}
use Rattle.ca_meaning.specs.Serial.{Ended, done, trapped, spent, serial}
use Rattle.ca_meaning.specs.Output.{Reply, output, reply_of, prints_text, trap_text, spent_text}
use Rattle.ca_parallel.specs.Marks.{SoundMarks}
use Rattle.ca_serial.specs.Runs.{prints_of}
use Rattle.ca_words.specs.declared.Command.{Command}
use Rattle.ca_words.specs.declared.TextCommand.{TextCommand}
use Rattle.ca_words.specs.declared.TextCommand.TheVariants.{Run, Tell}
use Rattle.ca_words.specs.declared.PlanCommand.{PlanCommand}
use Rattle.ca_words.specs.declared.PlanCommand.TheVariants.{Pairs, Plan, Emit}
use Rattle.ca_words.specs.declared.LoneCommand.TheVariants.{Gen, Load}
use Rattle.ca_plan.specs.Plans.{PlainPlan, PlanOf, CommuteAsTold}
use Rattle.ca_plan.specs.Texts.{pairs_text, plan_text}
use Rattle.ca_emit.specs.Annotations.{annotated_text}
use Rattle.ca_app.specs.Refusals.{refusal_reply}
use Rattle.ca_app.specs.clauses.Reading.{HasOneTree, IsProgramOf, IsRefusalOf}
use Rattle.ca_app.specs.Reply.{ProgramReplies, runs, tells, CommandReplies, refuses, serves, IsLoaded, UnreadReplies, generates, loads, Replies, generated_reply, loaded_reply}
use Rattle.ca_app.specs.Ends.{Ends, whole, no_memory, read_fault, write_fault, Unreplied, EndsWith, status_after}
use Rattle.ca_app.specs.Told.{Tells, verdicts, marks, annotated, ProgramTold, CommandTold}
use Rattle.ca_app.proofs.Asked.{Asks, RepliesTo, replies_of, replies_to}
use Rattle.ca_app.proofs.OneReply.{program_reply, command_reply, unread_reply}

-- what came of writing a reply
pub ends_written : {T E : Type 0} (r : Result T E) (status ended : ℕ) (bytes : List ℕ) (old now : Option (List ℕ)) → Writes old now r bytes → ended ≡ status_after r status → Ends (record { status = status; bytes = bytes }) ended old now
ends_written (Ok x) status ended bytes old now w e = whole e w.whole
ends_written (Err x) status ended bytes old now w e = write_fault e w.part

-- writing a reply never ends as a failed read
pub after_six : {T E : Type 0} (r : Result T E) (status ended : ℕ) → ended ≡ status_after r status → (status ≡ 6 → ⊥) → ended ≡ 6 → ⊥
after_six (Ok x) status ended e other six = other (sym e ∙ six)
after_six (Err x) status ended e other six = absurd (omega arith)

-- it ends as a failed write only where the count of faults rose
pub after_seven : {T E : Type 0} (before now : ℕ) (r : Result T E) (status ended : ℕ) → HasCause before now r → ended ≡ status_after r status → (status ≡ 7 → ⊥) → ended ≡ 7 → Rose before now
after_seven before now (Ok x) status ended cause e other seven = absurd (other (sym e ∙ seven))
after_seven before now (Err x) status ended cause e other seven = cause.failed

-- words that name no command are told so, or the write failed
pub usage_cause : {T E : Type 0} (r : Result T E) (ended : ℕ) → ended ≡ status_after r 2 → (ended ≡ 2) ⊎ (ended ≡ 7)
usage_cause (Ok x) ended e = inl e
usage_cause (Err x) ended e = inr e

-- a call that ended before there was a reply ended with each
ends_unreplied : {status : ℕ} {old now : Option (List ℕ)} → Unreplied status old now → (reply : Reply) → Ends reply status old now
ends_unreplied {status} {old} {now} u reply = from u.cause
  where
    from : (status ≡ 5) ⊎ (status ≡ 6) → Ends reply status old now
    from (inl e) = no_memory e (record { done = []; rest = reply.bytes; whole = refl; told = u.same ∙ sym (grown_nothing old) })
    from (inr e) = read_fault e u.same

pub unreplied_ends : {replies : Reply → Type 0} {status : ℕ} {old now : Option (List ℕ)} → Unreplied status old now → EndsWith replies status old now
unreplied_ends u = record { some = inl u; each = λ reply is. ends_unreplied u reply }

module _ {status : ℕ} {old now : Option (List ℕ)} where
  -- with the one reply that there is
  pub only_reply : (replies : Reply → Type 0) (is : Reply) → replies is → ((r s : Reply) → replies r → replies s → r ≡ s) → Ends is status old now → EndsWith replies status old now
  only_reply replies is one only ends = record {
    some = inr (is, one);
    each = λ reply this. let P : Reply → Type 0 = λ r. Ends r status old now in subst P (only is reply one this) ends;
  }

  -- with what is a reply of two kinds at once
  pub ends_alike : (replies others : Reply → Type 0) → ((reply : Reply) → replies reply → others reply) → ((reply : Reply) → others reply → replies reply) → EndsWith replies status old now → EndsWith others status old now
  ends_alike replies others to back ends = record { some = some ends.some; each = λ reply other. ends.each reply (back reply other) }
    where
      some : Unreplied status old now ⊎ ((reply : Reply) × replies reply) → Unreplied status old now ⊎ ((reply : Reply) × others reply)
      some (inl u) = inl u
      some (inr s) = inr (s.0, to s.0 s.1)

module _ {command : TextCommand} {text : List ℕ} {status : ℕ} {old now : Option (List ℕ)} where
  pub ends_refused : {at : Place} {code : ℕ} → IsRefusalOf text at code → Ends (refusal_reply at code) status old now → EndsWith (CommandReplies command text) status old now
  ends_refused is = only_reply (CommandReplies command text) _ (refuses is.refused) (λ r s x y. command_reply x y)

  pub ends_program : (p : PlainProgram) (tree : TextTree) → IsProgramOf text p → HasOneTree text tree → EndsWith (ProgramReplies tree p command) status old now → EndsWith (CommandReplies command text) status old now
  ends_program p tree is one = ends_alike (ProgramReplies tree p command) (CommandReplies command text) to back
    where
      to : (reply : Reply) → ProgramReplies tree p command reply → CommandReplies command text reply
      to reply replies =
          let P : TextTree → Type 0 = λ t. ProgramReplies t p command reply in
          serves is.accepted (subst P (sym (one.only is.accepted.tree is.accepted.has_tree)) replies)

      back : (reply : Reply) → CommandReplies command text reply → ProgramReplies tree p command reply
      back reply (refuses {at = q} {code = d} refused) = absurd (is.unrefused q d refused)
      back reply (serves {p = q} accepted' replies) =
          let P : PlainProgram → Type 0 = λ x. ProgramReplies tree x command reply in
          let Q : TextTree → Type 0 = λ x. ProgramReplies x q command reply in
          subst P (is.only q accepted') (subst Q (one.only accepted'.tree accepted'.has_tree) replies)

-- what was told of the program was told of the text
pub told_of_text : {command : PlanCommand} {text : List ℕ} {old now : Option (List ℕ)} (p : PlainProgram) (tree : TextTree) → IsProgramOf text p → HasOneTree text tree
    → ProgramTold tree p command old now → CommandTold command text old now
told_of_text {command} {old = old} {now = now} p tree is one told =
    let P : TextTree → Type 0 = λ t. ProgramTold t p command old now in
    record {
      program = p;
      accepted = is.accepted;
      told = subst P (sym (one.only is.accepted.tree is.accepted.has_tree)) told;
    }

-- what a command tells of a plan
abbrev pub told_text : TextTree → PlainProgram → PlainPlan → PlanCommand → List ℕ
told_text tree p plan Pairs = pairs_text p plan
told_text tree p plan Plan = plan_text p plan
told_text tree p plan Emit = annotated_text p plan tree

its_text : (tree : TextTree) (p : PlainProgram) (plan : PlainPlan) (c : PlanCommand) → Tells tree p plan c (told_text tree p plan c)
its_text tree p plan Pairs = verdicts
its_text tree p plan Plan = marks
its_text tree p plan Emit = annotated

one_text : {tree : TextTree} {p : PlainProgram} {plan : PlainPlan} {c : PlanCommand} {bytes : List ℕ} → Tells tree p plan c bytes → told_text tree p plan c ≡ bytes
one_text verdicts = refl
one_text marks = refl
one_text annotated = refl

pub told_so : {tree : TextTree} {p : PlainProgram} {plan : PlainPlan} {command : PlanCommand} {bytes : List ℕ} {status : ℕ} {old now : Option (List ℕ)} (c : PlanCommand) → command ≡ c → Tells tree p plan command bytes
    → Ends (record { status = 0; bytes = told_text tree p plan c }) status old now → Ends (record { status = 0; bytes = bytes }) status old now
told_so {tree} {p} {plan} {command} {bytes} {status} {old} {now} c e told ends =
    let P : List ℕ → Type 0 = λ b. Ends (record { status = 0; bytes = b }) status old now in
    subst P (ap (told_text tree p plan) (sym e) ∙ one_text told) ends

-- what a run replies begins with its prints
abbrev rest_of_reply : PlainProgram → ℕ → Ended → List ℕ
rest_of_reply p b (done prints heap steps) = heap_text p heap
rest_of_reply p b (trapped prints t) = trap_text t
rest_of_reply p b (spent prints) = spent_text b

prints_first : (p : PlainProgram) (b : ℕ) (e : Ended) → (reply_of p b e).bytes ≡ prints_text (prints_of e) ++ rest_of_reply p b e
prints_first p b (done prints heap steps) = refl
prints_first p b (trapped prints t) = refl
prints_first p b (spent prints) = refl

-- a run whose prints, or a beginning of them, were written, has begun its reply
pub begun_run : (p : PlainProgram) (b : ℕ) (old now : Option (List ℕ)) → Began old now (prints_text (prints_of (serial p b))) → Began old now (output p b).bytes
begun_run p b old now begun =
    let P : List ℕ → Type 0 = λ bytes. Began old now bytes in
    subst P (sym (prints_first p b (serial p b))) (began_more old now (prints_text (prints_of (serial p b))) (rest_of_reply p b (serial p b)) begun)

-- what came of writing what a run that ends so replies behind its prints
pub ends_run_written : {T E : Type 0} (p : PlainProgram) (b : ℕ) (e : Ended) (r : Result T E) (status ended : ℕ) (rest : List ℕ) (old mid now : Option (List ℕ))
    → serial p b ≡ e → reply_of p b e ≡ record { status = status; bytes = prints_text (prints_of e) ++ rest }
    → mid ≡ grown old (prints_text (prints_of e)) → Writes mid now r rest → ended ≡ status_after r status → Ends (output p b) ended old now
ends_run_written p b e r status ended rest old mid now is reply told written status_is =
    let P : Reply → Type 0 = λ reply. Ends reply ended old now in
    let output_is : output p b ≡ reply_of p b e = ap (reply_of p b) is in
    subst P (sym (output_is ∙ reply))
    (ends_written r status ended (prints_text (prints_of e) ++ rest) old now (writes_after old mid now r (prints_text (prints_of e)) rest told written) status_is)

module _ {status : ℕ} {old now : Option (List ℕ)} where
  pub ends_run : (tree : TextTree) (p : PlainProgram) (workers budget : ℕ) → Ends (output p budget) status old now → EndsWith (ProgramReplies tree p (Run workers budget)) status old now
  ends_run tree p workers budget = only_reply _ _ runs (λ r s x y. program_reply x y)

  pub ends_generated : (seed size : ℕ) → Ends (generated_reply seed size) status old now → EndsWith (UnreadReplies (Gen seed size)) status old now
  ends_generated seed size = only_reply _ _ generates (λ r s x y. unread_reply x y)

  pub ends_loaded : (seed size workers steps : ℕ) (heap : List Object) → IsLoaded seed size heap steps → Ends (loaded_reply heap steps) status old now
      → EndsWith (UnreadReplies (Load seed size workers)) status old now
  ends_loaded seed size workers steps heap loaded = only_reply _ _ (loads loaded) (λ r s x y. unread_reply x y)

  -- what a command tells of some plan of the program is its reply
  pub ends_told : (tree : TextTree) (p : PlainProgram) (plan : PlainPlan) (command : PlanCommand) → PlanOf p plan
      → ((bytes : List ℕ) → Tells tree p plan command bytes → Ends (record { status = 0; bytes = bytes }) status old now) → EndsWith (ProgramReplies tree p (Tell command)) status old now
  ends_told tree p plan command is ends = let t = its_text tree p plan command in only_reply _ _ (tells is t) (λ r s x y. program_reply x y) (ends (told_text tree p plan command) t)

  -- and where the status is 0 it was written whole
  pub was_told : (tree : TextTree) (p : PlainProgram) (plan : PlainPlan) (command : PlanCommand) → PlanOf p plan → SoundMarks p plan.marks → CommuteAsTold p plan
      → ((bytes : List ℕ) → Tells tree p plan command bytes → Ends (record { status = 0; bytes = bytes }) status old now) → status ≡ 0 → ProgramTold tree p command old now
  was_told tree p plan command is sound commute ends zero =
      let t = its_text tree p plan command in
      record { plan = plan; is = is; bytes = told_text tree p plan command; tells = t; written = written (ends (told_text tree p plan command) t); sound = sound; commute = commute }
    where
      written : {bytes : List ℕ} → Ends (record { status = 0; bytes = bytes }) status old now → now ≡ grown old bytes
      written (whole e w) = w
      written (no_memory e w) = absurd (omega (arith, zero, e))
      written (read_fault e w) = absurd (omega (arith, zero, e))
      written (write_fault e w) = absurd (omega (arith, zero, e))

-- a run tells no plan
pub no_telling : {A : Type 0} (workers budget : ℕ) (told : PlanCommand) → ◌≡◌ {A = TextCommand} (Run workers budget) (Tell told) → A
no_telling workers budget told e = absurd cc

pub same_telling : (c d : PlanCommand) → ◌≡◌ {A = TextCommand} (Tell c) (Tell d) → c ≡ d
same_telling c d e = cc

-- what is replied to what was asked is replied to the words and the text
pub ends_asked : {status : ℕ} {old now : Option (List ℕ)} (words : List (List ℕ)) (text : List ℕ) (asked : Option Command) → Asks words asked
    → EndsWith (RepliesTo asked text) status old now → EndsWith (Replies words text) status old now
ends_asked words text asked is =
    ends_alike (RepliesTo asked text) (Replies words text) (λ reply replies. replies_of words text reply asked is replies) (λ reply replies. replies_to words text reply asked is replies)
