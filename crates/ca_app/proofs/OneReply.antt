-- Words and a text have one reply at most.
use Rattle.std.proofs.Common.{◌≡◌, ℕ, List, Option, Some, None, refl, sym, ap, ◌∙◌, subst}
use Rattle.ca_tree.specs.Plain.{TextTree}
use Rattle.ca_program.specs.Plain.{PlainProgram}
use Rattle.ca_model.specs.declared.value.Object.{Object}
use Rattle.ca_model.specs.declared.value.Value.{Value as Datum}
use Rattle.ca_meaning.specs.Output.{Reply}
use Rattle.ca_meaning.specs.Serial.{Ended, done, serial}
use Rattle.ca_words.specs.declared.Command.{Command}
use Rattle.ca_words.specs.declared.Command.TheVariants.{OnText, Alone, Trace, Verify}
use Rattle.ca_words.specs.declared.TextCommand.{TextCommand}
use Rattle.ca_words.specs.declared.PlanCommand.{PlanCommand}
use Rattle.ca_words.specs.declared.LoneCommand.{LoneCommand}
use Rattle.ca_plan.specs.Plans.{PlainPlan, PlanOf}
use Rattle.ca_plan.proofs.OnePlan.{one_pairs_text, one_plan_text}
use Rattle.ca_emit.proofs.OneText.{one_annotated_text}
use Rattle.ca_tree.specs.declared.name.Place.{Place}
use Rattle.ca_app.specs.Refusals.{RefusedAt, refusal_reply}
use Rattle.ca_app.specs.Reply.{ProgramReplies, runs, tells, CommandReplies, refuses, serves, IsLoaded, UnreadReplies, generates, loads, Replies, loaded_reply}
use Rattle.ca_app.specs.Told.{Tells, verdicts, marks, annotated}
use Rattle.ca_app.proofs.Asked.{RepliesTo, asked_by, replies_to}
use Rattle.ca_app.proofs.OneReading.{has_one, is_refusal, is_program}
use Rattle.ca_app.proofs.OneVerify.{verify_one}

-- what a command tells of a program is one, whichever plan it is told of
one_telling : {tree : TextTree} {p : PlainProgram} {command : PlanCommand} {bytes others : List ℕ} (x y : PlainPlan) → PlanOf p x → PlanOf p y
    → Tells tree p x command bytes → Tells tree p y command others → bytes ≡ others
one_telling {p = p} x y is other verdicts verdicts = one_pairs_text p x y is other
one_telling {p = p} x y is other marks marks = one_plan_text p x y is other
one_telling {tree = tree} {p = p} x y is other annotated annotated = one_annotated_text p tree x y is other

-- a command has one reply to a program
pub program_reply : {tree : TextTree} {p : PlainProgram} {command : TextCommand} {r s : Reply} → ProgramReplies tree p command r → ProgramReplies tree p command s → r ≡ s
program_reply runs runs = refl
program_reply (tells {plan = x} is t) (tells {plan = y} other u) =
    let P : List ℕ → Reply = λ z. record { status = 0; bytes = z } in ap P (one_telling x y is other t u)

-- a refused text has one refusal
pub one_refusal : {text : List ℕ} {p q : Place} {c d : ℕ} → RefusedAt text p c → RefusedAt text q d → refusal_reply p c ≡ refusal_reply q d
one_refusal {p = p} {q = q} {c = c} one other =
    let is = is_refusal other in
    ap (λ x. refusal_reply x c) (is.place p c one) ∙ ap (λ x. refusal_reply q x) (is.number p c one)

-- and one to a text
pub command_reply : {command : TextCommand} {text : List ℕ} {r s : Reply} → CommandReplies command text r → CommandReplies command text s → r ≡ s
command_reply (refuses one) (refuses other) = one_refusal one other
command_reply (refuses refused) (serves accepted replies) = absurd ((is_refusal refused).unaccepted _ accepted)
command_reply (serves accepted replies) (refuses {at = q} {code = d} refused) = absurd ((is_program accepted).unrefused q d refused)
command_reply {command} {r = r} (serves {p = p} accepted replies) (serves {p = q} accepted' replies') =
    let P : PlainProgram → Type 0 = λ x. ProgramReplies accepted'.tree x command r in
    let Q : TextTree → Type 0 = λ x. ProgramReplies x p command r in
    program_reply (subst P ((is_program accepted').only p accepted) (subst Q ((has_one accepted'.has_tree).only accepted.tree accepted.has_tree) replies)) replies'

-- a run has one end
one_heap : {prints others : List Datum} {h k : List Object} {steps more : ℕ} → ◌≡◌ {A = Ended} (done prints h steps) (done others k more) → h ≡ k
one_heap e = cc

one_count : {prints others : List Datum} {h k : List Object} {steps more : ℕ} → ◌≡◌ {A = Ended} (done prints h steps) (done others k more) → steps ≡ more
one_count e = cc

-- the run of the text of a seed and a size has one summary
one_loaded : {seed size steps more : ℕ} {h k : List Object} → IsLoaded seed size h steps → IsLoaded seed size k more → loaded_reply h steps ≡ loaded_reply k more
one_loaded {steps = steps} {h = h} {k = k} a b =
    let P : PlainProgram → Ended = λ p. serial p 1000000000 in
    let same : done a.prints h steps ≡ done b.prints k _ = sym a.ran ∙ ap P ((is_program b.accepted).only a.program a.accepted) ∙ b.ran in
    ap (λ x. loaded_reply x steps) (one_heap same) ∙ ap (λ n. loaded_reply k n) (one_count same)

-- a command that reads nothing has one reply
pub unread_reply : {command : LoneCommand} {r s : Reply} → UnreadReplies command r → UnreadReplies command s → r ≡ s
unread_reply generates generates = refl
unread_reply (loads loaded) (loads loaded') = one_loaded loaded loaded'

-- what was asked has one reply
one_to : (asked : Option Command) (text : List ℕ) (r s : Reply) → RepliesTo asked text r → RepliesTo asked text s → r ≡ s
one_to None text r s is this = is ∙ sym this
one_to (Some (OnText c)) text r s replies replies' = command_reply replies replies'
one_to (Some (Alone c)) text r s replies replies' = unread_reply replies replies'
one_to (Some (Trace w b)) text r s refused refused' = refused.3 ∙ one_refusal refused.2 refused'.2 ∙ sym refused'.3
one_to (Some (Verify b)) text r s replies replies' = verify_one b text r s replies replies'

pub one_reply : {words : List (List ℕ)} {text : List ℕ} {r s : Reply} → Replies words text r → Replies words text s → r ≡ s
one_reply {words} {text} {r = r} {s = s} replies replies' =
    let it = asked_by words text r replies in
    one_to it.0 text r s it.2 (replies_to words text s it.0 it.1 replies')
