-- What words ask: a command, or nothing. It is one thing, so what words and a text reply is what is replied to that.
use Rattle.std.proofs.Common.{◌≡◌, ℕ, ◌≤◌, false, true, List, Option, Some, None, refl, sym, ap, ◌∙◌, subst, arith}
use Rattle.std.specs.Prelude.{IfSome, IfNone}
use Rattle.ca_tree.specs.declared.name.Place.{Place}
use Rattle.ca_meaning.specs.Output.{Reply}
use Rattle.ca_words.specs.declared.Command.{Command}
use Rattle.ca_words.specs.declared.Command.TheVariants.{OnText, Alone, Trace, Verify}
use Rattle.ca_words.specs.declared.TextCommand.TheVariants.{Tell}
use Rattle.ca_words.specs.declared.PlanCommand.{PlanCommand}
use Rattle.ca_words.specs.Words.{Names, IsInRange, reads}
use Rattle.ca_words.proofs.OneCommand.{one_command}
use Rattle.ca_app.specs.Causes.{IsUsageFault, ReadsNothing, ReadsSource, NamesNoTrace}
use Rattle.ca_app.specs.Refusals.{RefusedAt, refusal_reply}
use Rattle.ca_app.specs.Reply.{CommandReplies, UnreadReplies, Replies, usage, unread, named, untraced, verifies, usage_reply}
use Rattle.ca_app.specs.Verified.{VerifyReplies}
use Rattle.ca_app.specs.clauses.Asked.{reads_source, most_read}

-- the words name this command, or none
abbrev pub Asks : List (List ℕ) → Option Command → Type 0
Asks words None = IsUsageFault words
Asks words (Some command) = Names words command

pub asks : (words : List (List ℕ)) (asked : Option Command) → IfSome asked (Names words) → IfNone asked (IsUsageFault words) → Asks words asked
asks words None some fault = fault
asks words (Some command) names fault = names

pub in_range : (words : List (List ℕ)) (asked : Option Command) → IfSome asked (Names words) → IfSome asked IsInRange
in_range words None some = tt
in_range words (Some command) names = names.in_range

pub one_asked : (words : List (List ℕ)) (a b : Option Command) → Asks words a → Asks words b → a ≡ b
one_asked words None None x y = refl
one_asked words None (Some d) x y = absurd (x d y)
one_asked words (Some c) None x y = absurd (y c x)
one_asked words (Some c) (Some d) x y = ap (λ (z : Command). Some z) (one_command words c d x y)

-- what is asked, where it is this command and that is of a kind
pub asked_as : (asked : Option Command) (c d : Command) → asked ≡ Some c → c ≡ d → asked ≡ Some d
asked_as asked c d is same = is ∙ ap (λ (x : Command). Some x) same

-- the kind of what is asked, by which five kinds differ
abbrev pub kind : Option Command → ℕ
kind (Some (OnText c)) = 0
kind (Some (Alone c)) = 1
kind (Some (Trace w b)) = 2
kind (Some (Verify b)) = 3
kind None = 4

-- words don't ask things of two kinds
pub other : {A : Type 0} (words : List (List ℕ)) (a b : Option Command) → Asks words a → Asks words b → ¬ (kind a ≡ kind b) → A
other words a b x y apart = absurd (apart (ap kind (one_asked words a b x y)))

-- words that ask another thing don't name `trace`
pub no_trace : (words : List (List ℕ)) (asked : Option Command) → Asks words asked → ¬ (kind asked ≡ 2) → NamesNoTrace words
no_trace words asked asks apart = λ w b trace. other words asked (Some (Trace w b)) asks trace apart

-- the words name a command that tells a plan
abbrev pub TellsPlan : List (List ℕ) → Type 0
TellsPlan words = (c : PlanCommand) × Names words (OnText (Tell c))

pub tells_none : {A : Type 0} (words : List (List ℕ)) (asked : Option Command) → Asks words asked → ¬ (kind asked ≡ 0) → TellsPlan words → A
tells_none words asked asks apart n = other words asked (Some (OnText (Tell n.0))) asks n.1 apart

-- ---- whether the source is read

-- where words name no command on a source, what they ask reads none
pub unread_by : (words : List (List ℕ)) (asked : Option Command) → Asks words asked → ReadsNothing words → reads_source asked ≡ false
unread_by words None asks nothing = refl
unread_by words (Some c) asks nothing = nothing c asks

pub read_by : (words : List (List ℕ)) (asked : Option Command) → Asks words asked → ReadsSource words → reads_source asked ≡ true
read_by words asked asks source =
    let P : Option Command → Type 0 = λ x. reads_source x ≡ true in
    subst P (one_asked words (Some source.0) asked source.1 asks) source.2

pub at_least : (asked : Option Command) (n : ℕ) → n ≤ 1048576 → n ≤ most_read asked
at_least None n few = few
at_least (Some (OnText c)) n few = few
at_least (Some (Alone c)) n few = few
at_least (Some (Trace w b)) n few = few
at_least (Some (Verify b)) n few = omega (arith, few)

-- ---- what is replied

-- what is replied to what was asked: of `trace` a refusal alone
abbrev pub RepliesTo : Option Command → List ℕ → Reply → Type 0
RepliesTo None text = λ reply. reply ≡ usage_reply
RepliesTo (Some (OnText command)) text = CommandReplies command text
RepliesTo (Some (Alone command)) text = UnreadReplies command
RepliesTo (Some (Trace workers budget)) text = λ reply. (at : Place) × (code : ℕ) × RefusedAt text at code × (reply ≡ refusal_reply at code)
RepliesTo (Some (Verify budget)) text = VerifyReplies budget text

pub replies_of : (words : List (List ℕ)) (text : List ℕ) (reply : Reply) (asked : Option Command) → Asks words asked → RepliesTo asked text reply → Replies words text reply
replies_of words text reply None fault is =
    let P : Reply → Type 0 = λ r. Replies words text r in
    subst P (sym is) (usage fault)
replies_of words text reply (Some (OnText c)) names replies = named names replies
replies_of words text reply (Some (Alone c)) names replies = unread names replies
replies_of words text reply (Some (Trace w b)) names replies =
    let P : Reply → Type 0 = λ r. Replies words text r in
    subst P (sym replies.3) (untraced {workers = w} {budget = b} names replies.2)
replies_of words text reply (Some (Verify b)) names replies = verifies names replies

-- whoever has a reply of the words has asked something
pub asked_by : (words : List (List ℕ)) (text : List ℕ) (reply : Reply) → Replies words text reply → (asked : Option Command) × Asks words asked × RepliesTo asked text reply
asked_by words text reply (usage fault) = (None, fault, refl)
asked_by words text reply (unread {command = c} names replies) = (Some (Alone c), names, replies)
asked_by words text reply (named {command = c} names replies) = (Some (OnText c), names, replies)
asked_by words text reply (untraced {workers = w} {budget = b} {code = code} {at = at} names refused) = (Some (Trace w b), names, (at, code, refused, refl))
asked_by words text reply (verifies {budget = b} names replies) = (Some (Verify b), names, replies)

-- and that is what was asked
pub replies_to : (words : List (List ℕ)) (text : List ℕ) (reply : Reply) (asked : Option Command) → Asks words asked → Replies words text reply → RepliesTo asked text reply
replies_to words text reply asked asks replies =
    let s = asked_by words text reply replies in
    let P : Option Command → Type 0 = λ x. RepliesTo x text reply in
    subst P (one_asked words s.0 asked s.1 asks) s.2
