-- The rules of chains, tails and arguments as their parts.
use Rattle.std.proofs.Common.{◌≡◌, ℕ, List, [], ◌∷◌, Some, None, refl}
use Rattle.ca_descent.specs.Exact.{Grammar, Unlimited, Answer, Got, Exact, sees, head_of, Seen, Unseen, Before, separated_none, separated, following_end, following}
use Rattle.ca_descent.proofs.Exact.{seen, unseen, exact_map, got_nothing, sees_head}
use Rattle.ca_descent.proofs.Parts.{Then, then, Upto, upto, done, Part, ◌⨾◌, finish}
use Rattle.ca_descent.proofs.Separated.{Punctuated}
use Rattle.ca_tree.specs.declared.name.Place.{Place}
use Rattle.ca_tree.specs.declared.token.Token.{Token}
use Rattle.ca_tree.specs.declared.token.Kind.TheVariants.{Sign as SignKind}
use Rattle.ca_tree.specs.declared.token.Keyword.TheVariants.{This}
use Rattle.ca_tree.specs.declared.token.Sign.TheVariants.{OpenParenthesis, CloseParenthesis, OpenBracket, CloseBracket, Comma, Arrow}
use Rattle.ca_tree.specs.Operators.{unary_level}
use Rattle.ca_tree.specs.Plain.{Expression, this, named, call, field, method, index}
use Rattle.ca_expressions.specs.Terminals.{key, key_of, sign, sign_of, goes_on, goes_on_of, tail_front}
use Rattle.ca_expressions.specs.Grammar.{expressions, Chain, this_chain, name_chain, call_chain, Tails, tails_end, tails_more, Tail, field_tail, method_tail, index_tail, Args, args, Listed, listed_none, listed, Further, further_none, further, Expr}
use Rattle.ca_expressions.specs.Readers.{Closed}
use Rattle.ca_expressions.proofs.Terminals.{sign_gives, name_gives, token, word, mark, a_name, sign_sees}
use Rattle.ca_expressions.proofs.Follow.{level_begins, tail_goes_on, head_gives, tails_follow, tails_nothing}
use Rattle.ca_expressions.proofs.Lists.{InBrackets, MoreItems, comma_rule}
use Rattle.ca_expressions.proofs.Rules.{a_level, more_tails}

-- `this` and its tails
abbrev pub this_parts : Part Token Expression
this_parts = word This ⨾ λ p. more_tails (this p)

this_split : (b : Place) (free : ℕ) (s r : List Token) (x : Expression) → Seen (key This) b (Closed unary_level Chain) free s x r
    → this_parts.C free s x r
this_split b free s r x c = at s r x c.it.it c.it.stop c.seen
  where
    at : (s r : List Token) (x : Expression) → Chain s x r → head_of (goes_on unary_level) r ≡ None → head_of (key This) s ≡ Some b
        → this_parts.C free s x r
    at s r x (this_chain d t) h g = upto d (record { it = t; stop = h })
    at s r x (name_chain n t) h g = let m = name_gives (key_of This) n in absurd cc
    at s r x (call_chain n a t) h g = let m = name_gives (key_of This) n in absurd cc

this_join : (free : ℕ) (s r : List Token) (x : Expression) → this_parts.D free s x r → Chain s x r
this_join free s r x (then d t) = this_chain d t

pub this_answer : {b : Place} {s : List Token} {o : Answer Token Expression} → head_of (key This) s ≡ Some b
    → Exact this_parts.D this_parts.C s o → Exact (Unlimited Chain) (Closed unary_level Chain) s o
this_answer {b} h d = seen h (exact_map this_join (this_split b) d)

-- what stands behind the name that a chain begins with
pub data NameRest (n : List ℕ × Place) : List Token → Expression → List Token → Type 0 where
  plain_name : {s r : List Token} {x : Expression} → Tails (named n.1 n.0) s x r → NameRest n s x r
  called_name : {s s1 r : List Token} {x : Expression} {xs : List Expression} → Args s xs s1
      → Tails (call n.1 n.0 (expressions xs)) s1 x r → NameRest n s x r

abbrev pub name_rest : List ℕ × Place → Part Token Expression
name_rest n = record {
  D = Unlimited (NameRest n);
  C = Closed unary_level (NameRest n);
  some = record { more = []; tree = named n.1 n.0; reads = λ free r h. plain_name tails_end };
}

abbrev pub name_parts : Part Token Expression
name_parts = a_name ⨾ λ n. name_rest n

name_split : (free : ℕ) (s r : List Token) (x : Expression) → Unseen (key This) (Closed unary_level Chain) free s x r → name_parts.C free s x r
name_split free s r x c = at s r x c.it.it c.it.stop c.unseen
  where
    at : (s r : List Token) (x : Expression) → Chain s x r → head_of (goes_on unary_level) r ≡ None → head_of (key This) s ≡ None
        → name_parts.C free s x r
    at s r x (name_chain n t) h g = upto n (record { it = plain_name t; stop = h })
    at s r x (call_chain n a t) h g = upto n (record { it = called_name a t; stop = h })
    at s r x (this_chain d t) h g = let m = sees_head (key This) d in absurd cc

name_join : (free : ℕ) (s r : List Token) (x : Expression) → name_parts.D free s x r → Chain s x r
name_join free s r x (then n (plain_name t)) = name_chain n t
name_join free s r x (then n (called_name a t)) = call_chain n a t

pub name_answer : {s : List Token} {o : Answer Token Expression} → head_of (key This) s ≡ None
    → Exact name_parts.D name_parts.C s o → Exact (Unlimited Chain) (Closed unary_level Chain) s o
name_answer h d = unseen h (exact_map name_join name_split d)

-- no bracket: the name alone, and its tails
plain_split : (n : List ℕ × Place) (free : ℕ) (s r : List Token) (x : Expression)
    → Unseen (sign OpenParenthesis) (Closed unary_level (NameRest n)) free s x r → (more_tails (named n.1 n.0)).C free s x r
plain_split n free s r x c = at s r x c.it.it c.it.stop c.unseen
  where
    at : (s r : List Token) (x : Expression) → NameRest n s x r → head_of (goes_on unary_level) r ≡ None → head_of (sign OpenParenthesis) s ≡ None
        → (more_tails (named n.1 n.0)).C free s x r
    at s r x (plain_name t) h g = record { it = t; stop = h }
    at s r x (called_name (args o l) t) h g = let m = sees_head (sign OpenParenthesis) o in absurd cc

pub plain_answer : (n : List ℕ × Place) {s : List Token} {o : Answer Token Expression} → head_of (sign OpenParenthesis) s ≡ None
    → Exact (Unlimited (Tails (named n.1 n.0))) (Closed unary_level (Tails (named n.1 n.0))) s o
    → Exact (Unlimited (NameRest n)) (Closed unary_level (NameRest n)) s o
plain_answer n h d = unseen h (exact_map (λ free s r x t. plain_name t) (plain_split n) d)

-- arguments
abbrev pub some_args : Part Token (List Expression)
some_args = record {
  D = Unlimited Args;
  C = Unlimited Args;
  some = record {
    more = token (SignKind OpenParenthesis) ∷ token (SignKind CloseParenthesis) ∷ [];
    tree = [];
    reads = λ free r h. args (sees (sign_sees OpenParenthesis)) (listed_none (sees (sign_sees CloseParenthesis)));
  };
}

abbrev pub called_parts : (n : List ℕ × Place) → Part Token Expression
called_parts n = some_args ⨾ λ xs. more_tails (call n.1 n.0 (expressions xs))

called_split : (n : List ℕ × Place) (b : Place) (free : ℕ) (s r : List Token) (x : Expression)
    → Seen (sign OpenParenthesis) b (Closed unary_level (NameRest n)) free s x r → (called_parts n).C free s x r
called_split n b free s r x c = at s r x c.it.it c.it.stop c.seen
  where
    at : (s r : List Token) (x : Expression) → NameRest n s x r → head_of (goes_on unary_level) r ≡ None → head_of (sign OpenParenthesis) s ≡ Some b
        → (called_parts n).C free s x r
    at s r x (called_name a t) h g = upto a (record { it = t; stop = h })
    at s r x (plain_name t) h g = let m = tails_follow t h in absurd cc

called_join : (n : List ℕ × Place) (free : ℕ) (s r : List Token) (x : Expression) → (called_parts n).D free s x r → NameRest n s x r
called_join n free s r x (then a t) = called_name a t

pub called_answer : (n : List ℕ × Place) {b : Place} {s : List Token} {o : Answer Token Expression}
    → head_of (sign OpenParenthesis) s ≡ Some b → Exact (called_parts n).D (called_parts n).C s o
    → Exact (Unlimited (NameRest n)) (Closed unary_level (NameRest n)) s o
called_answer n {b} h d = seen h (exact_map (called_join n) (called_split n b) d)

-- a tail, and more of them
abbrev pub TailsRead : Expression → Grammar Token Expression
TailsRead a = Then (Unlimited (Tail a)) (λ b. (more_tails b).D) (λ b. (more_tails b).some)

abbrev pub TailClosed : Expression → Grammar Token Expression
TailClosed a = Before (sign OpenParenthesis) (Unlimited (Tail a))

abbrev pub TailsEnded : Expression → Grammar Token Expression
TailsEnded a = Upto (TailClosed a) (λ b. (more_tails b).C)

tails_split : (a : Expression) (b : Place) (free : ℕ) (s r : List Token) (x : Expression)
    → Seen tail_front b (Closed unary_level (Tails a)) free s x r → TailsEnded a free s x r
tails_split a b free s r x c = at s r x c.it.it c.it.stop c.seen
  where
    at : (s r : List Token) (x : Expression) → Tails a s x r → head_of (goes_on unary_level) r ≡ None → head_of tail_front s ≡ Some b
        → TailsEnded a free s x r
    at s r x (tails_more t m) h g = upto (record { it = t; stop = tails_follow m h }) (record { it = m; stop = h })
    at s r x tails_end h g = absurd (tail_goes_on s b g h)

tails_join : (a : Expression) (free : ℕ) (s r : List Token) (x : Expression) → TailsRead a free s x r → Tails a s x r
tails_join a free s r x (then t m) = tails_more t m

pub tails_answer : (a : Expression) {b : Place} {s : List Token} {o : Answer Token Expression} → head_of tail_front s ≡ Some b
    → Exact (TailsRead a) (TailsEnded a) s o → Exact (Unlimited (Tails a)) (Closed unary_level (Tails a)) s o
tails_answer a {b} h d = seen h (exact_map (tails_join a) (tails_split a b) d)

-- no tail
pub tails_stop : (a : Expression) {s : List Token} → head_of tail_front s ≡ None
    → Exact (Unlimited (Tails a)) (Closed unary_level (Tails a)) s (Got a s)
tails_stop a h = unseen h (got_nothing (λ free r. tails_end) (λ free s' r y c. tails_nothing c.it.it c.unseen))

-- an index
abbrev pub index_parts : Expression → Part Token Expression
index_parts a = mark OpenBracket ⨾ λ p. a_level 0 ⨾ λ i. mark CloseBracket ⨾ λ c. finish (index p a i)

index_split : (a : Expression) (b : Place) (free : ℕ) (s r : List Token) (x : Expression)
    → Seen (sign OpenBracket) b (TailClosed a) free s x r → (index_parts a).C free s x r
index_split a b free s r x c = at s r x c.it.it c.seen
  where
    at : (s r : List Token) (x : Expression) → Tail a s x r → head_of (sign OpenBracket) s ≡ Some b → (index_parts a).C free s x r
    at s r x (index_tail p i c) g = upto p (upto (record { it = i; stop = sign_gives (goes_on_of 0) CloseBracket c }) (upto c done))
    at s r x (field_tail p n) g = let m = sign_gives (sign_of OpenBracket) Arrow p in absurd cc
    at s r x (method_tail p n l) g = let m = sign_gives (sign_of OpenBracket) Arrow p in absurd cc

index_join : (a : Expression) (free : ℕ) (s r : List Token) (x : Expression) → (index_parts a).D free s x r → Tail a s x r
index_join a free s r x (then p (then i (then c done))) = index_tail p i c

pub index_answer : (a : Expression) {b : Place} {s : List Token} {o : Answer Token Expression} → head_of (sign OpenBracket) s ≡ Some b
    → Exact (index_parts a).D (index_parts a).C s o → Exact (Unlimited (Tail a)) (TailClosed a) s o
index_answer a {b} h d = seen h (exact_map (index_join a) (index_split a b) d)

-- what stands behind `->` and the name
pub data MemberRest (a : Expression) (p : Place) (n : List ℕ × Place) : List Token → Expression → List Token → Type 0 where
  field_rest : {s : List Token} → MemberRest a p n s (field p a n.0) s
  method_rest : {s r : List Token} {xs : List Expression} → Args s xs r → MemberRest a p n s (method p a n.0 (expressions xs)) r

abbrev pub member_rest : Expression → Place → List ℕ × Place → Part Token Expression
member_rest a p n = record {
  D = Unlimited (MemberRest a p n);
  C = Before (sign OpenParenthesis) (Unlimited (MemberRest a p n));
  some = record { more = []; tree = field p a n.0; reads = λ free r h. field_rest };
}

abbrev pub member_parts : Expression → Part Token Expression
member_parts a = mark Arrow ⨾ λ p. a_name ⨾ λ n. member_rest a p n

member_split : (a : Expression) (free : ℕ) (s r : List Token) (x : Expression)
    → Unseen (sign OpenBracket) (TailClosed a) free s x r → (member_parts a).C free s x r
member_split a free s r x c = at s r x c.it.it c.it.stop c.unseen
  where
    at : (s r : List Token) (x : Expression) → Tail a s x r → head_of (sign OpenParenthesis) r ≡ None → head_of (sign OpenBracket) s ≡ None
        → (member_parts a).C free s x r
    at s r x (field_tail p n) h g = upto p (upto n (record { it = field_rest; stop = h }))
    at s r x (method_tail p n l) h g = upto p (upto n (record { it = method_rest l; stop = h }))
    at s r x (index_tail p i c) h g = let m = sees_head (sign OpenBracket) p in absurd cc

member_join : (a : Expression) (free : ℕ) (s r : List Token) (x : Expression) → (member_parts a).D free s x r → Tail a s x r
member_join a free s r x (then p (then n field_rest)) = field_tail p n
member_join a free s r x (then p (then n (method_rest l))) = method_tail p n l

pub member_answer : (a : Expression) {s : List Token} {o : Answer Token Expression} → head_of (sign OpenBracket) s ≡ None
    → Exact (member_parts a).D (member_parts a).C s o → Exact (Unlimited (Tail a)) (TailClosed a) s o
member_answer a h d = unseen h (exact_map (member_join a) (member_split a) d)

-- no bracket: a field
pub field_answer : (a : Expression) (p : Place) (n : List ℕ × Place) {s : List Token} → head_of (sign OpenParenthesis) s ≡ None
    → Exact (Unlimited (MemberRest a p n)) (Before (sign OpenParenthesis) (Unlimited (MemberRest a p n))) s (Got (field p a n.0) s)
field_answer a p n h = unseen h (got_nothing (λ free r. field_rest) (λ free s' r y c. at s' r y c.it.it c.unseen))
  where
    at : (s' r : List Token) (y : Expression) → MemberRest a p n s' y r → head_of (sign OpenParenthesis) s' ≡ None
        → (y ≡ field p a n.0) × (r ≡ s')
    at s' r y field_rest g = (refl, refl)
    at s' r y (method_rest (args o l)) g = let m = sees_head (sign OpenParenthesis) o in absurd cc

-- a bracket: a method with its arguments
abbrev pub method_parts : (a : Expression) (p : Place) (n : List ℕ × Place) → Part Token Expression
method_parts a p n = some_args ⨾ λ xs. finish (method p a n.0 (expressions xs))

method_split : (a : Expression) (p : Place) (n : List ℕ × Place) (b : Place) (free : ℕ) (s r : List Token) (x : Expression)
    → Seen (sign OpenParenthesis) b (Before (sign OpenParenthesis) (Unlimited (MemberRest a p n))) free s x r
    → (method_parts a p n).C free s x r
method_split a p n b free s r x c = at s r x c.it.it c.it.stop c.seen
  where
    at : (s r : List Token) (x : Expression) → MemberRest a p n s x r → head_of (sign OpenParenthesis) r ≡ None
        → head_of (sign OpenParenthesis) s ≡ Some b → (method_parts a p n).C free s x r
    at s r x (method_rest l) h g = upto l done
    at s r x field_rest h g = absurd cc

method_join : (a : Expression) (p : Place) (n : List ℕ × Place) (free : ℕ) (s r : List Token) (x : Expression)
    → (method_parts a p n).D free s x r → MemberRest a p n s x r
method_join a p n free s r x (then l done) = method_rest l

pub method_answer : (a : Expression) (p : Place) (n : List ℕ × Place) {b : Place} {s : List Token} {o : Answer Token Expression}
    → head_of (sign OpenParenthesis) s ≡ Some b → Exact (method_parts a p n).D (method_parts a p n).C s o
    → Exact (Unlimited (MemberRest a p n)) (Before (sign OpenParenthesis) (Unlimited (MemberRest a p n))) s o
method_answer a p n {b} h d = seen h (exact_map (method_join a p n) (method_split a p n b) d)

-- arguments are a bracket and a list up to the other
pub argument_rule : Punctuated (Unlimited Expr) (Closed 0 Expr) (sign Comma) (sign CloseParenthesis)
argument_rule = comma_rule (Unlimited Expr) (Closed 0 Expr)
    (λ free s q x c d h. record { it = d; stop = head_gives (goes_on_of 0) Comma q c h })
    (λ free s q x c d h. record { it = d; stop = head_gives (goes_on_of 0) CloseParenthesis q c h })
    (λ free s r x d. level_begins (sign_of CloseParenthesis)
    (record { number = λ n at. refl; word = λ n at. refl; truth = λ at. refl; falsehood = λ at. refl; null = λ at. refl; this = λ at. refl; minus = λ at. refl; negation = λ at. refl; bracket = λ at. refl; by_word = λ w at h. refl })
    d)

further_out : (free : ℕ) (s r : List Token) (xs : List Expression) → Further s xs r → MoreItems (Unlimited Expr) free s xs r
further_out free s r xs (further_none c) = following_end c
further_out free s r xs (further c l m) = following c l (further_out free _ _ _ m)

further_in : (free : ℕ) (s r : List Token) (xs : List Expression) → MoreItems (Unlimited Expr) free s xs r → Further s xs r
further_in free s r xs (following_end c) = further_none c
further_in free s r xs (following c l m) = further c l (further_in free _ _ _ m)

listed_out : (free : ℕ) (s r : List Token) (xs : List Expression) → Listed s xs r → InBrackets (Unlimited Expr) free s xs r
listed_out free s r xs (listed_none c) = separated_none c
listed_out free s r xs (listed l m) = separated l (further_out free _ _ _ m)

listed_in : (free : ℕ) (s r : List Token) (xs : List Expression) → InBrackets (Unlimited Expr) free s xs r → Listed s xs r
listed_in free s r xs (separated_none c) = listed_none c
listed_in free s r xs (separated l m) = listed l (further_in free _ _ _ m)

abbrev pub args_parts : Part Token (List Expression)
args_parts = mark OpenParenthesis ⨾ λ o. record {
  D = InBrackets (Unlimited Expr);
  C = InBrackets (Unlimited Expr);
  some = record {
    more = token (SignKind CloseParenthesis) ∷ [];
    tree = [];
    reads = λ free r h. separated_none (sees (sign_sees CloseParenthesis));
  };
}

args_split : (free : ℕ) (s r : List Token) (xs : List Expression) → Args s xs r → args_parts.C free s xs r
args_split free s r xs (args o l) = upto o (listed_out free _ _ _ l)

args_join : (free : ℕ) (s r : List Token) (xs : List Expression) → args_parts.D free s xs r → Args s xs r
args_join free s r xs (then o l) = args o (listed_in free _ _ _ l)

pub args_answer : {s : List Token} {o : Answer Token (List Expression)} → Exact args_parts.D args_parts.C s o
    → Exact (Unlimited Args) (Unlimited Args) s o
args_answer d = exact_map args_join args_split d
