-- The rules of expressions as their parts.
use Rattle.std.proofs.Common.{◌≡◌, ℕ, zero, suc, ◌+◌, ◌-◌, ◌<◌, ◌≤◌, pos, List, [], ◌∷◌, Some, None, refl, subst, arith, ◌⊎◌, inl, inr}
use Rattle.std.proofs.lemmas.Bool.{cases_lt}
use Rattle.ca_descent.specs.Exact.{Grammar, Unlimited, Failure, Answer, Got, Failed, Exact, Sees, sees, head_of, Seen, Unseen}
use Rattle.ca_descent.proofs.Exact.{Default, seen, unseen, exact_map, got_nothing, sees_head}
use Rattle.ca_descent.proofs.Parts.{Then, then, Upto, upto, done, Part, ◌⨾◌, finish, and_ok, and_failed}
use Rattle.ca_tree.specs.declared.name.Place.{Place}
use Rattle.ca_tree.specs.declared.token.Token.{Token}
use Rattle.ca_tree.specs.declared.token.Kind.TheVariants.{Number}
use Rattle.ca_tree.specs.declared.token.Kind.TheVariants.{Key as KeyKind, Sign as SignKind}
use Rattle.ca_tree.specs.declared.token.Keyword.TheVariants.{Max}
use Rattle.ca_tree.specs.declared.token.Sign.TheVariants.{OpenParenthesis, CloseParenthesis, Comma}
use Rattle.ca_tree.specs.declared.tree.UnaryOp.{UnaryOp}
use Rattle.ca_tree.specs.declared.tree.BinaryOp.{BinaryOp}
use Rattle.ca_tree.specs.declared.operators.TheConstants.{LEVELS}
use Rattle.ca_tree.specs.Operators.{unary_level}
use Rattle.ca_tree.specs.Plain.{Expression, number, unary, binary}
use Rattle.ca_expressions.specs.Terminals.{sign, literal, literal_of, unary_operator, operator, word_operator, word_of, goes_on, goes_on_of}
use Rattle.ca_expressions.specs.Grammar.{Level, operands, one_operand, Operands, operands_end, operands_more, Unary, unary_first, unary_last, Primary, a_literal, a_chain, in_brackets, by_word, Sides, sides, Chain, Tails, tails_end}
use Rattle.ca_expressions.specs.Readers.{Closed}
use Rattle.ca_expressions.proofs.Terminals.{sign_gives, token, start, mark, terminal, sign_sees}
use Rattle.ca_expressions.proofs.Follow.{chain_no_literal, chain_no_bracket, literal_no_bracket, word_no_literal, word_no_bracket, chain_no_word, literal_no_word, primary_no_unary, operator_goes_on, operands_follow}

-- a number is an expression of every level
abbrev pub a_number_tree : Expression
a_number_tree = number start (pos 0)

pub primary_number : (r : List Token) → Primary (token (Number (pos 0)) ∷ r) a_number_tree r
primary_number r = a_literal (sees refl)

pub level_number : (n k : ℕ) → LEVELS ≤ k + n → (r : List Token) → Level k (token (Number (pos 0)) ∷ r) a_number_tree r
level_number zero k h r = one_operand (omega (arith, h)) (unary_last (primary_number r))
level_number (suc n) k h r = at (level_number n (k + 1) (omega (arith, h)) r) (cases_lt k LEVELS)
  where
    at : Level (k + 1) (token (Number (pos 0)) ∷ r) a_number_tree r → (k < LEVELS) ⊎ (LEVELS ≤ k)
        → Level k (token (Number (pos 0)) ∷ r) a_number_tree r
    at l (inl g) = operands g l operands_end
    at l (inr g) = one_operand g (unary_last (primary_number r))

abbrev pub with_number : (G : List Token → Expression → List Token → Type 0) → ((r : List Token) → G (token (Number (pos 0)) ∷ r) a_number_tree r)
    → Default (Unlimited G)
with_number G f = record { more = token (Number (pos 0)) ∷ []; tree = a_number_tree; reads = λ free r h. f r }

-- the parts, each with what may follow it
abbrev pub a_level : ℕ → Part Token Expression
a_level k = record {
  D = Unlimited (Level k);
  C = Closed k (Level k);
  some = with_number (Level k) (level_number LEVELS k (omega arith));
}

abbrev pub more_operands : ℕ → Expression → Part Token Expression
more_operands k a = record {
  D = Unlimited (Operands k a);
  C = Closed k (Operands k a);
  some = record { more = []; tree = a; reads = λ free r h. operands_end };
}

abbrev pub a_unary : Part Token Expression
a_unary = record { D = Unlimited Unary; C = Closed unary_level Unary; some = with_number Unary (λ r. unary_last (primary_number r)) }

abbrev pub more_tails : Expression → Part Token Expression
more_tails a = record {
  D = Unlimited (Tails a);
  C = Closed unary_level (Tails a);
  some = record { more = []; tree = a; reads = λ free r h. tails_end };
}

-- operands with operators of the level between them
abbrev pub level_parts : ℕ → Part Token Expression
level_parts k = a_level (k + 1) ⨾ λ a. more_operands k a

level_split : (k free : ℕ) (s r : List Token) (x : Expression) → k < LEVELS → Closed k (Level k) free s x r → (level_parts k).C free s x r
level_split k free s r x h c = at s r x c.it c.stop
  where
    at : (s r : List Token) (x : Expression) → Level k s x r → head_of (goes_on k) r ≡ None → (level_parts k).C free s x r
    at s r x (operands g l m) e = upto (record { it = l; stop = operands_follow m e }) (record { it = m; stop = e })
    at s r x (one_operand g u) e = absurd (omega (arith, g, h))

level_join : (k free : ℕ) (s r : List Token) (x : Expression) → k < LEVELS → (level_parts k).D free s x r → Level k s x r
level_join k free s r x h (then l m) = operands h l m

pub level_answer : {k : ℕ} {s : List Token} {o : Answer Token Expression} → k < LEVELS → Exact (level_parts k).D (level_parts k).C s o
    → Exact (Unlimited (Level k)) (Closed k (Level k)) s o
level_answer {k = k} h d = exact_map (λ free s r x e. level_join k free s r x h e) (λ free s r x c. level_split k free s r x h c) d

-- what fails at a level fails at those that bind less tightly
pub level_failed : (n k : ℕ) {s : List Token} (f : Failure Token) → k + n ≤ LEVELS
    → Exact (Unlimited (Level (k + n))) (Closed (k + n) (Level (k + n))) s (Failed f)
    → Exact (Unlimited (Level k)) (Closed k (Level k)) s (Failed f)
level_failed zero k {s} f h d =
    let e : k + 0 ≡ k = omega arith in subst (λ z. Exact (Unlimited (Level z)) (Closed z (Level z)) s (Failed f)) e d
level_failed (suc n) k {s} f h d =
    let e : k + suc n ≡ (k + 1) + n = omega arith in
    level_answer (omega (arith, h)) (and_failed f (level_failed n (k + 1) f (omega (arith, h))
    (subst (λ z. Exact (Unlimited (Level z)) (Closed z (Level z)) s (Failed f)) e d)))

pub above_failed : (k l : ℕ) {s : List Token} (f : Failure Token) → k ≤ l → l ≤ LEVELS
    → Exact (Unlimited (Level l)) (Closed l (Level l)) s (Failed f) → Exact (Unlimited (Level k)) (Closed k (Level k)) s (Failed f)
above_failed k l {s} f h g d =
    let e : l ≡ k + (l - k) = omega (arith, h) in
    level_failed (l - k) k f (omega (arith, h, g)) (subst (λ z. Exact (Unlimited (Level z)) (Closed z (Level z)) s (Failed f)) e d)

-- an operand of a level and the operators of the level below it
pub level_below : (l : ℕ) {s q : List Token} {a : Expression} {o : Answer Token Expression} → 0 < l → l ≤ LEVELS
    → Exact (Unlimited (Level l)) (Closed l (Level l)) s (Got a q)
    → Exact (Unlimited (Operands (l - 1) a)) (Closed (l - 1) (Operands (l - 1) a)) q o
    → Exact (Unlimited (Level (l - 1))) (Closed (l - 1) (Level (l - 1))) s o
level_below l {s} {q} {a} h g d m =
    let e : l ≡ (l - 1) + 1 = omega (arith, h) in
    level_answer (omega (arith, h, g)) (and_ok (subst (λ z. Exact (Unlimited (Level z)) (Closed z (Level z)) s (Got a q)) e d) m)

-- the level of unary operators is Unary
level_unary : (free : ℕ) (s r : List Token) (x : Expression) → Closed unary_level (Level unary_level) free s x r → Closed unary_level Unary free s x r
level_unary free s r x c = at s r x c.it c.stop
  where
    at : (s r : List Token) (x : Expression) → Level unary_level s x r → head_of (goes_on unary_level) r ≡ None → Closed unary_level Unary free s x r
    at s r x (one_operand g u) e = record { it = u; stop = e }
    at s r x (operands g l m) e = absurd (omega (arith, g))

pub unary_answer : {s : List Token} {o : Answer Token Expression} → Exact (Unlimited Unary) (Closed unary_level Unary) s o
    → Exact (Unlimited (Level unary_level)) (Closed unary_level (Level unary_level)) s o
unary_answer d = exact_map (λ free s r x u. one_operand (omega arith) u) level_unary d

-- an operator of the level, an operand, and more of them
abbrev pub operand_parts : (k : ℕ) (a : Expression) → BinaryOp × Place → Part Token Expression
operand_parts k a o = a_level (k + 1) ⨾ λ b. more_operands k (binary o.1 o.0 a b)

abbrev pub OperandRead : ℕ → Expression → Grammar Token Expression
OperandRead k a = Then (Unlimited (Sees (operator k))) (λ o. (operand_parts k a o).D) (λ o. (operand_parts k a o).some)

abbrev pub OperandEnded : ℕ → Expression → Grammar Token Expression
OperandEnded k a = Upto (Unlimited (Sees (operator k))) (λ o. (operand_parts k a o).C)

operand_split : (k : ℕ) (a : Expression) (b : BinaryOp × Place) (free : ℕ) (s r : List Token) (x : Expression)
    → Seen (operator k) b (Closed k (Operands k a)) free s x r → OperandEnded k a free s x r
operand_split k a b free s r x c = at s r x c.it.it c.it.stop c.seen
  where
    at : (s r : List Token) (x : Expression) → Operands k a s x r → head_of (goes_on k) r ≡ None → head_of (operator k) s ≡ Some b
        → OperandEnded k a free s x r
    at s r x (operands_more o l m) h g = upto o (upto (record { it = l; stop = operands_follow m h }) (record { it = m; stop = h }))
    at s r x operands_end h g = absurd (operator_goes_on k s b g h)

operand_join : (k : ℕ) (a : Expression) (free : ℕ) (s r : List Token) (x : Expression) → OperandRead k a free s x r
    → Operands k a s x r
operand_join k a free s r x (then o (then l m)) = operands_more o l m

pub operand_answer : (k : ℕ) (a : Expression) {b : BinaryOp × Place} {s : List Token} {o : Answer Token Expression}
    → head_of (operator k) s ≡ Some b → Exact (OperandRead k a) (OperandEnded k a) s o
    → Exact (Unlimited (Operands k a)) (Closed k (Operands k a)) s o
operand_answer k a {b} h d = seen h (exact_map (operand_join k a) (operand_split k a b) d)

-- no operator of the level: the operands end
pub operands_stop : (k : ℕ) (a : Expression) {s : List Token} → head_of (operator k) s ≡ None
    → Exact (Unlimited (Operands k a)) (Closed k (Operands k a)) s (Got a s)
operands_stop k a h = unseen h (got_nothing (λ free r. operands_end) (λ free s' r y c. at s' r y c.it.it c.unseen))
  where
    at : (s' r : List Token) (y : Expression) → Operands k a s' y r → head_of (operator k) s' ≡ None → (y ≡ a) × (r ≡ s')
    at s' r y operands_end g = (refl, refl)
    at s' r y (operands_more o l m) g = let f = sees_head (operator k) o in absurd cc

-- a unary operator and its operand
abbrev pub unary_parts : UnaryOp × Place → Part Token Expression
unary_parts o = a_unary ⨾ λ x. finish (unary o.1 o.0 x)

abbrev pub UnaryRead : Grammar Token Expression
UnaryRead = Then (Unlimited (Sees unary_operator)) (λ o. (unary_parts o).D) (λ o. (unary_parts o).some)

abbrev pub UnaryEnded : Grammar Token Expression
UnaryEnded = Upto (Unlimited (Sees unary_operator)) (λ o. (unary_parts o).C)

unary_split : (b : UnaryOp × Place) (free : ℕ) (s r : List Token) (x : Expression) → Seen unary_operator b (Closed unary_level Unary) free s x r
    → UnaryEnded free s x r
unary_split b free s r x c = at s r x c.it.it c.it.stop c.seen
  where
    at : (s r : List Token) (x : Expression) → Unary s x r → head_of (goes_on unary_level) r ≡ None → head_of unary_operator s ≡ Some b
        → UnaryEnded free s x r
    at s r x (unary_first o u) h g = upto o (upto (record { it = u; stop = h }) done)
    at s r x (unary_last p) h g = let n = primary_no_unary p in absurd cc

unary_join : (free : ℕ) (s r : List Token) (x : Expression) → UnaryRead free s x r → Unary s x r
unary_join free s r x (then o (then u done)) = unary_first o u

pub sign_answer : {b : UnaryOp × Place} {s : List Token} {o : Answer Token Expression} → head_of unary_operator s ≡ Some b
    → Exact UnaryRead UnaryEnded s o → Exact (Unlimited Unary) (Closed unary_level Unary) s o
sign_answer {b} h d = seen h (exact_map unary_join (unary_split b) d)

primary_split : (free : ℕ) (s r : List Token) (x : Expression) → Unseen unary_operator (Closed unary_level Unary) free s x r
    → Closed unary_level Primary free s x r
primary_split free s r x c = at s r x c.it.it c.it.stop c.unseen
  where
    at : (s r : List Token) (x : Expression) → Unary s x r → head_of (goes_on unary_level) r ≡ None → head_of unary_operator s ≡ None
        → Closed unary_level Primary free s x r
    at s r x (unary_last p) h g = record { it = p; stop = h }
    at s r x (unary_first o u) h g = let n = sees_head unary_operator o in absurd cc

pub primary_answer : {s : List Token} {o : Answer Token Expression} → head_of unary_operator s ≡ None
    → Exact (Unlimited Primary) (Closed unary_level Primary) s o → Exact (Unlimited Unary) (Closed unary_level Unary) s o
primary_answer h d = unseen h (exact_map (λ free s r x p. unary_last p) primary_split d)

-- a literal
abbrev pub LiteralRead : Grammar Token Expression
LiteralRead = Then (Unlimited (Sees literal)) (λ x. (finish x).D) (λ x. (finish x).some)

abbrev pub LiteralEnded : Grammar Token Expression
LiteralEnded = Upto (Unlimited (Sees literal)) (λ x. (finish x).C)

literal_split : (b : Expression) (free : ℕ) (s r : List Token) (x : Expression) → Seen literal b (Closed unary_level Primary) free s x r
    → LiteralEnded free s x r
literal_split b free s r x c = at s r x c.it.it c.seen
  where
    at : (s r : List Token) (x : Expression) → Primary s x r → head_of literal s ≡ Some b → LiteralEnded free s x r
    at s r x (a_literal d) g = upto d done
    at s r x (a_chain d) g = let n = chain_no_literal d in absurd cc
    at s r x (in_brackets o l c t) g = let n = sign_gives literal_of OpenParenthesis o in absurd cc
    at s r x (by_word d l) g = let n = word_no_literal d in absurd cc

literal_join : (free : ℕ) (s r : List Token) (x : Expression) → LiteralRead free s x r → Primary s x r
literal_join free s r x (then d done) = a_literal d

pub literal_answer : {b : Expression} {s : List Token} {o : Answer Token Expression} → head_of literal s ≡ Some b
    → Exact LiteralRead LiteralEnded s o → Exact (Unlimited Primary) (Closed unary_level Primary) s o
literal_answer {b} h d = seen h (exact_map literal_join (literal_split b) d)

-- an expression in brackets, and its tails
abbrev pub bracket_parts : Part Token Expression
bracket_parts = mark OpenParenthesis ⨾ λ o. a_level 0 ⨾ λ a. mark CloseParenthesis ⨾ λ c. more_tails a

bracket_split : (b : Place) (free : ℕ) (s r : List Token) (x : Expression)
    → Seen (sign OpenParenthesis) b (Closed unary_level Primary) free s x r → bracket_parts.C free s x r
bracket_split b free s r x c = at s r x c.it.it c.it.stop c.seen
  where
    at : (s r : List Token) (x : Expression) → Primary s x r → head_of (goes_on unary_level) r ≡ None → head_of (sign OpenParenthesis) s ≡ Some b
        → bracket_parts.C free s x r
    at s r x (in_brackets o l c t) h g =
        upto o (upto (record { it = l; stop = sign_gives (goes_on_of 0) CloseParenthesis c }) (upto c (record { it = t; stop = h })))
    at s r x (a_literal d) h g = let n = literal_no_bracket d in absurd cc
    at s r x (a_chain d) h g = let n = chain_no_bracket d in absurd cc
    at s r x (by_word d l) h g = let n = word_no_bracket d in absurd cc

bracket_join : (free : ℕ) (s r : List Token) (x : Expression) → bracket_parts.D free s x r → Primary s x r
bracket_join free s r x (then o (then l (then c t))) = in_brackets o l c t

pub bracket_answer : {b : Place} {s : List Token} {o : Answer Token Expression} → head_of (sign OpenParenthesis) s ≡ Some b
    → Exact bracket_parts.D bracket_parts.C s o → Exact (Unlimited Primary) (Closed unary_level Primary) s o
bracket_answer {b} h d = seen h (exact_map bracket_join (bracket_split b) d)

-- the key word of an operator, and its sides in round brackets
abbrev pub some_sides : BinaryOp × Place → Part Token Expression
some_sides o = record {
  D = Unlimited (Sides o);
  C = Unlimited (Sides o);
  some = record {
    more = token (SignKind OpenParenthesis) ∷ token (Number (pos 0)) ∷ token (SignKind Comma) ∷ token (Number (pos 0)) ∷ token (SignKind CloseParenthesis) ∷ [];
    tree = binary o.1 o.0 a_number_tree a_number_tree;
    reads = λ free r h. sides (sees (sign_sees OpenParenthesis)) (level_number LEVELS 0 (omega arith) _) (sees (sign_sees Comma)) (level_number LEVELS 0 (omega arith) _) (sees (sign_sees CloseParenthesis));
  };
}

abbrev pub word_parts : Part Token Expression
word_parts = terminal word_operator {t = token (KeyKind Max)} refl ⨾ λ o. some_sides o

word_split : (b : BinaryOp × Place) (free : ℕ) (s r : List Token) (x : Expression) → Seen word_operator b (Closed unary_level Primary) free s x r → word_parts.C free s x r
word_split b free s r x c = at s r x c.it.it c.seen
  where
    at : (s r : List Token) (x : Expression) → Primary s x r → head_of word_operator s ≡ Some b → word_parts.C free s x r
    at s r x (by_word d l) g = upto d l
    at s r x (a_literal d) g = let n = literal_no_word d in absurd cc
    at s r x (a_chain d) g = let n = chain_no_word d in absurd cc
    at s r x (in_brackets o l c t) g = let n = sign_gives word_of OpenParenthesis o in absurd cc

word_join : (free : ℕ) (s r : List Token) (x : Expression) → word_parts.D free s x r → Primary s x r
word_join free s r x (then d l) = by_word d l

pub word_answer : {b : BinaryOp × Place} {s : List Token} {o : Answer Token Expression} → head_of word_operator s ≡ Some b
    → Exact word_parts.D word_parts.C s o → Exact (Unlimited Primary) (Closed unary_level Primary) s o
word_answer {b} h d = seen h (exact_map word_join (word_split b) d)

abbrev pub sides_parts : BinaryOp × Place → Part Token Expression
sides_parts o = mark OpenParenthesis ⨾ λ p. a_level 0 ⨾ λ a. mark Comma ⨾ λ c. a_level 0 ⨾ λ b. mark CloseParenthesis ⨾ λ d. finish (binary o.1 o.0 a b)

sides_split : (o : BinaryOp × Place) (free : ℕ) (s r : List Token) (x : Expression) → (Unlimited (Sides o)) free s x r → (sides_parts o).C free s x r
sides_split o free s r x (sides p a c b d) =
    upto p (upto (record { it = a; stop = sign_gives (goes_on_of 0) Comma c }) (upto c (upto (record { it = b; stop = sign_gives (goes_on_of 0) CloseParenthesis d }) (upto d done))))

sides_join : (o : BinaryOp × Place) (free : ℕ) (s r : List Token) (x : Expression) → (sides_parts o).D free s x r → (Unlimited (Sides o)) free s x r
sides_join o free s r x (then p (then a (then c (then b (then d done))))) = sides p a c b d

pub sides_answer : (o : BinaryOp × Place) {s : List Token} {r : Answer Token Expression} → Exact (sides_parts o).D (sides_parts o).C s r → Exact (Unlimited (Sides o)) (Unlimited (Sides o)) s r
sides_answer o d = exact_map (sides_join o) (sides_split o) d

-- a chain, where neither a literal nor such a key word nor a bracket stands
chain_split : (free : ℕ) (s r : List Token) (x : Expression)
    → Unseen (sign OpenParenthesis) (Unseen word_operator (Unseen literal (Closed unary_level Primary))) free s x r → Closed unary_level Chain free s x r
chain_split free s r x c = at s r x c.it.it.it.it c.it.it.it.stop c.it.it.unseen c.it.unseen c.unseen
  where
    at : (s r : List Token) (x : Expression) → Primary s x r → head_of (goes_on unary_level) r ≡ None → head_of literal s ≡ None
        → head_of word_operator s ≡ None → head_of (sign OpenParenthesis) s ≡ None → Closed unary_level Chain free s x r
    at s r x (a_chain d) h l w b = record { it = d; stop = h }
    at s r x (a_literal d) h l w b = let n = sees_head literal d in absurd cc
    at s r x (in_brackets o e c t) h l w b = let n = sees_head (sign OpenParenthesis) o in absurd cc
    at s r x (by_word d e) h l w b = let n = sees_head word_operator d in absurd cc

pub chain_answer : {s : List Token} {o : Answer Token Expression} → head_of literal s ≡ None → head_of word_operator s ≡ None → head_of (sign OpenParenthesis) s ≡ None
    → Exact (Unlimited Chain) (Closed unary_level Chain) s o → Exact (Unlimited Primary) (Closed unary_level Primary) s o
chain_answer h w g d = unseen h (unseen w (unseen g (exact_map (λ free s r x c. a_chain c) chain_split d)))
