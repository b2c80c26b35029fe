-- The rules of statements as their parts.
use Rattle.std.proofs.Common.{◌≡◌, ◌<◌, ◌+◌, ◌||◌, ℕ, List, [], ◌∷◌, true, false, Option, Some, None, is_some, refl, ap}
use Rattle.ca_descent.specs.Exact.{Answer, Got, Failed, TooDeep, Exact, sees, head_of, Seen, Limited}
use Rattle.ca_descent.proofs.Exact.{seen, unseen, exact_map, sees_head, got_nothing, limited_ok, limited_deep}
use Rattle.ca_descent.proofs.Parts.{then, upto, done, Part, ◌⨾◌, finish, default_of, default_from}
use Rattle.ca_tree.specs.declared.name.Place.{Place}
use Rattle.ca_tree.specs.declared.token.Token.{Token}
use Rattle.ca_tree.specs.declared.token.Kind.TheVariants.{Sign as SignKind}
use Rattle.ca_tree.specs.declared.token.Keyword.TheVariants.{If, Else, While, For, Return, Print}
use Rattle.ca_tree.specs.declared.token.Sign.TheVariants.{OpenBrace, CloseBrace, OpenParenthesis, CloseParenthesis, Semicolon}
use Rattle.ca_tree.specs.Plain.{Expression, Statement, empty, block, if_only, if_else, while_loop, for_loop, return_value, print_value}
use Rattle.ca_expressions.specs.Terminals.{key, key_of, sign, sign_of}
use Rattle.ca_expressions.proofs.Terminals.{token, key_gives, sign_gives, word, mark}
use Rattle.ca_parse.specs.declared.statements.TheConstants.{DEEPEST}
use Rattle.ca_parse.specs.Grammar.{First, first_assign, Nested, Stmt, nothing, a_block, an_assign, a_call, an_if, an_if_else, a_while, a_for, a_return, a_print, Items, items_end, is_open, statements}
use Rattle.ca_parse.specs.clauses.Closed.{StmtClosed, Otherwise, with_else, without, OtherwiseClosed, Condition, condition, ReturnRest, return_rest, PrintRest, print_rest, IfRest, if_rest, IfRestClosed, WhileRest, while_rest, WhileRestClosed, ForRest, for_rest, ForRestClosed, is_nested}
use Rattle.ca_parse.proofs.Alone.{Alone, fewer_alone}
use Rattle.ca_expressions.proofs.Outer.{an_expression}
use Rattle.ca_parse.proofs.AssignRules.{an_assign as assign_part, ended_sign, assign_line_parts, assign_line_join}
use Rattle.ca_parse.proofs.StatementFronts.{a_stmt, chain_front, assign_front}

-- `;`
abbrev pub nothing_parts : (depth : ℕ) → Part Token Statement
nothing_parts depth = mark Semicolon ⨾ λ p. finish (empty p)

pub nothing_join : (depth : ℕ) (free : ℕ) (s r : List Token) (x : Statement) → (nothing_parts depth).D free s x r → (Stmt depth) free s x r
nothing_join depth free s r x (then d done) = nothing d

pub nothing_split : (depth : ℕ) (a0 : Place) (free : ℕ) (s r : List Token) (x : Statement) → Seen (sign Semicolon) a0 (StmtClosed depth) free s x r → (nothing_parts depth).C free s x r
nothing_split depth a0 free s r x c = at free s r x c.it.it c.it.shut c.seen
  where
    at : (free : ℕ) (s r : List Token) (x : Statement) → (Stmt depth) free s x r → (is_some (head_of (key Else) r) ≡ true → is_open x ≡ false) → head_of (sign Semicolon) s ≡ Some a0 → (nothing_parts depth).C free s x r
    at free s r x (nothing d) h g0 = upto d done
    at free s r x (a_block n d i) h g0 = let f = sign_gives (sign_of Semicolon) OpenBrace d in absurd cc
    at free s r x (an_if n d o e c y) h g0 = let f = key_gives (sign_of Semicolon) If d in absurd cc
    at free s r x (an_if_else n d o e c y k l z) h g0 = let f = key_gives (sign_of Semicolon) If d in absurd cc
    at free s r x (a_while n d o e c y) h g0 = let f = key_gives (sign_of Semicolon) While d in absurd cc
    at free s r x (a_for n d o i e m a c y) h g0 = let f = key_gives (sign_of Semicolon) For d in absurd cc
    at free s r x (a_return d e m) h g0 = let f = key_gives (sign_of Semicolon) Return d in absurd cc
    at free s r x (a_print d o e c m) h g0 = let f = key_gives (sign_of Semicolon) Print d in absurd cc
    at free s r x (an_assign a) h g0 = let f = assign_front (sign_of Semicolon) (λ p. refl) (λ n p. refl) _ _ _ _ a in absurd cc
    at free s r x (a_call c t e) h g0 = let f = chain_front (sign_of Semicolon) (λ p. refl) (λ n p. refl) _ _ _ _ c in absurd cc

pub nothing_answer : (depth : ℕ) {a0 : Place} {s : List Token} {o : Answer Token Statement} → head_of (sign Semicolon) s ≡ Some a0 → Exact (nothing_parts depth).D (nothing_parts depth).C s o → Exact (Stmt depth) (StmtClosed depth) s o
nothing_answer depth {a0} h0 d = seen {want = sign Semicolon} h0 (exact_map (nothing_join depth) (nothing_split depth a0) d)

pub nothing_alone : (depth : ℕ) {a0 : Place} {s r : List Token} {x : Statement} → head_of (sign Semicolon) s ≡ Some a0 → Alone (nothing_parts depth).C s x r → Alone (StmtClosed depth) s x r
nothing_alone depth {a0} {s = s} h0 d = fewer_alone (λ free q w c. nothing_split depth a0 free s q w (record { it = c; seen = h0 })) d

-- blocks, ifs and loops, whose first token may pass the limit
abbrev pub items_part : ℕ → Part Token (List Statement)
items_part depth = record {
  D = Items depth;
  C = Items depth;
  some = record { more = token (SignKind CloseBrace) ∷ []; tree = []; reads = λ free r h. items_end (sees refl) };
}

abbrev pub otherwise_part : (depth : ℕ) (at : Place) (x : Expression) (y : Statement) → Part Token Statement
otherwise_part depth at x y = record {
  D = Otherwise depth at x y;
  C = OtherwiseClosed depth at x y;
  some = record { more = []; tree = if_only at x y; reads = λ free r h. without };
}

abbrev pub condition_parts : Part Token Expression
condition_parts = mark OpenParenthesis ⨾ λ o. an_expression ⨾ λ x. mark CloseParenthesis ⨾ λ c. finish x

pub condition_join : (free : ℕ) (s r : List Token) (x : Expression) → condition_parts.D free s x r → Condition free s x r
condition_join free s r x (then o (then e (then c done))) = condition o e c

pub condition_split : (free : ℕ) (s r : List Token) (x : Expression) → Condition free s x r → condition_parts.C free s x r
condition_split free s r x (condition o e c) = upto o (upto (record { it = e; stop = ended_sign CloseParenthesis c (λ at. refl) }) (upto c done))

pub condition_answer : {s : List Token} {o : Answer Token Expression} → Exact condition_parts.D condition_parts.C s o → Exact Condition Condition s o
condition_answer d = exact_map condition_join condition_split d

abbrev pub a_condition : Part Token Expression
a_condition = record { D = Condition; C = Condition; some = default_of condition_parts.D Condition condition_join condition_parts.some }

abbrev pub if_rest_parts : (depth : ℕ) (at : Place) → Part Token Statement
if_rest_parts depth at = a_condition ⨾ λ x. a_stmt (depth + 1) ⨾ λ y. otherwise_part depth at x y

pub if_rest_join : (depth : ℕ) (at : Place) (free : ℕ) (s r : List Token) (z : Statement) → (if_rest_parts depth at).D free s z r → IfRest depth at free s z r
if_rest_join depth at free s r z (then c (then y w)) = if_rest c y w

-- where an `else` follows the whole, the branch before it is not open
pub branch_shut : (depth : ℕ) (at : Place) (free : ℕ) (q r : List Token) (x : Expression) (y z : Statement) → Otherwise depth at x y free q z r
    → (is_some (head_of (key Else) r) ≡ true → is_open z ≡ false) → is_some (head_of (key Else) q) ≡ true → is_open y ≡ false
branch_shut depth at free q r x y z (with_else h k d) f e = h
branch_shut depth at free q r x y z without f e = let g = f e in absurd cc

pub if_rest_split : (depth : ℕ) (at : Place) (free : ℕ) (s r : List Token) (z : Statement) → IfRestClosed depth at free s z r → (if_rest_parts depth at).C free s z r
if_rest_split depth at free s r z c = go s r z c.it c.shut
  where
    go : (s r : List Token) (z : Statement) → IfRest depth at free s z r → (is_some (head_of (key Else) r) ≡ true → is_open z ≡ false)
        → (if_rest_parts depth at).C free s z r
    go s r z (if_rest c y w) f = upto c (upto (record { it = y; shut = branch_shut depth at _ _ _ _ _ _ w f }) (record { it = w; shut = f }))

pub if_rest_answer : (depth : ℕ) (at : Place) {s : List Token} {o : Answer Token Statement} → Exact (if_rest_parts depth at).D (if_rest_parts depth at).C s o
    → Exact (IfRest depth at) (IfRestClosed depth at) s o
if_rest_answer depth at d = exact_map (if_rest_join depth at) (if_rest_split depth at) d

abbrev pub if_part : (depth : ℕ) (at : Place) → Part Token Statement
if_part depth at = record { D = IfRest depth at; C = IfRestClosed depth at; some = default_of (if_rest_parts depth at).D (IfRest depth at) (if_rest_join depth at) (if_rest_parts depth at).some }

-- behind a branch: an `else`, which belongs to this `if`, or none
abbrev pub else_parts : (depth : ℕ) (at : Place) (x : Expression) (y : Statement) → Part Token Statement
else_parts depth at x y = word Else ⨾ λ e. a_stmt (depth + 1) ⨾ λ z. finish (if_else at x y z)

else_join : (depth : ℕ) (at : Place) (x : Expression) (y : Statement) → is_open y ≡ false → (free : ℕ) (s r : List Token) (z : Statement)
    → (else_parts depth at x y).D free s z r → Otherwise depth at x y free s z r
else_join depth at x y h free s r z (then e (then d done)) = with_else h e d

pub else_split : (depth : ℕ) (at : Place) (x : Expression) (y : Statement) (a : Place) (free : ℕ) (s r : List Token) (z : Statement)
    → Seen (key Else) a (OtherwiseClosed depth at x y) free s z r → (else_parts depth at x y).C free s z r
else_split depth at x y a free s r z c = go s r z c.it.it c.it.shut c.seen
  where
    go : (s r : List Token) (z : Statement) → Otherwise depth at x y free s z r → (is_some (head_of (key Else) r) ≡ true → is_open z ≡ false)
        → head_of (key Else) s ≡ Some a → (else_parts depth at x y).C free s z r
    go s r z (with_else h e d) f g = upto e (upto (record { it = d; shut = f }) done)
    go s r z without f g = let k = f (ap is_some g) in absurd cc

pub else_answer : (depth : ℕ) (at : Place) (x : Expression) (y : Statement) {a : Place} {s : List Token} {o : Answer Token Statement}
    → is_open y ≡ false → head_of (key Else) s ≡ Some a → Exact (else_parts depth at x y).D (else_parts depth at x y).C s o
    → Exact (Otherwise depth at x y) (OtherwiseClosed depth at x y) s o
else_answer depth at x y {a} h k d = seen {want = key Else} k (exact_map (else_join depth at x y h) (else_split depth at x y a) d)

pub without_answer : (depth : ℕ) (at : Place) (x : Expression) (y : Statement) {s : List Token} → head_of (key Else) s ≡ None
    → Exact (Otherwise depth at x y) (OtherwiseClosed depth at x y) s (Got (if_only at x y) s)
without_answer depth at x y h = unseen {want = key Else} h (got_nothing (λ free r. without) (λ free s' r z c. go s' r z c.it.it c.unseen))
  where
    go : {free : ℕ} (s r : List Token) (z : Statement) → Otherwise depth at x y free s z r → head_of (key Else) s ≡ None → (z ≡ if_only at x y) × (r ≡ s)
    go s r z without g = (refl, refl)
    go s r z (with_else k e d) g = let f = sees_head (key Else) e in absurd cc

abbrev pub while_rest_parts : (depth : ℕ) (at : Place) → Part Token Statement
while_rest_parts depth at = a_condition ⨾ λ x. a_stmt (depth + 1) ⨾ λ y. finish (while_loop at x y)

pub while_rest_join : (depth : ℕ) (at : Place) (free : ℕ) (s r : List Token) (z : Statement) → (while_rest_parts depth at).D free s z r → WhileRest depth at free s z r
while_rest_join depth at free s r z (then c (then y done)) = while_rest c y

pub while_rest_split : (depth : ℕ) (at : Place) (free : ℕ) (s r : List Token) (z : Statement) → WhileRestClosed depth at free s z r → (while_rest_parts depth at).C free s z r
while_rest_split depth at free s r z c = go s r z c.it c.shut
  where
    go : (s r : List Token) (z : Statement) → WhileRest depth at free s z r → (is_some (head_of (key Else) r) ≡ true → is_open z ≡ false)
        → (while_rest_parts depth at).C free s z r
    go s r z (while_rest c y) f = upto c (upto (record { it = y; shut = f }) done)

pub while_rest_answer : (depth : ℕ) (at : Place) {s : List Token} {o : Answer Token Statement} → Exact (while_rest_parts depth at).D (while_rest_parts depth at).C s o
    → Exact (WhileRest depth at) (WhileRestClosed depth at) s o
while_rest_answer depth at d = exact_map (while_rest_join depth at) (while_rest_split depth at) d

abbrev pub while_part : (depth : ℕ) (at : Place) → Part Token Statement
while_part depth at = record { D = WhileRest depth at; C = WhileRestClosed depth at; some = default_of (while_rest_parts depth at).D (WhileRest depth at) (while_rest_join depth at) (while_rest_parts depth at).some }

-- the first part of a `for`
abbrev pub a_first : Part Token Statement
a_first = record { D = First; C = First; some = default_of assign_line_parts.D First (λ free s r x d. first_assign (assign_line_join free s r x d)) assign_line_parts.some }

abbrev pub for_rest_parts : (depth : ℕ) (at : Place) → Part Token Statement
for_rest_parts depth at = mark OpenParenthesis ⨾ λ o. a_first ⨾ λ i. an_expression ⨾ λ x. mark Semicolon ⨾ λ e. assign_part ⨾ λ n.
    mark CloseParenthesis ⨾ λ c. a_stmt (depth + 1) ⨾ λ y. finish (for_loop at i x n y)

pub for_rest_join : (depth : ℕ) (at : Place) (free : ℕ) (s r : List Token) (z : Statement) → (for_rest_parts depth at).D free s z r → ForRest depth at free s z r
for_rest_join depth at free s r z (then o (then i (then x (then e (then n (then c (then y done))))))) = for_rest o i x e n c y

pub for_rest_split : (depth : ℕ) (at : Place) (free : ℕ) (s r : List Token) (z : Statement) → ForRestClosed depth at free s z r → (for_rest_parts depth at).C free s z r
for_rest_split depth at free s r z c = go s r z c.it c.shut
  where
    go : (s r : List Token) (z : Statement) → ForRest depth at free s z r → (is_some (head_of (key Else) r) ≡ true → is_open z ≡ false)
        → (for_rest_parts depth at).C free s z r
    go s r z (for_rest o i x e n c y) f = upto o (upto i (upto (record { it = x; stop = ended_sign Semicolon e (λ at. refl) }) (upto e
        (upto (record { it = n; stop = ended_sign CloseParenthesis c (λ at. refl) }) (upto c (upto (record { it = y; shut = f }) done))))))

pub for_rest_answer : (depth : ℕ) (at : Place) {s : List Token} {o : Answer Token Statement} → Exact (for_rest_parts depth at).D (for_rest_parts depth at).C s o
    → Exact (ForRest depth at) (ForRestClosed depth at) s o
for_rest_answer depth at d = exact_map (for_rest_join depth at) (for_rest_split depth at) d

abbrev pub for_part : (depth : ℕ) (at : Place) → Part Token Statement
for_part depth at = record { D = ForRest depth at; C = ForRestClosed depth at; some = default_of (for_rest_parts depth at).D (ForRest depth at) (for_rest_join depth at) (for_rest_parts depth at).some }

abbrev pub block_parts : (depth : ℕ) → Part Token Statement
block_parts depth = mark OpenBrace ⨾ λ p. items_part (depth + 1) ⨾ λ xs. finish (block p (statements xs))

block_join : (depth free : ℕ) (s r : List Token) (x : Statement) → Limited (depth < DEEPEST) (block_parts depth).D free s x r → Stmt depth free s x r
block_join depth free s r x m = at s r x m.it m.asked
  where
    at : (s r : List Token) (x : Statement) → (block_parts depth).D free s x r → Nested depth free s → Stmt depth free s x r
    at s r x (then d (then i done)) n = a_block n d i

pub block_split : (depth : ℕ) (a : Place) (free : ℕ) (s r : List Token) (x : Statement) → Seen (sign OpenBrace) a (StmtClosed depth) free s x r → Limited (depth < DEEPEST) (block_parts depth).C free s x r
block_split depth a free s r x c = at free s r x c.it.it c.it.shut c.seen
  where
    at : (free : ℕ) (s r : List Token) (x : Statement) → Stmt depth free s x r → (is_some (head_of (key Else) r) ≡ true → is_open x ≡ false) → head_of (sign OpenBrace) s ≡ Some a → Limited (depth < DEEPEST) (block_parts depth).C free s x r
    at free s r x (a_block n d i) h g = record { it = upto d (upto i done); asked = n }
    at free s r x (nothing d) h g = let f = sign_gives (sign_of OpenBrace) Semicolon d in absurd cc
    at free s r x (an_if n d o e c y) h g = let f = key_gives (sign_of OpenBrace) If d in absurd cc
    at free s r x (an_if_else n d o e c y k l z) h g = let f = key_gives (sign_of OpenBrace) If d in absurd cc
    at free s r x (a_while n d o e c y) h g = let f = key_gives (sign_of OpenBrace) While d in absurd cc
    at free s r x (a_for n d o i e m a c y) h g = let f = key_gives (sign_of OpenBrace) For d in absurd cc
    at free s r x (a_return d e m) h g = let f = key_gives (sign_of OpenBrace) Return d in absurd cc
    at free s r x (a_print d o e c m) h g = let f = key_gives (sign_of OpenBrace) Print d in absurd cc
    at free s r x (an_assign a) h g = let f = assign_front (sign_of OpenBrace) (λ p. refl) (λ n p. refl) _ _ _ _ a in absurd cc
    at free s r x (a_call c t e) h g = let f = chain_front (sign_of OpenBrace) (λ p. refl) (λ n p. refl) _ _ _ _ c in absurd cc

pub block_answer : (depth : ℕ) {a : Place} {s : List Token} {o : Answer Token Statement} → depth < DEEPEST → head_of (sign OpenBrace) s ≡ Some a → Exact (block_parts depth).D (block_parts depth).C s o → Exact (Stmt depth) (StmtClosed depth) s o
block_answer depth {a} k h d = seen {want = sign OpenBrace} h (exact_map (block_join depth) (block_split depth a) (limited_ok k d))

pub block_alone : (depth : ℕ) {a : Place} {s r : List Token} {x : Statement} → head_of (sign OpenBrace) s ≡ Some a → Alone (block_parts depth).C s x r → Alone (StmtClosed depth) s x r
block_alone depth {a} {s = s} h d = fewer_alone (λ free q y c. (block_split depth a free s q y (record { it = c; seen = h })).it) d

pub block_deep : (depth : ℕ) {a : Place} (s : List Token) → (depth < DEEPEST → ⊥) → head_of (sign OpenBrace) s ≡ Some a → Exact (Stmt depth) (StmtClosed depth) s (Failed (TooDeep s))
block_deep depth {a} [] k h = absurd cc
block_deep depth {a} (t ∷ q) k h = seen {want = sign OpenBrace} h (exact_map (block_join depth) (block_split depth a)
    (limited_deep k refl (default_from {want = sign OpenBrace} (block_parts depth).D h (λ free s r y d. d))))

abbrev pub if_parts : (depth : ℕ) → Part Token Statement
if_parts depth = word If ⨾ λ p. if_part depth p

if_join : (depth free : ℕ) (s r : List Token) (x : Statement) → Limited (depth < DEEPEST) (if_parts depth).D free s x r → Stmt depth free s x r
if_join depth free s r x m = at s r x m.it m.asked
  where
    at : (s r : List Token) (x : Statement) → (if_parts depth).D free s x r → Nested depth free s → Stmt depth free s x r
    at s r x (then d (if_rest (condition o e c) y without)) n = an_if n d o e c y
    at s r x (then d (if_rest (condition o e c) y (with_else h k z))) n = an_if_else n d o e c y h k z

pub if_split : (depth : ℕ) (a : Place) (free : ℕ) (s r : List Token) (x : Statement) → Seen (key If) a (StmtClosed depth) free s x r → Limited (depth < DEEPEST) (if_parts depth).C free s x r
if_split depth a free s r x c = at free s r x c.it.it c.it.shut c.seen
  where
    at : (free : ℕ) (s r : List Token) (x : Statement) → Stmt depth free s x r → (is_some (head_of (key Else) r) ≡ true → is_open x ≡ false) → head_of (key If) s ≡ Some a → Limited (depth < DEEPEST) (if_parts depth).C free s x r
    at free s r x (an_if n d o e c y) h g = record { it = upto d (record { it = if_rest (condition o e c) y without; shut = h }); asked = n }
    at free s r x (an_if_else n d o e c y k l z) h g = record { it = upto d (record { it = if_rest (condition o e c) y (with_else k l z); shut = h }); asked = n }
    at free s r x (nothing d) h g = let f = sign_gives (key_of If) Semicolon d in absurd cc
    at free s r x (a_block n d i) h g = let f = sign_gives (key_of If) OpenBrace d in absurd cc
    at free s r x (a_while n d o e c y) h g = let f = key_gives (key_of If) While d in absurd cc
    at free s r x (a_for n d o i e m a c y) h g = let f = key_gives (key_of If) For d in absurd cc
    at free s r x (a_return d e m) h g = let f = key_gives (key_of If) Return d in absurd cc
    at free s r x (a_print d o e c m) h g = let f = key_gives (key_of If) Print d in absurd cc
    at free s r x (an_assign a) h g = let f = assign_front (key_of If) (λ p. refl) (λ n p. refl) _ _ _ _ a in absurd cc
    at free s r x (a_call c t e) h g = let f = chain_front (key_of If) (λ p. refl) (λ n p. refl) _ _ _ _ c in absurd cc

pub if_answer : (depth : ℕ) {a : Place} {s : List Token} {o : Answer Token Statement} → depth < DEEPEST → head_of (key If) s ≡ Some a → Exact (if_parts depth).D (if_parts depth).C s o → Exact (Stmt depth) (StmtClosed depth) s o
if_answer depth {a} k h d = seen {want = key If} h (exact_map (if_join depth) (if_split depth a) (limited_ok k d))

pub if_alone : (depth : ℕ) {a : Place} {s r : List Token} {x : Statement} → head_of (key If) s ≡ Some a → Alone (if_parts depth).C s x r → Alone (StmtClosed depth) s x r
if_alone depth {a} {s = s} h d = fewer_alone (λ free q y c. (if_split depth a free s q y (record { it = c; seen = h })).it) d

pub if_deep : (depth : ℕ) {a : Place} (s : List Token) → (depth < DEEPEST → ⊥) → head_of (key If) s ≡ Some a → Exact (Stmt depth) (StmtClosed depth) s (Failed (TooDeep s))
if_deep depth {a} [] k h = absurd cc
if_deep depth {a} (t ∷ q) k h = seen {want = key If} h (exact_map (if_join depth) (if_split depth a)
    (limited_deep k refl (default_from {want = key If} (if_parts depth).D h (λ free s r y d. d))))

abbrev pub while_parts : (depth : ℕ) → Part Token Statement
while_parts depth = word While ⨾ λ p. while_part depth p

while_join : (depth free : ℕ) (s r : List Token) (x : Statement) → Limited (depth < DEEPEST) (while_parts depth).D free s x r → Stmt depth free s x r
while_join depth free s r x m = at s r x m.it m.asked
  where
    at : (s r : List Token) (x : Statement) → (while_parts depth).D free s x r → Nested depth free s → Stmt depth free s x r
    at s r x (then d (while_rest (condition o e c) y)) n = a_while n d o e c y

pub while_split : (depth : ℕ) (a : Place) (free : ℕ) (s r : List Token) (x : Statement) → Seen (key While) a (StmtClosed depth) free s x r → Limited (depth < DEEPEST) (while_parts depth).C free s x r
while_split depth a free s r x c = at free s r x c.it.it c.it.shut c.seen
  where
    at : (free : ℕ) (s r : List Token) (x : Statement) → Stmt depth free s x r → (is_some (head_of (key Else) r) ≡ true → is_open x ≡ false) → head_of (key While) s ≡ Some a → Limited (depth < DEEPEST) (while_parts depth).C free s x r
    at free s r x (a_while n d o e c y) h g = record { it = upto d (record { it = while_rest (condition o e c) y; shut = h }); asked = n }
    at free s r x (nothing d) h g = let f = sign_gives (key_of While) Semicolon d in absurd cc
    at free s r x (a_block n d i) h g = let f = sign_gives (key_of While) OpenBrace d in absurd cc
    at free s r x (an_if n d o e c y) h g = let f = key_gives (key_of While) If d in absurd cc
    at free s r x (an_if_else n d o e c y k l z) h g = let f = key_gives (key_of While) If d in absurd cc
    at free s r x (a_for n d o i e m a c y) h g = let f = key_gives (key_of While) For d in absurd cc
    at free s r x (a_return d e m) h g = let f = key_gives (key_of While) Return d in absurd cc
    at free s r x (a_print d o e c m) h g = let f = key_gives (key_of While) Print d in absurd cc
    at free s r x (an_assign a) h g = let f = assign_front (key_of While) (λ p. refl) (λ n p. refl) _ _ _ _ a in absurd cc
    at free s r x (a_call c t e) h g = let f = chain_front (key_of While) (λ p. refl) (λ n p. refl) _ _ _ _ c in absurd cc

pub while_answer : (depth : ℕ) {a : Place} {s : List Token} {o : Answer Token Statement} → depth < DEEPEST → head_of (key While) s ≡ Some a → Exact (while_parts depth).D (while_parts depth).C s o → Exact (Stmt depth) (StmtClosed depth) s o
while_answer depth {a} k h d = seen {want = key While} h (exact_map (while_join depth) (while_split depth a) (limited_ok k d))

pub while_alone : (depth : ℕ) {a : Place} {s r : List Token} {x : Statement} → head_of (key While) s ≡ Some a → Alone (while_parts depth).C s x r → Alone (StmtClosed depth) s x r
while_alone depth {a} {s = s} h d = fewer_alone (λ free q y c. (while_split depth a free s q y (record { it = c; seen = h })).it) d

pub while_deep : (depth : ℕ) {a : Place} (s : List Token) → (depth < DEEPEST → ⊥) → head_of (key While) s ≡ Some a → Exact (Stmt depth) (StmtClosed depth) s (Failed (TooDeep s))
while_deep depth {a} [] k h = absurd cc
while_deep depth {a} (t ∷ q) k h = seen {want = key While} h (exact_map (while_join depth) (while_split depth a)
    (limited_deep k refl (default_from {want = key While} (while_parts depth).D h (λ free s r y d. d))))

abbrev pub for_parts : (depth : ℕ) → Part Token Statement
for_parts depth = word For ⨾ λ p. for_part depth p

for_join : (depth free : ℕ) (s r : List Token) (x : Statement) → Limited (depth < DEEPEST) (for_parts depth).D free s x r → Stmt depth free s x r
for_join depth free s r x m = at s r x m.it m.asked
  where
    at : (s r : List Token) (x : Statement) → (for_parts depth).D free s x r → Nested depth free s → Stmt depth free s x r
    at s r x (then d (for_rest o i e m a c y)) n = a_for n d o i e m a c y

pub for_split : (depth : ℕ) (a : Place) (free : ℕ) (s r : List Token) (x : Statement) → Seen (key For) a (StmtClosed depth) free s x r → Limited (depth < DEEPEST) (for_parts depth).C free s x r
for_split depth a free s r x c = at free s r x c.it.it c.it.shut c.seen
  where
    at : (free : ℕ) (s r : List Token) (x : Statement) → Stmt depth free s x r → (is_some (head_of (key Else) r) ≡ true → is_open x ≡ false) → head_of (key For) s ≡ Some a → Limited (depth < DEEPEST) (for_parts depth).C free s x r
    at free s r x (a_for n d o i e m a c y) h g = record { it = upto d (record { it = for_rest o i e m a c y; shut = h }); asked = n }
    at free s r x (nothing d) h g = let f = sign_gives (key_of For) Semicolon d in absurd cc
    at free s r x (a_block n d i) h g = let f = sign_gives (key_of For) OpenBrace d in absurd cc
    at free s r x (an_if n d o e c y) h g = let f = key_gives (key_of For) If d in absurd cc
    at free s r x (an_if_else n d o e c y k l z) h g = let f = key_gives (key_of For) If d in absurd cc
    at free s r x (a_while n d o e c y) h g = let f = key_gives (key_of For) While d in absurd cc
    at free s r x (a_return d e m) h g = let f = key_gives (key_of For) Return d in absurd cc
    at free s r x (a_print d o e c m) h g = let f = key_gives (key_of For) Print d in absurd cc
    at free s r x (an_assign a) h g = let f = assign_front (key_of For) (λ p. refl) (λ n p. refl) _ _ _ _ a in absurd cc
    at free s r x (a_call c t e) h g = let f = chain_front (key_of For) (λ p. refl) (λ n p. refl) _ _ _ _ c in absurd cc

pub for_answer : (depth : ℕ) {a : Place} {s : List Token} {o : Answer Token Statement} → depth < DEEPEST → head_of (key For) s ≡ Some a → Exact (for_parts depth).D (for_parts depth).C s o → Exact (Stmt depth) (StmtClosed depth) s o
for_answer depth {a} k h d = seen {want = key For} h (exact_map (for_join depth) (for_split depth a) (limited_ok k d))

pub for_alone : (depth : ℕ) {a : Place} {s r : List Token} {x : Statement} → head_of (key For) s ≡ Some a → Alone (for_parts depth).C s x r → Alone (StmtClosed depth) s x r
for_alone depth {a} {s = s} h d = fewer_alone (λ free q y c. (for_split depth a free s q y (record { it = c; seen = h })).it) d

pub for_deep : (depth : ℕ) {a : Place} (s : List Token) → (depth < DEEPEST → ⊥) → head_of (key For) s ≡ Some a → Exact (Stmt depth) (StmtClosed depth) s (Failed (TooDeep s))
for_deep depth {a} [] k h = absurd cc
for_deep depth {a} (t ∷ q) k h = seen {want = key For} h (exact_map (for_join depth) (for_split depth a)
    (limited_deep k refl (default_from {want = key For} (for_parts depth).D h (λ free s r y d. d))))

-- a statement that would pass the limit
pub nested_deep : (depth : ℕ) (s : List Token) → (depth < DEEPEST → ⊥) → is_nested s ≡ true → Exact (Stmt depth) (StmtClosed depth) s (Failed (TooDeep s))
nested_deep depth s k h = at (head_of (sign OpenBrace) s) (head_of (key If) s) (head_of (key While) s) (head_of (key For) s) refl refl refl refl h
  where
    at : (a b c d : Option Place) → head_of (sign OpenBrace) s ≡ a → head_of (key If) s ≡ b → head_of (key While) s ≡ c → head_of (key For) s ≡ d
        → (is_some a || (is_some b || (is_some c || is_some d))) ≡ true → Exact (Stmt depth) (StmtClosed depth) s (Failed (TooDeep s))
    at (Some a) b c d e f g i h = block_deep depth s k e
    at None (Some b) c d e f g i h = if_deep depth s k f
    at None None (Some c) d e f g i h = while_deep depth s k g
    at None None None (Some d) e f g i h = for_deep depth s k i
    at None None None None e f g i h = absurd cc

-- what the test of the first token tells
pub record NotNested (s : List Token) : Type 0 where
  pub no_brace : head_of (sign OpenBrace) s ≡ None
  pub no_if : head_of (key If) s ≡ None
  pub no_while : head_of (key While) s ≡ None
  pub no_for : head_of (key For) s ≡ None

pub not_nested : (s : List Token) → is_nested s ≡ false → NotNested s
not_nested s h = at (head_of (sign OpenBrace) s) (head_of (key If) s) (head_of (key While) s) (head_of (key For) s) refl refl refl refl h
  where
    at : (a b c d : Option Place) → head_of (sign OpenBrace) s ≡ a → head_of (key If) s ≡ b → head_of (key While) s ≡ c → head_of (key For) s ≡ d
        → (is_some a || (is_some b || (is_some c || is_some d))) ≡ false → NotNested s
    at (Some a) b c d e f g i h = absurd cc
    at None (Some b) c d e f g i h = absurd cc
    at None None (Some c) d e f g i h = absurd cc
    at None None None (Some d) e f g i h = absurd cc
    at None None None None e f g i h = record { no_brace = e; no_if = f; no_while = g; no_for = i }

pub none_nested : (s : List Token) → is_nested s ≡ true → head_of (sign OpenBrace) s ≡ None → head_of (key If) s ≡ None
    → head_of (key While) s ≡ None → head_of (key For) s ≡ None → ⊥
none_nested s h a b c d = let e : is_nested s ≡ false = rw (a, b, c, d) refl in absurd cc

abbrev pub return_rest_parts : (at : Place) → Part Token Statement
return_rest_parts at = an_expression ⨾ λ x. mark Semicolon ⨾ λ e. finish (return_value at x)

pub return_rest_join : (at : Place) (free : ℕ) (s r : List Token) (x : Statement) → (return_rest_parts at).D free s x r → (ReturnRest at) free s x r
return_rest_join at free s r x (then e (then m done)) = return_rest e m

pub return_rest_split : (at : Place) (free : ℕ) (s r : List Token) (x : Statement) → (ReturnRest at) free s x r → (return_rest_parts at).C free s x r
return_rest_split at free s r x (return_rest e m) = upto (record { it = e; stop = ended_sign Semicolon m (λ at. refl) }) (upto m done)

pub return_rest_answer : (at : Place) {s : List Token} {o : Answer Token Statement} → Exact (return_rest_parts at).D (return_rest_parts at).C s o → Exact (ReturnRest at) (ReturnRest at) s o
return_rest_answer at d = exact_map (return_rest_join at) (return_rest_split at) d

pub return_rest_alone : (at : Place) {s r : List Token} {x : Statement} → Alone (return_rest_parts at).C s x r → Alone (ReturnRest at) s x r
return_rest_alone at {s = s} d = fewer_alone (λ free q w c. return_rest_split at free s q w c) d

abbrev pub print_rest_parts : (at : Place) → Part Token Statement
print_rest_parts at = a_condition ⨾ λ x. mark Semicolon ⨾ λ e. finish (print_value at x)

pub print_rest_join : (at : Place) (free : ℕ) (s r : List Token) (x : Statement) → (print_rest_parts at).D free s x r → (PrintRest at) free s x r
print_rest_join at free s r x (then c (then m done)) = print_rest c m

pub print_rest_split : (at : Place) (free : ℕ) (s r : List Token) (x : Statement) → (PrintRest at) free s x r → (print_rest_parts at).C free s x r
print_rest_split at free s r x (print_rest c m) = upto c (upto m done)

pub print_rest_answer : (at : Place) {s : List Token} {o : Answer Token Statement} → Exact (print_rest_parts at).D (print_rest_parts at).C s o → Exact (PrintRest at) (PrintRest at) s o
print_rest_answer at d = exact_map (print_rest_join at) (print_rest_split at) d

pub print_rest_alone : (at : Place) {s r : List Token} {x : Statement} → Alone (print_rest_parts at).C s x r → Alone (PrintRest at) s x r
print_rest_alone at {s = s} d = fewer_alone (λ free q w c. print_rest_split at free s q w c) d

abbrev pub return_part : Place → Part Token Statement
return_part at = record { D = ReturnRest at; C = ReturnRest at; some = default_of (return_rest_parts at).D (ReturnRest at) (return_rest_join at) (return_rest_parts at).some }

abbrev pub print_part : Place → Part Token Statement
print_part at = record { D = PrintRest at; C = PrintRest at; some = default_of (print_rest_parts at).D (PrintRest at) (print_rest_join at) (print_rest_parts at).some }

abbrev pub return_parts : (depth : ℕ) → Part Token Statement
return_parts depth = word Return ⨾ λ p. return_part p

pub return_join : (depth : ℕ) (free : ℕ) (s r : List Token) (x : Statement) → (return_parts depth).D free s x r → (Stmt depth) free s x r
return_join depth free s r x (then d (return_rest e m)) = a_return d e m

pub return_split : (depth : ℕ) (a0 : Place) (free : ℕ) (s r : List Token) (x : Statement) → Seen (key Return) a0 (StmtClosed depth) free s x r → (return_parts depth).C free s x r
return_split depth a0 free s r x c = at free s r x c.it.it c.it.shut c.seen
  where
    at : (free : ℕ) (s r : List Token) (x : Statement) → (Stmt depth) free s x r → (is_some (head_of (key Else) r) ≡ true → is_open x ≡ false) → head_of (key Return) s ≡ Some a0 → (return_parts depth).C free s x r
    at free s r x (a_return d e m) h g0 = upto d (return_rest e m)
    at free s r x (nothing d) h g0 = let f = sign_gives (key_of Return) Semicolon d in absurd cc
    at free s r x (a_block n d i) h g0 = let f = sign_gives (key_of Return) OpenBrace d in absurd cc
    at free s r x (an_if n d o e c y) h g0 = let f = key_gives (key_of Return) If d in absurd cc
    at free s r x (an_if_else n d o e c y k l z) h g0 = let f = key_gives (key_of Return) If d in absurd cc
    at free s r x (a_while n d o e c y) h g0 = let f = key_gives (key_of Return) While d in absurd cc
    at free s r x (a_for n d o i e m a c y) h g0 = let f = key_gives (key_of Return) For d in absurd cc
    at free s r x (a_print d o e c m) h g0 = let f = key_gives (key_of Return) Print d in absurd cc
    at free s r x (an_assign a) h g0 = let f = assign_front (key_of Return) (λ p. refl) (λ n p. refl) _ _ _ _ a in absurd cc
    at free s r x (a_call c t e) h g0 = let f = chain_front (key_of Return) (λ p. refl) (λ n p. refl) _ _ _ _ c in absurd cc

pub return_answer : (depth : ℕ) {a0 : Place} {s : List Token} {o : Answer Token Statement} → head_of (key Return) s ≡ Some a0 → Exact (return_parts depth).D (return_parts depth).C s o → Exact (Stmt depth) (StmtClosed depth) s o
return_answer depth {a0} h0 d = seen {want = key Return} h0 (exact_map (return_join depth) (return_split depth a0) d)

pub return_alone : (depth : ℕ) {a0 : Place} {s r : List Token} {x : Statement} → head_of (key Return) s ≡ Some a0 → Alone (return_parts depth).C s x r → Alone (StmtClosed depth) s x r
return_alone depth {a0} {s = s} h0 d = fewer_alone (λ free q w c. return_split depth a0 free s q w (record { it = c; seen = h0 })) d

abbrev pub print_parts : (depth : ℕ) → Part Token Statement
print_parts depth = word Print ⨾ λ p. print_part p

pub print_join : (depth : ℕ) (free : ℕ) (s r : List Token) (x : Statement) → (print_parts depth).D free s x r → (Stmt depth) free s x r
print_join depth free s r x (then d (print_rest (condition o e c) m)) = a_print d o e c m

pub print_split : (depth : ℕ) (a0 : Place) (free : ℕ) (s r : List Token) (x : Statement) → Seen (key Print) a0 (StmtClosed depth) free s x r → (print_parts depth).C free s x r
print_split depth a0 free s r x c = at free s r x c.it.it c.it.shut c.seen
  where
    at : (free : ℕ) (s r : List Token) (x : Statement) → (Stmt depth) free s x r → (is_some (head_of (key Else) r) ≡ true → is_open x ≡ false) → head_of (key Print) s ≡ Some a0 → (print_parts depth).C free s x r
    at free s r x (a_print d o e c m) h g0 = upto d (print_rest (condition o e c) m)
    at free s r x (nothing d) h g0 = let f = sign_gives (key_of Print) Semicolon d in absurd cc
    at free s r x (a_block n d i) h g0 = let f = sign_gives (key_of Print) OpenBrace d in absurd cc
    at free s r x (an_if n d o e c y) h g0 = let f = key_gives (key_of Print) If d in absurd cc
    at free s r x (an_if_else n d o e c y k l z) h g0 = let f = key_gives (key_of Print) If d in absurd cc
    at free s r x (a_while n d o e c y) h g0 = let f = key_gives (key_of Print) While d in absurd cc
    at free s r x (a_for n d o i e m a c y) h g0 = let f = key_gives (key_of Print) For d in absurd cc
    at free s r x (a_return d e m) h g0 = let f = key_gives (key_of Print) Return d in absurd cc
    at free s r x (an_assign a) h g0 = let f = assign_front (key_of Print) (λ p. refl) (λ n p. refl) _ _ _ _ a in absurd cc
    at free s r x (a_call c t e) h g0 = let f = chain_front (key_of Print) (λ p. refl) (λ n p. refl) _ _ _ _ c in absurd cc

pub print_answer : (depth : ℕ) {a0 : Place} {s : List Token} {o : Answer Token Statement} → head_of (key Print) s ≡ Some a0 → Exact (print_parts depth).D (print_parts depth).C s o → Exact (Stmt depth) (StmtClosed depth) s o
print_answer depth {a0} h0 d = seen {want = key Print} h0 (exact_map (print_join depth) (print_split depth a0) d)

pub print_alone : (depth : ℕ) {a0 : Place} {s r : List Token} {x : Statement} → head_of (key Print) s ≡ Some a0 → Alone (print_parts depth).C s x r → Alone (StmtClosed depth) s x r
print_alone depth {a0} {s = s} h0 d = fewer_alone (λ free q w c. print_split depth a0 free s q w (record { it = c; seen = h0 })) d
