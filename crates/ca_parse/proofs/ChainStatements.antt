-- Statements that begin with a chain, and what is no local.
use Rattle.std.proofs.Common.{◌≡◌, ◌<◌, ℕ, pos, List, [], ◌∷◌, ◌++◌, Bool, true, false, length, map, Option, Some, None, is_some, refl, sym, ◌∙◌, ap, subst, arith, inl}
use Rattle.ca_descent.specs.Exact.{Unlimited, Answer, Got, Exact, Sees, sees, head_of, Unseen}
use Rattle.ca_descent.proofs.Exact.{Default, unseen, exact_map, sees_head, shrinks}
use Rattle.ca_descent.proofs.Parts.{then, upto, done, Part, ◌⨾◌, finish}
use Rattle.ca_tree.specs.declared.name.Place.{Place}
use Rattle.ca_tree.specs.declared.token.Token.{Token}
use Rattle.ca_tree.specs.declared.token.Kind.TheVariants.{Sign as SignKind}
use Rattle.ca_tree.specs.declared.token.Keyword.TheVariants.{Long as LongKey, Bool as BoolKey, If, Else, While, For, Return, Print, This}
use Rattle.ca_tree.specs.declared.token.Sign.{Sign}
use Rattle.ca_tree.specs.declared.token.Sign.TheVariants.{OpenBrace, OpenParenthesis, OpenBracket, Semicolon, Times, Arrow, Assign as AssignSign, Increment, Decrement}
use Rattle.ca_tree.specs.declared.tree.AssignOp.{AssignOp}
use Rattle.ca_tree.specs.declared.tree.AssignOp.TheVariants.{Add}
use Rattle.ca_tree.specs.declared.tree.StmtNode.{StmtNode}
use Rattle.ca_tree.specs.View.{statement_view, statements_view}
use Rattle.ca_tree.specs.declared.tree.TypeNode.{TypeNode}
use Rattle.ca_tree.specs.Operators.{unary_level}
use Rattle.ca_tree.specs.Plain.{Expression, RightSide, Statement, number as number_tree, truth, null, this, named, call, field, method, index, unary, binary, value, assign, statement_and, call_statement}
use Rattle.ca_expressions.specs.Terminals.{key, key_of, sign, sign_of, name, name_of, goes_on_of}
use Rattle.ca_expressions.specs.Grammar.{Chain, this_chain, name_chain, call_chain, args, Tails, tails_end, tails_more, Tail, field_tail, method_tail, index_tail, OuterChain, is_call, is_target}
use Rattle.ca_expressions.proofs.Terminals.{token, start, key_gives, sign_gives, mark}
use Rattle.ca_expressions.specs.Readers.{answer}
use Rattle.ca_expressions.specs.declared.tokens.Fault.{Fault}
use Rattle.std.specs.Borrow.{Bor}
use Rattle.std.specs.declared.boxed.Box.{Box}
use Rattle.std.specs.Global.{Global}
use Rattle.std.specs.Prelude.{Result, Ok, Err, IfOk}
use Rattle.ca_parse.specs.Grammar.{Deriving, TypeName, long, bool, pointer, Local, declares, begins, Change, puts, changes, increments, decrements, assigns, AssignLine, assign_line, First, first_local, first_assign, Stmt, nothing, a_block, an_assign, a_call, an_if, an_if_else, a_while, a_for, a_return, a_print, Item, a_local, a_statement, is_open, statements, first_place}
use Rattle.ca_parse.specs.clauses.Closed.{assign_to, Use, calling, putting, use_by, use_of, Used, called, put, StmtClosed, ItemClosed, ReturnRest, return_rest, PrintRest, print_rest, Simple, simple_call, simple_put, stmt_view}
use Rattle.ca_parse.proofs.Uses.{a_picked}
use Rattle.ca_parse.proofs.Locals.{LocalOr, a_local as or_local, another, Other}
use Rattle.ca_parse.proofs.Compounds.{compound_none}
use Rattle.ca_parse.proofs.AssignRules.{put_to, ended_sign, change_ended}
use Rattle.ca_parse.proofs.StatementFronts.{shut_here, assign_front, stmt_not_long, stmt_not_bool}

pub used_default : (u : Use) → Default (Used u)
used_default (calling x) = record { more = token (SignKind Semicolon) ∷ []; tree = _; reads = λ free r h. called (sees refl) }
used_default (putting x) = record {
  more = token (SignKind Increment) ∷ token (SignKind Semicolon) ∷ [];
  tree = _;
  reads = λ free r h. put (assign_to (increments (sees refl))) (sees refl);
}

-- a chain that is used
abbrev pub used_part : Use → Part Token Statement
used_part u = record { D = Used u; C = Used u; some = used_default u }

abbrev pub a_use : Part Token Use
a_use = a_picked use_of refl

pub call_use : (x : Expression) → is_call x ≡ true → use_of x ≡ Some (calling x)
call_use x h = ap (λ z. use_by x z (is_target x)) h

pub no_use : (x : Expression) → is_call x ≡ false → is_target x ≡ false → use_of x ≡ None
no_use x h k = ap (λ z. use_by x z (is_target x)) h ∙ ap (λ z. use_by x false z) k

pub put_use : (x : Expression) → is_target x ≡ true → use_of x ≡ Some (putting x)
put_use x h = ap (λ z. use_by x z (is_target x)) (not_both x h) ∙ ap (λ z. use_by x false z) h
  where
    not_both : (x : Expression) → is_target x ≡ true → is_call x ≡ false
    not_both (number_tree at n) h = refl
    not_both (truth at b) h = refl
    not_both (null at) h = refl
    not_both (this at) h = refl
    not_both (named at n) h = refl
    not_both (call at n es) h = absurd cc
    not_both (field at e n) h = refl
    not_both (method at e n es) h = absurd cc
    not_both (index at e i) h = refl
    not_both (unary at o e) h = refl
    not_both (binary at o a b) h = refl

-- what a use tells of its chain
pub data UseIs (x : Expression) : Use → Type 0 where
  is_calling : is_call x ≡ true → UseIs x (calling x)
  is_putting : is_target x ≡ true → UseIs x (putting x)

use_is : (x : Expression) (u : Use) → use_of x ≡ Some u → UseIs x u
use_is x u h = at (is_call x) (is_target x) refl refl h
  where
    at : (a b : Bool) → is_call x ≡ a → is_target x ≡ b → use_by x a b ≡ Some u → UseIs x u
    at true b e f h = let k : calling x ≡ u = cc in subst (λ z. UseIs x z) k (is_calling e)
    at false true e f h = let k : putting x ≡ u = cc in subst (λ z. UseIs x z) k (is_putting f)
    at false false e f h = absurd cc

abbrev pub chain_parts : Part Token Statement
chain_parts = a_use ⨾ λ u. used_part u

simple_join : (free : ℕ) (s r : List Token) (x : Statement) → chain_parts.D free s x r → Simple free s x r
simple_join free s r x (then c u) = at _ _ _ _ x r (use_is c.tree _ c.picked) c.it u
  where
    at : (s q : List Token) (y : Expression) (u : Use) (x : Statement) (r : List Token) → UseIs y u → OuterChain free s y q → Used u free q x r
        → Simple free s x r
    at s q y u x r (is_calling h) c (called e) = simple_call c h e
    at s q y u x r (is_putting h) c (put (assign_to d) e) = simple_put (assign_line (assigns c h d) e)

pub simple_split : (free : ℕ) (s r : List Token) (x : Statement) → Simple free s x r → chain_parts.C free s x r
simple_split free s r x (simple_call c h e) =
    upto (record { tree = _; it = record { it = c; stop = sign_gives (goes_on_of unary_level) Semicolon e }; picked = call_use _ h }) (called e)
simple_split free s r x (simple_put (assign_line (assigns c h d) e)) =
    upto (record { tree = _; it = record { it = c; stop = change_ended _ _ _ _ d }; picked = put_use _ h }) (put (assign_to d) e)

pub simple_answer : {s : List Token} {o : Answer Token Statement} → Exact chain_parts.D chain_parts.C s o → Exact Simple Simple s o
simple_answer d = exact_map simple_join simple_split d

chain_join : (depth free : ℕ) (s r : List Token) (x : Statement) → Simple free s x r → Stmt depth free s x r
chain_join depth free s r x (simple_call c h e) = a_call c h e
chain_join depth free s r x (simple_put d) = an_assign d

pub chain_split : (depth free : ℕ) (s r : List Token) (x : Statement)
    → Unseen (key Print) (Unseen (key Return) (Unseen (key For) (Unseen (key While) (Unseen (key If) (Unseen (sign OpenBrace) (Unseen (sign Semicolon) (StmtClosed depth))))))) free s x r
    → Simple free s x r
chain_split depth free s r x c = at s r x c.it.it.it.it.it.it.it.it c.unseen c.it.unseen c.it.it.unseen c.it.it.it.unseen c.it.it.it.it.unseen c.it.it.it.it.it.unseen c.it.it.it.it.it.it.unseen
  where
    at : (s r : List Token) (x : Statement) → Stmt depth free s x r → head_of (key Print) s ≡ None → head_of (key Return) s ≡ None → head_of (key For) s ≡ None
        → head_of (key While) s ≡ None → head_of (key If) s ≡ None → head_of (sign OpenBrace) s ≡ None → head_of (sign Semicolon) s ≡ None → Simple free s x r
    at s r x (nothing d) p t f w i b m = let g = sees_head (sign Semicolon) d in absurd cc
    at s r x (a_block n d y) p t f w i b m = let g = sees_head (sign OpenBrace) d in absurd cc
    at s r x (an_if n d o e c y) p t f w i b m = let g = sees_head (key If) d in absurd cc
    at s r x (an_if_else n d o e c y k l z) p t f w i b m = let g = sees_head (key If) d in absurd cc
    at s r x (a_while n d o e c y) p t f w i b m = let g = sees_head (key While) d in absurd cc
    at s r x (a_for n d o j e k a c y) p t f w i b m = let g = sees_head (key For) d in absurd cc
    at s r x (a_return d e k) p t f w i b m = let g = sees_head (key Return) d in absurd cc
    at s r x (a_print d o e c k) p t f w i b m = let g = sees_head (key Print) d in absurd cc
    at s r x (a_call c h e) p t f w i b m = simple_call c h e
    at s r x (an_assign d) p t f w i b m = simple_put d

pub chain_answer : (depth : ℕ) {s : List Token} {o : Answer Token Statement} → head_of (sign Semicolon) s ≡ None → head_of (sign OpenBrace) s ≡ None
    → head_of (key If) s ≡ None → head_of (key While) s ≡ None → head_of (key For) s ≡ None → head_of (key Return) s ≡ None
    → head_of (key Print) s ≡ None → Exact Simple Simple s o → Exact (Stmt depth) (StmtClosed depth) s o
chain_answer depth m b i w f t p d = unseen {want = sign Semicolon} m (unseen {want = sign OpenBrace} b (unseen {want = key If} i
    (unseen {want = key While} w (unseen {want = key For} f (unseen {want = key Return} t (unseen {want = key Print} p
    (exact_map (chain_join depth) (chain_split depth) d)))))))

-- a terminal that was read leaves less
pub shrinks_first : (k : Sign) {s q : List Token} {p : Place} → Exact (Unlimited (Sees (sign k))) (Unlimited (Sees (sign k))) s (Got p q) → length q < length s
shrinks_first k d = shrinks (λ free r x e. elim e [ ]) d

-- statements as a Vec and as a list
pub statements_are : (ss : List StmtNode) → statements_view ss ≡ statements (map statement_view ss)
statements_are [] = refl
statements_are (s ∷ ss) = ap (λ z. statement_and (statement_view s) z) (statements_are ss)

pub shut_of : {D C : Deriving Statement} {s q : List Token} {x : Statement} → ((free : ℕ) (s r : List Token) (x : Statement) → D free s x r → is_open x ≡ false)
    → Exact D C s (Got x q) → is_open x ≡ false
shut_of f d = f 0 _ _ _ (d.meets.reads 0 [])

-- the same of the answer of a call
pub tail_shut : {D C : Deriving Statement} {s : List Token} → ((free : ℕ) (s r : List Token) (x : Statement) → D free s x r → is_open x ≡ false)
    → (o : Result (Box StmtNode Global × Bor (List Token)) Fault) → Exact D C s (answer stmt_view o)
    → IfOk o (λ p. is_some (head_of (key Else) p.1.now) ≡ true → is_open (stmt_view p.0) ≡ false)
tail_shut f (Ok p) d = λ e. shut_of f d
tail_shut f (Err e) d = tt

-- statements that are not open
pub simple_shut : (free : ℕ) (s r : List Token) (x : Statement) → Simple free s x r → is_open x ≡ false
simple_shut free s r x (simple_call c h e) = refl
simple_shut free s r x (simple_put (assign_line (assigns c h d) e)) = refl

pub return_shut : (at : Place) (free : ℕ) (s r : List Token) (x : Statement) → ReturnRest at free s x r → is_open x ≡ false
return_shut at free s r x (return_rest e m) = refl

pub print_shut : (at : Place) (free : ℕ) (s r : List Token) (x : Statement) → PrintRest at free s x r → is_open x ≡ false
print_shut at free s r x (print_rest c m) = refl

-- what is put to a target ends before `;`
pub called_answer : {x : Expression} {s : List Token} {o : Answer Token Statement}
    → Exact (mark Semicolon ⨾ λ e. finish (call_statement (first_place x) x)).D (mark Semicolon ⨾ λ e. finish (call_statement (first_place x) x)).C s o
    → Exact (Used (calling x)) (Used (calling x)) s o
called_answer {x} d = exact_map join split d
  where
    join : (free : ℕ) (s r : List Token) (y : Statement) → (mark Semicolon ⨾ λ e. finish (call_statement (first_place x) x)).D free s y r → Used (calling x) free s y r
    join free s r y (then e done) = called e

    split : (free : ℕ) (s r : List Token) (y : Statement) → Used (calling x) free s y r → (mark Semicolon ⨾ λ e. finish (call_statement (first_place x) x)).C free s y r
    split free s r y (called e) = upto e done

abbrev pub put_parts : Expression → Part Token Statement
put_parts x = put_to x ⨾ λ y. mark Semicolon ⨾ λ e. finish y

pub put_answer : {x : Expression} {s : List Token} {o : Answer Token Statement} → Exact (put_parts x).D (put_parts x).C s o → Exact (Used (putting x)) (Used (putting x)) s o
put_answer {x} d = exact_map join split d
  where
    join : (free : ℕ) (s r : List Token) (y : Statement) → (put_parts x).D free s y r → Used (putting x) free s y r
    join free s r y (then c (then e done)) = put c e

    split : (free : ℕ) (s r : List Token) (y : Statement) → Used (putting x) free s y r → (put_parts x).C free s y r
    split free s r y (put c e) = upto (record { it = c; stop = ended_sign Semicolon e (λ at. refl) }) (upto e done)

-- a chain that is one name is followed by no `*`
chain_star : (t : Token) (s q r : List Token) (n : List ℕ × Place) (p : Place) (x : Expression) → name t ≡ Some n → Sees (sign Times) s p q
    → (free : ℕ) → OuterChain free (t ∷ s) x r → r ≡ s
chain_star t s q r n p x h d free c = at (t ∷ s) x refl (subst (λ z. Chain z x r) (sym c.cut) (c.derives r))
  where
    no_tail : (a b : Expression) (r : List Token) → Tail a s b r → ⊥
    no_tail a b r (field_tail e f) = let g = sign_gives (sign_of Arrow) Times d in let k = sees_head (sign Arrow) e in absurd cc
    no_tail a b r (method_tail e f y) = let g = sign_gives (sign_of Arrow) Times d in let k = sees_head (sign Arrow) e in absurd cc
    no_tail a b r (index_tail e f y) = let g = sign_gives (sign_of OpenBracket) Times d in let k = sees_head (sign OpenBracket) e in absurd cc

    no_tails : (a x : Expression) (u r : List Token) → u ≡ s → Tails a u x r → r ≡ s
    no_tails a x u r e tails_end = e
    no_tails a x u r e (tails_more {b = b} {s1 = v} k m) = absurd (no_tail a b v (subst (λ z. Tail a z b v) e k))

    behind : {A : Type 0} {want : Token → Option A} {a : A} (z u : List Token) → z ≡ t ∷ s → Sees want z a u → u ≡ s
    behind z u e (sees k) = cc

    at : (z : List Token) (x : Expression) → z ≡ t ∷ s → Chain z x r → r ≡ s
    at z x e (this_chain k m) = absurd (named_this z e k)
      where
        named_this : (z : List Token) {p : Place} {u : List Token} → z ≡ t ∷ s → Sees (key This) z p u → ⊥
        named_this z e k = let f = key_gives name_of This k in let g : head_of name z ≡ Some n = ap (head_of name) e ∙ h in absurd cc
    at z x e (name_chain k m) = no_tails _ _ _ _ (behind _ _ e k) m
    at z x e (call_chain k (args o l) m) = absurd (no_args _ (behind _ _ e k) o)
      where
        no_args : (u : List Token) {p : Place} {v : List Token} → u ≡ s → Sees (sign OpenParenthesis) u p v → ⊥
        no_args u e o = let f = sign_gives (sign_of OpenParenthesis) Times d in let g = sees_head (sign OpenParenthesis) o in let k : head_of (sign OpenParenthesis) u ≡ head_of (sign OpenParenthesis) s = ap (head_of (sign OpenParenthesis)) e in absurd cc

sees_star : (s : List Token) (p : Place) → head_of (sign Times) s ≡ Some p → (q : List Token) × Sees (sign Times) s p q
sees_star [] p h = absurd cc
sees_star (t ∷ s) p h = (s, sees h)

pub chain_not_star : (free : ℕ) (t : Token) (s q : List Token) (n : List ℕ × Place) (x : Expression) → name t ≡ Some n → OuterChain free (t ∷ s) x q
    → head_of (sign Times) q ≡ None → head_of (sign Times) s ≡ None
chain_not_star free t s q n x h c e = at (head_of (sign Times) s) refl
  where
    at : (o : Option Place) → head_of (sign Times) s ≡ o → head_of (sign Times) s ≡ None
    at None k = k
    at (Some p) k = let d = sees_star s p k in let f : q ≡ s = chain_star t s d.0 q n p x h d.1 free c in
        let g : head_of (sign Times) q ≡ head_of (sign Times) s = ap (head_of (sign Times)) f in absurd cc

change_not_star : (free : ℕ) (s r : List Token) (c : AssignOp × RightSide) → Change free s c r → head_of (sign Times) s ≡ None
change_not_star free s r c (puts a v) = sign_gives (sign_of Times) AssignSign a
change_not_star free s r c (increments d) = sign_gives (sign_of Times) Increment d
change_not_star free s r c (decrements d) = sign_gives (sign_of Times) Decrement d
change_not_star free s r c (changes o e) = compound_none (sign_of Times) (λ at. refl) o

line_not_star : (free : ℕ) (t : Token) (s r : List Token) (n : List ℕ × Place) (x : Statement) → name t ≡ Some n → AssignLine free (t ∷ s) x r
    → head_of (sign Times) s ≡ None
line_not_star free t s r n x h d = at (t ∷ s) r x refl d
  where
    at : (z r : List Token) (x : Statement) → z ≡ t ∷ s → AssignLine free z x r → head_of (sign Times) s ≡ None
    at z r x e (assign_line (assigns {s1 = q} {x = y} c k d) m) = chain_not_star free t s q n y h (subst (λ z. OuterChain free z y q) e c) (change_not_star _ _ _ _ d)

stmt_not_star : (depth free : ℕ) (t : Token) (s r : List Token) (n : List ℕ × Place) (x : Statement) → name t ≡ Some n → Stmt depth free (t ∷ s) x r
    → head_of (sign Times) s ≡ None
stmt_not_star depth free t s r n x h d = at (t ∷ s) r x refl d
  where
    not_named : (z : List Token) → z ≡ t ∷ s → head_of name z ≡ None → ⊥
    not_named z e g = let k : head_of name z ≡ Some n = ap (head_of name) e ∙ h in absurd cc

    at : (z r : List Token) (x : Statement) → z ≡ t ∷ s → Stmt depth free z x r → head_of (sign Times) s ≡ None
    at z r x e (an_assign a) = line_not_star free t s r n x h (subst (λ y. AssignLine free y x r) e a)
    at z r x e (a_call {s1 = q} {x = y} c k m) = chain_not_star free t s q n y h (subst (λ z. OuterChain free z y q) e c) (sign_gives (sign_of Times) Semicolon m)
    at z r x e (nothing d) = absurd (not_named z e (sign_gives name_of Semicolon d))
    at z r x e (a_block m d i) = absurd (not_named z e (sign_gives name_of OpenBrace d))
    at z r x e (an_if m d o y c w) = absurd (not_named z e (key_gives name_of If d))
    at z r x e (an_if_else m d o y c w k l v) = absurd (not_named z e (key_gives name_of If d))
    at z r x e (a_while m d o y c w) = absurd (not_named z e (key_gives name_of While d))
    at z r x e (a_for m d o i y k a c w) = absurd (not_named z e (key_gives name_of For d))
    at z r x e (a_return d y m) = absurd (not_named z e (key_gives name_of Return d))
    at z r x e (a_print d o y c m) = absurd (not_named z e (key_gives name_of Print d))

-- a statement and an assignment as what is no local
abbrev stepped : List ℕ × Place → Statement
stepped n = assign n.1 (named n.1 n.0) Add (value (number_tree start (pos 1)))

abbrev step : List Token
step = token (SignKind Increment) ∷ token (SignKind Semicolon) ∷ []

named_use : (t : Token) (n : List ℕ × Place) → name t ≡ Some n → AssignLine 0 (t ∷ step) (stepped n) []
named_use t n h = assign_line (assigns (record {
  front = t ∷ [];
  cut = refl;
  derives = λ r. name_chain (sees h) tails_end;
  within = inl (omega arith);
}) refl (increments (sees refl))) (sees refl)

-- nothing is derived from no tokens
pub nothing_seen : {A : Type 0} {want : Token → Option A} {a : A} {r : List Token} (z : List Token) → z ≡ [] → Sees want z a r → ⊥
nothing_seen z e (sees h) = absurd cc

no_chain : (free : ℕ) (z : List Token) (x : Expression) (q : List Token) → z ≡ [] → OuterChain free z x q → ⊥
no_chain free z x q e c = at (c.front ++ q) x q (sym c.cut ∙ e) (c.derives q)
  where
    at : (z : List Token) (x : Expression) (q : List Token) → z ≡ [] → Chain z x q → ⊥
    at z x q e (this_chain k m) = nothing_seen z e k
    at z x q e (name_chain k m) = nothing_seen z e k
    at z x q e (call_chain k a m) = nothing_seen z e k

pub no_type : (free : ℕ) (z r : List Token) (ty : TypeNode × Place) → z ≡ [] → TypeName free z ty r → ⊥
no_type free z r ty e (long d) = nothing_seen z e d
no_type free z r ty e (bool d) = nothing_seen z e d
no_type free z r ty e (pointer n t) = nothing_seen z e n

no_line_at : (free : ℕ) (z r : List Token) (x : Statement) → z ≡ [] → AssignLine free z x r → ⊥
no_line_at free z r x e (assign_line (assigns c k d) m) = no_chain free z _ _ e c

no_local : (free : ℕ) (z r : List Token) (x : Statement) → z ≡ [] → Local free z x r → ⊥
no_local free z r x e (declares t n m) = no_type free z _ _ e t
no_local free z r x e (begins t n a v m) = no_type free z _ _ e t

no_line : (x : Statement) → AssignLine 0 [] x [] → ⊥
no_line x d = no_line_at 0 [] [] x refl d

no_stmt_at : (depth free : ℕ) (z r : List Token) (x : Statement) → z ≡ [] → Stmt depth free z x r → ⊥
no_stmt_at depth free z r x e (an_assign d) = no_line_at free z r x e d
no_stmt_at depth free z r x e (a_call c k m) = no_chain free z _ _ e c
no_stmt_at depth free z r x e (nothing d) = nothing_seen z e d
no_stmt_at depth free z r x e (a_block m d i) = nothing_seen z e d
no_stmt_at depth free z r x e (an_if m d o y c w) = nothing_seen z e d
no_stmt_at depth free z r x e (an_if_else m d o y c w k l v) = nothing_seen z e d
no_stmt_at depth free z r x e (a_while m d o y c w) = nothing_seen z e d
no_stmt_at depth free z r x e (a_for m d o i y k a c w) = nothing_seen z e d
no_stmt_at depth free z r x e (a_return d y m) = nothing_seen z e d
no_stmt_at depth free z r x e (a_print d o y c m) = nothing_seen z e d

no_stmt : (depth : ℕ) (x : Statement) → Stmt depth 0 [] x [] → ⊥
no_stmt depth x d = no_stmt_at depth 0 [] [] x refl d

pub no_item : (depth free : ℕ) (r : List Token) (x : Statement) → Item depth free [] x r → ⊥
no_item depth free r x (a_local d) = no_local free [] r x refl d
no_item depth free r x (a_statement d) = no_stmt_at depth free [] r x refl d

pub other_line : Other AssignLine AssignLine
other_line = record {
  not_long = λ free s r x d. assign_front (key_of LongKey) (λ p. refl) (λ n p. refl) _ _ _ _ d;
  not_bool = λ free s r x d. assign_front (key_of BoolKey) (λ p. refl) (λ n p. refl) _ _ _ _ d;
  not_star = λ free t s r n x h d. line_not_star free t s r n x h d;
  from_name = λ t n h. record { more = step; rest = []; tree = stepped n; it = named_use t n h; not_empty = no_line };
}

pub other_statement : (depth : ℕ) → Other (Stmt depth) (StmtClosed depth)
other_statement depth = record {
  not_long = λ free s r x d. stmt_not_long _ _ _ _ _ d.it;
  not_bool = λ free s r x d. stmt_not_bool _ _ _ _ _ d.it;
  not_star = λ free t s r n x h d. stmt_not_star depth free t s r n x h d.it;
  from_name = λ t n h. record { more = step; rest = []; tree = stepped n; it = shut_here refl (an_assign (named_use t n h)); not_empty = no_stmt depth };
}

-- an item and the first part of a `for`
item_join : (depth free : ℕ) (s r : List Token) (x : Statement) → LocalOr (Stmt depth) free s x r → Item depth free s x r
item_join depth free s r x (or_local d) = a_local d
item_join depth free s r x (another d) = a_statement d

pub item_split : (depth free : ℕ) (s r : List Token) (x : Statement) → ItemClosed depth free s x r → LocalOr (StmtClosed depth) free s x r
item_split depth free s r x c = at s r x c.it c.shut
  where
    at : (s r : List Token) (x : Statement) → Item depth free s x r → (is_some (head_of (key Else) r) ≡ true → is_open x ≡ false)
        → LocalOr (StmtClosed depth) free s x r
    at s r x (a_local d) f = or_local d
    at s r x (a_statement d) f = another (record { it = d; shut = f })

pub item_answer : (depth : ℕ) {s : List Token} {o : Answer Token Statement} → Exact (LocalOr (Stmt depth)) (LocalOr (StmtClosed depth)) s o
    → Exact (Item depth) (ItemClosed depth) s o
item_answer depth d = exact_map (item_join depth) (item_split depth) d

first_join : (free : ℕ) (s r : List Token) (x : Statement) → LocalOr AssignLine free s x r → First free s x r
first_join free s r x (or_local d) = first_local d
first_join free s r x (another d) = first_assign d

pub first_split : (free : ℕ) (s r : List Token) (x : Statement) → First free s x r → LocalOr AssignLine free s x r
first_split free s r x (first_local d) = or_local d
first_split free s r x (first_assign d) = another d

pub first_answer : {s : List Token} {o : Answer Token Statement} → Exact (LocalOr AssignLine) (LocalOr AssignLine) s o → Exact First First s o
first_answer d = exact_map first_join first_split d
