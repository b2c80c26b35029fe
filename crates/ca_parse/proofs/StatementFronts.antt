-- What statements and items begin with, and items as lines.
use Rattle.std.proofs.Common.{◌≡◌, ℕ, List, [], ◌∷◌, true, false, Option, None, is_some, refl, ◌∙◌, ap}
use Rattle.ca_descent.specs.Exact.{Answer, Exact, sees, head_of}
use Rattle.ca_descent.proofs.Exact.{exact_map}
use Rattle.ca_descent.proofs.Parts.{Part}
use Rattle.ca_tree.specs.declared.name.Place.{Place}
use Rattle.ca_tree.specs.declared.token.Token.{Token}
use Rattle.ca_tree.specs.declared.token.Kind.{Kind}
use Rattle.ca_tree.specs.declared.token.Kind.TheVariants.{Word}
use Rattle.ca_tree.specs.declared.token.Kind.TheVariants.{Key as KeyKind, Sign as SignKind}
use Rattle.ca_tree.specs.declared.token.Keyword.{Keyword}
use Rattle.ca_tree.specs.declared.token.Keyword.TheVariants.{Long as LongKey, Bool as BoolKey, If, Else, While, For, Return, Print, This}
use Rattle.ca_tree.specs.declared.token.Sign.TheVariants.{OpenBrace, CloseBrace, Semicolon}
use Rattle.ca_tree.specs.declared.tree.TypeNode.{TypeNode}
use Rattle.ca_tree.specs.Plain.{Expression, Statement, empty}
use Rattle.ca_expressions.specs.Terminals.{key, key_of, sign, sign_of}
use Rattle.ca_expressions.specs.Grammar.{OuterChain}
use Rattle.ca_expressions.proofs.Terminals.{test, token, start, key_gives, sign_gives, name_gives}
use Rattle.ca_parse.specs.Grammar.{Deriving, TypeName, long, bool, pointer, Local, declares, begins, assigns, AssignLine, assign_line, Stmt, nothing, a_block, an_assign, a_call, an_if, an_if_else, a_while, a_for, a_return, a_print, Item, a_local, a_statement, Items, items_end, items_and, Lines, lines_end, lines_and, One, one, is_open}
use Rattle.ca_parse.specs.clauses.Closed.{Shut, StmtClosed, ItemClosed}
use Rattle.ca_parse.proofs.Lines.{Closing}
use Rattle.ca_expressions.proofs.Outer.{outer_chain_begins}

-- statements as parts; `;` is one
abbrev pub a_stmt : ℕ → Part Token Statement
a_stmt depth = record {
  D = Stmt depth;
  C = StmtClosed depth;
  some = record { more = token (SignKind Semicolon) ∷ []; tree = empty start; reads = λ free r h. nothing (sees refl) };
}

pub shut_here : {D : Deriving Statement} {free : ℕ} {s r : List Token} {x : Statement} → is_open x ≡ false → D free s x r → Shut D free s x r
shut_here h d = record { it = d; shut = λ e. h }

-- the first token of a statement gives nothing to the test f
pub record Starts {A : Type 0} (f : Kind → Place → Option A) : Type 0 where
  pub semicolon : (p : Place) → f (SignKind Semicolon) p ≡ None
  pub brace : (p : Place) → f (SignKind OpenBrace) p ≡ None
  pub if_word : (p : Place) → f (KeyKind If) p ≡ None
  pub while_word : (p : Place) → f (KeyKind While) p ≡ None
  pub for_word : (p : Place) → f (KeyKind For) p ≡ None
  pub return_word : (p : Place) → f (KeyKind Return) p ≡ None
  pub print_word : (p : Place) → f (KeyKind Print) p ≡ None
  pub this_word : (p : Place) → f (KeyKind This) p ≡ None
  pub a_word : (n : List ℕ) (p : Place) → f (Word n) p ≡ None

-- the first token of a chain does not
pub chain_front : {A : Type 0} (f : Kind → Place → Option A) → ((p : Place) → f (KeyKind This) p ≡ None)
    → ((n : List ℕ) (p : Place) → f (Word n) p ≡ None) → (free : ℕ) (s r : List Token) (x : Expression) → OuterChain free s x r
    → head_of (test f) s ≡ None
chain_front f this_f word_f = outer_chain_begins f (record { word = word_f; this = this_f })

pub assign_front : {A : Type 0} (f : Kind → Place → Option A) → ((p : Place) → f (KeyKind This) p ≡ None)
    → ((n : List ℕ) (p : Place) → f (Word n) p ≡ None) → (free : ℕ) (s r : List Token) (x : Statement) → AssignLine free s x r
    → head_of (test f) s ≡ None
assign_front f this_f word_f free s r x (assign_line (assigns c t d) e) = chain_front f this_f word_f _ _ _ _ c

pub stmt_front : {A : Type 0} (f : Kind → Place → Option A) → Starts f → (depth free : ℕ) (s r : List Token) (x : Statement)
    → Stmt depth free s x r → head_of (test f) s ≡ None
stmt_front f p depth free s r x (nothing d) = sign_gives f Semicolon d ∙ p.semicolon _
stmt_front f p depth free s r x (a_block n d i) = sign_gives f OpenBrace d ∙ p.brace _
stmt_front f p depth free s r x (an_assign a) = assign_front f p.this_word p.a_word _ _ _ _ a
stmt_front f p depth free s r x (a_call c t e) = chain_front f p.this_word p.a_word _ _ _ _ c
stmt_front f p depth free s r x (an_if n d o e c y) = key_gives f If d ∙ p.if_word _
stmt_front f p depth free s r x (an_if_else n d o e c y h k z) = key_gives f If d ∙ p.if_word _
stmt_front f p depth free s r x (a_while n d o e c y) = key_gives f While d ∙ p.while_word _
stmt_front f p depth free s r x (a_for n d o i e m a c y) = key_gives f For d ∙ p.for_word _
stmt_front f p depth free s r x (a_return d e m) = key_gives f Return d ∙ p.return_word _
stmt_front f p depth free s r x (a_print d o e c m) = key_gives f Print d ∙ p.print_word _

starts_key : (k : Keyword) → ((p : Place) → key_of k (KeyKind If) p ≡ None) → ((p : Place) → key_of k (KeyKind While) p ≡ None)
    → ((p : Place) → key_of k (KeyKind For) p ≡ None) → ((p : Place) → key_of k (KeyKind Return) p ≡ None)
    → ((p : Place) → key_of k (KeyKind Print) p ≡ None) → ((p : Place) → key_of k (KeyKind This) p ≡ None) → Starts (key_of k)
starts_key k a b c d e f = record {
  semicolon = λ p. refl;
  brace = λ p. refl;
  if_word = a;
  while_word = b;
  for_word = c;
  return_word = d;
  print_word = e;
  this_word = f;
  a_word = λ n p. refl;
}

pub stmt_not_long : (depth free : ℕ) (s r : List Token) (x : Statement) → Stmt depth free s x r → head_of (key LongKey) s ≡ None
stmt_not_long = stmt_front (key_of LongKey) (starts_key LongKey (λ p. refl) (λ p. refl) (λ p. refl) (λ p. refl) (λ p. refl) (λ p. refl))

pub stmt_not_bool : (depth free : ℕ) (s r : List Token) (x : Statement) → Stmt depth free s x r → head_of (key BoolKey) s ≡ None
stmt_not_bool = stmt_front (key_of BoolKey) (starts_key BoolKey (λ p. refl) (λ p. refl) (λ p. refl) (λ p. refl) (λ p. refl) (λ p. refl))

pub stmt_not_else : (depth free : ℕ) (s r : List Token) (x : Statement) → Stmt depth free s x r → head_of (key Else) s ≡ None
stmt_not_else = stmt_front (key_of Else) (starts_key Else (λ p. refl) (λ p. refl) (λ p. refl) (λ p. refl) (λ p. refl) (λ p. refl))

stmt_not_close : (depth free : ℕ) (s r : List Token) (x : Statement) → Stmt depth free s x r → head_of (sign CloseBrace) s ≡ None
stmt_not_close = stmt_front (sign_of CloseBrace) (record {
  semicolon = λ p. refl;
  brace = λ p. refl;
  if_word = λ p. refl;
  while_word = λ p. refl;
  for_word = λ p. refl;
  return_word = λ p. refl;
  print_word = λ p. refl;
  this_word = λ p. refl;
  a_word = λ n p. refl;
})

-- the first token of a local
pub type_front : {A : Type 0} (f : Kind → Place → Option A) → ((p : Place) → f (KeyKind LongKey) p ≡ None) → ((p : Place) → f (KeyKind BoolKey) p ≡ None)
    → ((n : List ℕ) (p : Place) → f (Word n) p ≡ None) → (free : ℕ) (s r : List Token) (ty : TypeNode × Place) → TypeName free s ty r → head_of (test f) s ≡ None
type_front f l b w free s r ty (long d) = key_gives f LongKey d ∙ l _
type_front f l b w free s r ty (bool d) = key_gives f BoolKey d ∙ b _
type_front f l b w free s r ty (pointer n t) = name_gives f n ∙ w _ _

local_front : {A : Type 0} (f : Kind → Place → Option A) → ((p : Place) → f (KeyKind LongKey) p ≡ None) → ((p : Place) → f (KeyKind BoolKey) p ≡ None)
    → ((n : List ℕ) (p : Place) → f (Word n) p ≡ None) → (free : ℕ) (s r : List Token) (x : Statement) → Local free s x r
    → head_of (test f) s ≡ None
local_front f l b w free s r x (declares t n e) = type_front f l b w _ _ _ _ t
local_front f l b w free s r x (begins t n a v e) = type_front f l b w _ _ _ _ t

pub item_not_else : (depth free : ℕ) (s r : List Token) (x : Statement) → Item depth free s x r → head_of (key Else) s ≡ None
item_not_else depth free s r x (a_local l) = local_front (key_of Else) (λ p. refl) (λ p. refl) (λ n p. refl) _ _ _ _ l
item_not_else depth free s r x (a_statement d) = stmt_not_else _ _ _ _ _ d

pub item_not_close : (depth free : ℕ) (s r : List Token) (x : Statement) → Item depth free s x r → head_of (sign CloseBrace) s ≡ None
item_not_close depth free s r x (a_local l) = local_front (sign_of CloseBrace) (λ p. refl) (λ p. refl) (λ n p. refl) _ _ _ _ l
item_not_close depth free s r x (a_statement d) = stmt_not_close _ _ _ _ _ d

-- items up to a brace are lines of one item each
items_lines : (depth free : ℕ) (s r : List Token) (xs : List Statement) → Items depth free s xs r → Lines (One (Item depth)) (sign CloseBrace) free s xs r
items_lines depth free s r xs (items_end c) = lines_end c
items_lines depth free s r xs (items_and i m) = lines_and (one i) (items_lines _ _ _ _ _ m)

lines_items : (depth free : ℕ) (s r : List Token) (xs : List Statement) → Lines (One (Item depth)) (sign CloseBrace) free s xs r → Items depth free s xs r
lines_items depth free s r xs (lines_end c) = items_end c
lines_items depth free s r xs (lines_and (one i) m) = items_and i (lines_items _ _ _ _ _ m)

pub items_answer : {depth : ℕ} {s : List Token} {o : Answer Token (List Statement)}
    → Exact (Lines (One (Item depth)) (sign CloseBrace)) (Lines (One (Item depth)) (sign CloseBrace)) s o → Exact (Items depth) (Items depth) s o
items_answer {depth} d = exact_map (lines_items depth) (items_lines depth) d

-- what follows an item is no `else`
pub no_else : (s : List Token) → head_of (key Else) s ≡ None → (x : Statement) → is_some (head_of (key Else) s) ≡ true → is_open x ≡ false
no_else s h x e = let f : is_some (head_of (key Else) s) ≡ false = ap is_some h in absurd cc

-- items of D up to a brace as lines of one item each: one before an item or the brace is one of C
pub one_lines : {A : Type 0} {D C : Deriving A} → ((free : ℕ) (s r : List Token) (x : A) → D free s x r → head_of (key Else) s ≡ None)
    → ((free : ℕ) (s r : List Token) (x : A) → D free s x r → head_of (sign CloseBrace) s ≡ None)
    → ((free : ℕ) (s r : List Token) (x : A) → D free s x r → head_of (key Else) r ≡ None → C free s x r)
    → Closing (One D) (One C) (sign CloseBrace)
one_lines {A} {D} {C} not_else not_close closed = record {
  before = before;
  begins = begins_so;
  token = token (SignKind CloseBrace);
  carried = start;
  closes = refl;
}
  where
    lines_not_else : (free : ℕ) (s r : List Token) (xs : List A) → Lines (One D) (sign CloseBrace) free s xs r → head_of (key Else) s ≡ None
    lines_not_else free s r xs (lines_end c) = sign_gives (key_of Else) CloseBrace c
    lines_not_else free s r xs (lines_and (one i) m) = not_else _ _ _ _ i

    before : (free : ℕ) (s q r : List Token) (xs ys : List A) → One D free s xs q → Lines (One D) (sign CloseBrace) free q ys r → One C free s xs q
    before free s q r xs ys (one i) m = one (closed _ _ _ _ i (lines_not_else free q r ys m))

    begins_so : (free : ℕ) (s r : List Token) (xs : List A) → One D free s xs r → head_of (sign CloseBrace) s ≡ None
    begins_so free s r xs (one i) = not_close _ _ _ _ i

pub item_lines : (depth : ℕ) → Closing (One (Item depth)) (One (ItemClosed depth)) (sign CloseBrace)
item_lines depth = one_lines (item_not_else depth) (item_not_close depth) (λ free s r x i h. record { it = i; shut = no_else r h x })
