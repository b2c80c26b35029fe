-- Every derivation of tokens is the only one, so they derive one tree.
use Rattle.std.proofs.Common.{◌≡◌, ◌+◌, ℕ, ℤ, List, [], ◌∷◌, Bool, true, false, Option, Some, None, is_some, refl, sym, ◌∙◌, ap, subst}
use Rattle.ca_descent.specs.Exact.{Sees, sees, head_of, Separated, separated_none, separated, Following, following_end, following}
use Rattle.ca_descent.proofs.Exact.{sees_head}
use Rattle.ca_descent.proofs.Separated.{Punctuated}
use Rattle.ca_tree.specs.declared.name.Place.{Place}
use Rattle.ca_tree.specs.declared.token.Token.{Token}
use Rattle.ca_tree.specs.declared.token.Kind.TheVariants.{Key as KeyKind}
use Rattle.ca_tree.specs.declared.token.Keyword.{Keyword}
use Rattle.ca_tree.specs.declared.token.Keyword.TheVariants.{This, Long as LongKey, Bool as BoolKey, Void, If, Else, While, For, Return, New, Print}
use Rattle.ca_tree.specs.declared.token.Sign.{Sign}
use Rattle.ca_tree.specs.declared.token.Sign.TheVariants.{OpenBrace, CloseBrace, OpenParenthesis, CloseParenthesis, OpenBracket, Semicolon, Comma, Times, Assign as AssignSign, Increment, Decrement}
use Rattle.ca_tree.specs.declared.tree.TypeNode.{TypeNode}
use Rattle.ca_tree.specs.declared.tree.AssignOp.{AssignOp}
use Rattle.ca_tree.specs.declared.tree.ParamNode.{ParamNode}
use Rattle.ca_tree.specs.Operators.{unary_level}
use Rattle.ca_tree.specs.Plain.{Expression, RightSide, Statement, MemberTree, ClassTree, TextTree, call_statement, if_only}
use Rattle.ca_expressions.specs.Terminals.{key, key_of, sign, sign_of, goes_on, goes_on_of}
use Rattle.ca_expressions.specs.Grammar.{OuterChain}
use Rattle.ca_expressions.proofs.Terminals.{sign_gives, name_gives}
use Rattle.ca_parse.specs.Grammar.{Deriving, TypeName, long, bool, pointer, Right, expression, creation, creation_call, Local, declares, begins, Change, puts, changes, increments, decrements, Assign, assigns, AssignLine, assign_line, First, first_local, first_assign, Stmt, nothing, a_block, an_assign, a_call, an_if, an_if_else, a_while, a_for, a_return, a_print, Item, a_local, a_statement, Items, items_end, items_and, Lines, One, one, Param, param, Signature, signature, Length, scalar, array, Further, further_plain, further_pointer, Member, fields, operation, value_method, Declaration, forward, a_class, read, is_return_zero, MainItem, kept, Program, program, is_open, first_place, DerivesFree}
use Rattle.ca_parse.specs.clauses.Closed.{RightClosed, ChangeClosed, AssignClosed, StmtClosed, ItemClosed, LengthClosed, Condition, condition, Otherwise, with_else, without, OtherwiseClosed, Simple, simple_call, simple_put, calling, putting, Used, called, put, AssignToClosed, Named, NamedClosed, named_field, FurtherClosed, MainItemClosed, main_closed, MainBody}
use Rattle.ca_parse.proofs.Alone.{Alone, exact_alone, sees_alone, then_alone, done_alone, fewer_alone, picked_alone, lines_alone, one_alone}
use Rattle.ca_parse.proofs.OneExpression.{expression_alone as value_alone, chain_alone as target_alone}
use Rattle.ca_parse.proofs.Locals.{TypeFront, front_long, front_bool, front_name, local_front, LocalOr, a_local as or_local, another, Other}
use Rattle.ca_parse.proofs.Compounds.{compound_none}
use Rattle.ca_parse.proofs.AssignRules.{long_alone, bool_alone, pointer_alone, expression_alone, expression_not_new, creation_alone, created_alone, created_call_alone, no_bracket, bare_alone, valued_alone, local_alone, puts_alone, increments_alone, decrements_alone, changes_alone, assign_to_alone, change_ended, ended_sign, is_targeted, assign_alone, assign_line_alone}
use Rattle.ca_parse.proofs.StatementRules.{nothing_alone, block_alone, if_alone, while_alone, for_alone, return_alone, print_alone, return_rest_alone, print_rest_alone, condition_split, if_rest_split, while_rest_split, for_rest_split, branch_shut, else_split}
use Rattle.ca_parse.proofs.ChainStatements.{simple_split, chain_split, call_use, put_use, other_line, other_statement, first_split, item_split}
use Rattle.ca_parse.proofs.StatementFronts.{chain_front, assign_front, item_not_else, item_not_close, no_else, type_front}
use Rattle.ca_parse.proofs.MemberRules.{param_alone, param_rule, signature_alone, array_alone, named_split, further_rule, following_not_bracket, length_not_bracket, method_of_alone, method_rest_alone, field_rest_alone, operation_alone, typed_alone, member_lines, forward_rest_alone, class_rest_alone, declaration_alone, declaration_lines, scalar_answer}
use Rattle.ca_parse.proofs.TextRules.{main_lines, main_item_of, main_body_split, program_alone}

type_tells : (free : ℕ) (s r : List Token) (ty : TypeNode × Place) → TypeName free s ty r → Alone TypeName s ty r
type_tells free s r ty (long d) = long_alone (sees_head (key LongKey) d) (then_alone (sees_alone d) done_alone)
type_tells free s r ty (bool d) = bool_alone (sees_head (key BoolKey) d) (then_alone (sees_alone d) done_alone)
type_tells free s r ty (pointer n t) = pointer_alone (name_gives (key_of LongKey) n) (name_gives (key_of BoolKey) n)
    (then_alone (sees_alone n) (then_alone (sees_alone t) done_alone))

right_tells : (free : ℕ) (s r : List Token) (x : RightSide) → Right free s x r → head_of (goes_on 0) r ≡ None → Alone RightClosed s x r
right_tells free s r x (expression e) h = expression_alone (expression_not_new _ _ _ _ e) (then_alone (value_alone _ _ _ _ e h) done_alone)
right_tells free s r x (creation w n) h = creation_alone (sees_head (key New) w) (then_alone (sees_alone w) (then_alone (sees_alone n)
    (created_alone _ (no_bracket r h) done_alone)))
right_tells free s r x (creation_call w n o c) h = creation_alone (sees_head (key New) w) (then_alone (sees_alone w) (then_alone (sees_alone n)
    (created_call_alone _ (sees_head (sign OpenParenthesis) o) (then_alone (sees_alone o) (then_alone (sees_alone c) done_alone)))))

local_tells : (free : ℕ) (s r : List Token) (x : Statement) → Local free s x r → Alone Local s x r
local_tells free s r x (declares t n e) = local_alone (then_alone (type_tells _ _ _ _ t) (then_alone (sees_alone n)
    (bare_alone _ _ (sign_gives (sign_of AssignSign) Semicolon e) (then_alone (sees_alone e) done_alone))))
local_tells free s r x (begins t n a v e) = local_alone (then_alone (type_tells _ _ _ _ t) (then_alone (sees_alone n)
    (valued_alone _ _ (sees_head (sign AssignSign) a) (then_alone (sees_alone a)
    (then_alone (right_tells _ _ _ _ v (ended_sign Semicolon e (λ at. refl))) (then_alone (sees_alone e) done_alone))))))

change_tells : (free : ℕ) (s r : List Token) (c : AssignOp × RightSide) → Change free s c r → head_of (goes_on 0) r ≡ None → Alone ChangeClosed s c r
change_tells free s r c (puts a v) h = puts_alone (sees_head (sign AssignSign) a) (then_alone (sees_alone a) (then_alone (right_tells _ _ _ _ v h) done_alone))
change_tells free s r c (increments d) h = increments_alone (sees_head (sign Increment) d) (then_alone (sees_alone d) done_alone)
change_tells free s r c (decrements d) h = decrements_alone (sees_head (sign Decrement) d) (then_alone (sees_alone d) done_alone)
change_tells free s r c (changes o e) h = changes_alone (compound_none (sign_of AssignSign) (λ at. refl) o) (compound_none (sign_of Increment) (λ at. refl) o)
    (compound_none (sign_of Decrement) (λ at. refl) o) (then_alone (sees_alone o) (then_alone (value_alone _ _ _ _ e h) done_alone))

assign_tells : (free : ℕ) (s r : List Token) (x : Statement) → Assign free s x r → head_of (goes_on 0) r ≡ None → Alone AssignClosed s x r
assign_tells free s r x (assigns c t d) h = assign_alone (then_alone (picked_alone (is_targeted _ t) (target_alone _ _ _ _ c (change_ended _ _ _ _ d)))
    (assign_to_alone _ (then_alone (change_tells _ _ _ _ d h) done_alone)))

line_tells : (free : ℕ) (s r : List Token) (x : Statement) → AssignLine free s x r → Alone AssignLine s x r
line_tells free s r x (assign_line a e) = assign_line_alone (then_alone (assign_tells _ _ _ _ a (ended_sign Semicolon e (λ at. refl)))
    (then_alone (sees_alone e) done_alone))

-- a local is nothing else
module _ {D C : Deriving Statement} (other : Other D C) where
  not_other : (free : ℕ) (s r : List Token) (x : Statement) → TypeFront s → C free s x r → ⊥
  not_other free s r x (front_long d) c = let f = other.not_long free s r x c in let g = sees_head (key LongKey) d in absurd cc
  not_other free s r x (front_bool d) c = let f = other.not_bool free s r x c in let g = sees_head (key BoolKey) d in absurd cc
  not_other free s r x (front_name (sees {t = t} {a = n} {r = q} h) e) c =
      let f = other.not_star free t q r n x h c in let g = sees_head (sign Times) e in absurd cc

  local_or_tells : (free : ℕ) (s r : List Token) (x : Statement) → Local free s x r → Alone (LocalOr C) s x r
  local_or_tells free s r x l = record { only = λ free' q y d. at free' s q y (local_front _ _ _ _ l) (local_tells _ _ _ _ l) d }
    where
      at : (free' : ℕ) (s' q : List Token) (y : Statement) → TypeFront s' → Alone Local s' x r → LocalOr C free' s' y q → (y ≡ x) × (q ≡ r)
      at free' s' q y t a (or_local d) = a.only free' q y d
      at free' s' q y t a (another d) = absurd (not_other free' s' q y t d)

  other_tells : (free : ℕ) (s r : List Token) (x : Statement) → C free s x r → Alone C s x r → Alone (LocalOr C) s x r
  other_tells free s r x c a = record { only = λ free' q y d. at free' s q y c a d }
    where
      at : (free' : ℕ) (s' q : List Token) (y : Statement) → C free s' x r → Alone C s' x r → LocalOr C free' s' y q → (y ≡ x) × (q ≡ r)
      at free' s' q y c a (or_local d) = absurd (not_other free s' r x (local_front _ _ _ _ d) c)
      at free' s' q y c a (another d) = a.only free' q y d

first_tells : (free : ℕ) (s r : List Token) (x : Statement) → First free s x r → Alone First s x r
first_tells free s r x (first_local l) = fewer_alone (λ free q y c. first_split free s q y c) (local_or_tells other_line _ _ _ _ l)
first_tells free s r x (first_assign d) = fewer_alone (λ free q y c. first_split free s q y c) (other_tells other_line _ _ _ _ d (line_tells _ _ _ _ d))

condition_tells : (free : ℕ) (s r : List Token) (x : Expression) → Condition free s x r → Alone Condition s x r
condition_tells free s r x (condition o e c) = fewer_alone (λ free q y d. condition_split free s q y d)
    (then_alone (sees_alone o) (then_alone (value_alone _ _ _ _ e (ended_sign CloseParenthesis c (λ at. refl))) (then_alone (sees_alone c) done_alone)))

-- statements that begin with a chain
used_call : (x : Expression) (s r : List Token) (e : Place) → Sees (sign Semicolon) s e r → Alone (Used (calling x)) s (call_statement (first_place x) x) r
used_call x s r e d = record { only = λ free q y c. at free s q y (sees_alone d) c }
  where
    at : (free : ℕ) (s' q : List Token) (y : Statement) → Alone (λ free. Sees (sign Semicolon)) s' e r → Used (calling x) free s' y q
        → (y ≡ call_statement (first_place x) x) × (q ≡ r)
    at free s' q y a (called d) = (refl, (a.only free q _ d).1)

used_put : (x : Expression) (s m r : List Token) (y : Statement) (e : Place) → Alone (AssignToClosed x) s y m → Sees (sign Semicolon) m e r
    → Alone (Used (putting x)) s y r
used_put x s m r y e a d = record { only = λ free q z c. at free s q z a c }
  where
    at : (free : ℕ) (s' q : List Token) (z : Statement) → Alone (AssignToClosed x) s' y m → Used (putting x) free s' z q → (z ≡ y) × (q ≡ r)
    at free s' q z a (put {s1 = m'} {e = e'} c k) =
        let g = a.only free m' z (record { it = c; stop = ended_sign Semicolon k (λ at. refl) }) in
        (g.0, ((sees_alone d).only free q e' (subst (λ w. Sees (sign Semicolon) w e' q) g.1 k)).1)

simple_tells : (free : ℕ) (s r : List Token) (x : Statement) → Simple free s x r → Alone Simple s x r
simple_tells free s r x (simple_call c h e) = fewer_alone (λ free q y d. simple_split free s q y d)
    (then_alone (picked_alone (call_use _ h) (target_alone _ _ _ _ c (sign_gives (goes_on_of unary_level) Semicolon e))) (used_call _ _ _ _ e))
simple_tells free s r x (simple_put (assign_line (assigns c h d) e)) = fewer_alone (λ free q y k. simple_split free s q y k)
    (then_alone (picked_alone (put_use _ h) (target_alone _ _ _ _ c (change_ended _ _ _ _ d)))
    (used_put _ _ _ _ _ _ (assign_to_alone _ (then_alone (change_tells _ _ _ _ d (ended_sign Semicolon e (λ at. refl))) done_alone)) e))

-- a first token that no other statement has
plain_tells : (depth free : ℕ) (s r : List Token) (x : Statement) → head_of (sign Semicolon) s ≡ None → head_of (sign OpenBrace) s ≡ None
    → head_of (key If) s ≡ None → head_of (key While) s ≡ None → head_of (key For) s ≡ None → head_of (key Return) s ≡ None
    → head_of (key Print) s ≡ None → Simple free s x r → Alone (StmtClosed depth) s x r
plain_tells depth free s r x m b i w f t p d = fewer_alone (λ free q y c. chain_split depth free s q y
    (record { it = record { it = record { it = record { it = record { it = record { it = record { it = c; unseen = m }; unseen = b }; unseen = i }; unseen = w }; unseen = f }; unseen = t }; unseen = p }))
    (simple_tells _ _ _ _ d)

without_tells : (depth : ℕ) (at : Place) (x : Expression) (y : Statement) (s : List Token)
    → (is_some (head_of (key Else) s) ≡ true → is_open (if_only at x y) ≡ false) → Alone (OtherwiseClosed depth at x y) s (if_only at x y) s
without_tells depth at x y s h = record { only = λ free q z c. by_else (head_of (key Else) s) refl free q z c.it }
  where
    by_else : (o : Option Place) → head_of (key Else) s ≡ o → (free : ℕ) (q : List Token) (z : Statement) → Otherwise depth at x y free s z q
        → (z ≡ if_only at x y) × (q ≡ s)
    by_else (Some a) e free q z c = let f = h (ap is_some e) in absurd cc
    by_else None e free q z without = (refl, refl)
    by_else None e free q z (with_else k d l) = let f = sees_head (key Else) d in absurd cc

no_sign : (k : Sign) {free : ℕ} {s r : List Token} {x : Statement} → AssignLine free s x r → head_of (sign k) s ≡ None
no_sign k a = assign_front (sign_of k) (λ p. refl) (λ n p. refl) _ _ _ _ a

no_key : (k : Keyword) → ((p : Place) → key_of k (KeyKind This) p ≡ None) → {free : ℕ} {s r : List Token} {x : Statement} → AssignLine free s x r
    → head_of (key k) s ≡ None
no_key k f a = assign_front (key_of k) f (λ n p. refl) _ _ _ _ a

no_chain_sign : (k : Sign) {free : ℕ} {s r : List Token} {x : Expression} → OuterChain free s x r → head_of (sign k) s ≡ None
no_chain_sign k c = chain_front (sign_of k) (λ p. refl) (λ n p. refl) _ _ _ _ c

no_chain_key : (k : Keyword) → ((p : Place) → key_of k (KeyKind This) p ≡ None) → {free : ℕ} {s r : List Token} {x : Expression} → OuterChain free s x r
    → head_of (key k) s ≡ None
no_chain_key k f c = chain_front (key_of k) f (λ n p. refl) _ _ _ _ c

items_not_else : (depth free : ℕ) (s r : List Token) (xs : List Statement) → Items depth free s xs r → head_of (key Else) s ≡ None
items_not_else depth free s r xs (items_end c) = sign_gives (key_of Else) CloseBrace c
items_not_else depth free s r xs (items_and i m) = item_not_else _ _ _ _ _ i

items_none : (depth free : ℕ) (s q r : List Token) (ys : List Statement) {b : Place} → Alone (λ free. Sees (sign CloseBrace)) s b r
    → head_of (sign CloseBrace) s ≡ Some b → Items depth free s ys q → (ys ≡ []) × (q ≡ r)
items_none depth free s q r ys a h (items_end c) = (refl, (a.only free q _ c).1)
items_none depth free s q r ys a h (items_and i m) = let f = item_not_close _ _ _ _ _ i in absurd cc

items_more : (depth free : ℕ) (s m q r : List Token) (x : Statement) (us ys : List Statement) → head_of (sign CloseBrace) s ≡ None
    → Alone (ItemClosed depth) s x m → Alone (Items depth) m us r → Items depth free s ys q → (ys ≡ x ∷ us) × (q ≡ r)
items_more depth free s m q r x us ys h a b (items_end c) = let f = sees_head (sign CloseBrace) c in absurd cc
items_more depth free s m q r x us ys h a b (items_and {q = n} {x = y} {xs = vs} i l) =
    let g = a.only free n y (record { it = i; shut = no_else n (items_not_else depth free n q vs l) y }) in
    let k = b.only free q vs (subst (λ z. Items depth free z vs q) g.1 l) in
    (ap (λ z. z ∷ vs) g.0 ∙ ap (λ z. x ∷ z) k.0, k.1)

mutual
  stmt_tells : (depth free : ℕ) (s r : List Token) (x : Statement) → Stmt depth free s x r
      → (is_some (head_of (key Else) r) ≡ true → is_open x ≡ false) → Alone (StmtClosed depth) s x r
  stmt_tells depth free s r x (nothing d) h = nothing_alone depth (sees_head (sign Semicolon) d) (then_alone (sees_alone d) done_alone)
  stmt_tells depth free s r x (a_block n d i) h = block_alone depth (sees_head (sign OpenBrace) d) (then_alone (sees_alone d)
      (then_alone (items_tells (depth + 1) _ _ _ _ i) done_alone))
  stmt_tells depth free s r x (an_assign a) h = plain_tells depth free s r x (no_sign Semicolon a) (no_sign OpenBrace a) (no_key If (λ p. refl) a)
      (no_key While (λ p. refl) a) (no_key For (λ p. refl) a) (no_key Return (λ p. refl) a) (no_key Print (λ p. refl) a) (simple_put a)
  stmt_tells depth free s r x (a_call c t e) h = plain_tells depth free s r x (no_chain_sign Semicolon c) (no_chain_sign OpenBrace c)
      (no_chain_key If (λ p. refl) c) (no_chain_key While (λ p. refl) c) (no_chain_key For (λ p. refl) c) (no_chain_key Return (λ p. refl) c)
      (no_chain_key Print (λ p. refl) c) (simple_call c t e)
  stmt_tells depth free s r x (an_if {p = p} {x = c} {y = y} n d o e k b) h = if_alone depth (sees_head (key If) d) (then_alone (sees_alone d)
      (fewer_alone (λ free q z w. if_rest_split depth p free _ q z w) (then_alone (condition_tells _ _ _ _ (condition o e k))
      (then_alone (stmt_tells (depth + 1) _ _ _ _ b (branch_shut depth p free r r c y (if_only p c y) without h)) (without_tells depth p c y r h)))))
  stmt_tells depth free s r x (an_if_else {p = p} {x = c} {y = y} n d o e k b i l z) h = if_alone depth (sees_head (key If) d) (then_alone (sees_alone d)
      (fewer_alone (λ free q z w. if_rest_split depth p free _ q z w) (then_alone (condition_tells _ _ _ _ (condition o e k))
      (then_alone (stmt_tells (depth + 1) _ _ _ _ b (λ f. i))
      (fewer_alone (λ free q z w. else_split depth p c y _ free _ q z (record { it = w; seen = sees_head (key Else) l }))
      (then_alone (sees_alone l) (then_alone (stmt_tells (depth + 1) _ _ _ _ z h) done_alone)))))))
  stmt_tells depth free s r x (a_while {p = p} n d o e k b) h = while_alone depth (sees_head (key While) d) (then_alone (sees_alone d)
      (fewer_alone (λ free q z w. while_rest_split depth p free _ q z w) (then_alone (condition_tells _ _ _ _ (condition o e k))
      (then_alone (stmt_tells (depth + 1) _ _ _ _ b h) done_alone))))
  stmt_tells depth free s r x (a_for {p = p} n d o i e m a c b) h = for_alone depth (sees_head (key For) d) (then_alone (sees_alone d)
      (fewer_alone (λ free q z w. for_rest_split depth p free _ q z w) (then_alone (sees_alone o) (then_alone (first_tells _ _ _ _ i)
      (then_alone (value_alone _ _ _ _ e (ended_sign Semicolon m (λ at. refl))) (then_alone (sees_alone m)
      (then_alone (assign_tells _ _ _ _ a (ended_sign CloseParenthesis c (λ at. refl))) (then_alone (sees_alone c)
      (then_alone (stmt_tells (depth + 1) _ _ _ _ b h) done_alone)))))))))
  stmt_tells depth free s r x (a_return d e m) h = return_alone depth (sees_head (key Return) d) (then_alone (sees_alone d)
      (return_rest_alone _ (then_alone (value_alone _ _ _ _ e (ended_sign Semicolon m (λ at. refl))) (then_alone (sees_alone m) done_alone))))
  stmt_tells depth free s r x (a_print d o e c m) h = print_alone depth (sees_head (key Print) d) (then_alone (sees_alone d)
      (print_rest_alone _ (then_alone (condition_tells _ _ _ _ (condition o e c)) (then_alone (sees_alone m) done_alone))))

  item_tells : (depth free : ℕ) (s r : List Token) (x : Statement) → Item depth free s x r
      → (is_some (head_of (key Else) r) ≡ true → is_open x ≡ false) → Alone (ItemClosed depth) s x r
  item_tells depth free s r x (a_local l) h = fewer_alone (λ free q y c. item_split depth free s q y c) (local_or_tells (other_statement depth) _ _ _ _ l)
  item_tells depth free s r x (a_statement d) h = fewer_alone (λ free q y c. item_split depth free s q y c)
      (other_tells (other_statement depth) free s r x (record { it = d; shut = h }) (stmt_tells depth free s r x d h))

  items_tells : (depth free : ℕ) (s r : List Token) (xs : List Statement) → Items depth free s xs r → Alone (Items depth) s xs r
  items_tells depth free s r xs (items_end c) = record { only = λ free' q ys d. items_none depth free' s q r ys (sees_alone c) (sees_head (sign CloseBrace) c) d }
  items_tells depth free s r xs (items_and {q = m} {x = x} {xs = us} i l) =
      let g = item_tells depth free s m x i (no_else m (items_not_else depth free m r us l) x) in
      let k = items_tells depth free m r us l in
      record { only = λ free' q ys d. items_more depth free' s m q r x us ys (item_not_close depth free s m x i) g k d }

-- lists with commas between
module _ {A : Type 0} {D C : Deriving A} (close_of : Sign) (rule : Punctuated D C (sign Comma) (sign close_of))
    (tells : (free : ℕ) (s r : List Token) (x : A) → C free s x r → Alone C s x r) where
  after : (free : ℕ) (s q r : List Token) (x : A) (xs : List A) → D free s x q → Following D (sign Comma) (sign close_of) free q xs r → C free s x q
  after free s q r x xs d (following_end c) = rule.before_close free s q x _ d (sees_head (sign close_of) c)
  after free s q r x xs d (following c e f) = rule.before_comma free s q x _ d (sees_head (sign Comma) c)

  following_none : (free : ℕ) (s q r : List Token) (ys : List A) {b : Place} → Alone (λ free. Sees (sign close_of)) s b r → head_of (sign close_of) s ≡ Some b
      → Following D (sign Comma) (sign close_of) free s ys q → (ys ≡ []) × (q ≡ r)
  following_none free s q r ys a h (following_end d) = (refl, (a.only free q _ d).1)
  following_none free s q r ys a h (following (sees {t = t} {a = e} k) d f) = let n = rule.apart t e k in absurd cc

  not_closed : (z : List Token) {c b : Place} → head_of (sign Comma) z ≡ Some c → head_of (sign close_of) z ≡ Some b → ⊥
  not_closed [] e i = absurd cc
  not_closed (t ∷ z) {c} e i = let n = rule.apart t c e in cc

  following_some : (free : ℕ) (s m n q r : List Token) (c : Place) (x : A) (us ys : List A) → Alone (λ free. Sees (sign Comma)) s c m
      → head_of (sign Comma) s ≡ Some c → Alone C m x n → Alone (Following D (sign Comma) (sign close_of)) n us r
      → Following D (sign Comma) (sign close_of) free s ys q → (ys ≡ x ∷ us) × (q ≡ r)
  following_some free s m n q r c x us ys a h t b (following_end g) = absurd (not_closed s h (sees_head (sign close_of) g))
  following_some free s m n q r c x us ys a h t b (following {mid = m'} {q = n'} {e = c'} {x = y} {xs = vs} g d f) =
      let i = a.only free m' c' g in
      let j = t.only free n' y (subst (λ z. C free z y n') i.1 (after free m' n' q y vs d f)) in
      let l = b.only free q vs (subst (λ z. Following D (sign Comma) (sign close_of) free z vs q) j.1 f) in
      (ap (λ z. z ∷ vs) j.0 ∙ ap (λ z. x ∷ z) l.0, l.1)

  following_tells : (free : ℕ) (s r : List Token) (xs : List A) → Following D (sign Comma) (sign close_of) free s xs r
      → Alone (Following D (sign Comma) (sign close_of)) s xs r
  following_tells free s r xs (following_end c) =
      record { only = λ free' q ys d. following_none free' s q r ys (sees_alone c) (sees_head (sign close_of) c) d }
  following_tells free s r xs (following {mid = m} {q = n} {e = c} {x = x} {xs = us} k d f) =
      let l = following_tells free n r us f in
      let t = tells free m n x (after free m n r x us d f) in
      record { only = λ free' q ys g. following_some free' s m n q r c x us ys (sees_alone k) (sees_head (sign Comma) k) t l g }

  separated_empty : (free : ℕ) (s q r : List Token) (ys : List A) {b : Place} → Alone (λ free. Sees (sign close_of)) s b r → head_of (sign close_of) s ≡ Some b
      → Separated D (sign Comma) (sign close_of) free s ys q → (ys ≡ []) × (q ≡ r)
  separated_empty free s q r ys a h (separated_none d) = (refl, (a.only free q _ d).1)
  separated_empty free s q r ys a h (separated d f) = let n = rule.begins free s _ _ d in absurd cc

  separated_some : (free : ℕ) (s n q r : List Token) (x : A) (us ys : List A) → head_of (sign close_of) s ≡ None → Alone C s x n
      → Alone (Following D (sign Comma) (sign close_of)) n us r → Separated D (sign Comma) (sign close_of) free s ys q → (ys ≡ x ∷ us) × (q ≡ r)
  separated_some free s n q r x us ys h t b (separated_none g) = let k = sees_head (sign close_of) g in absurd cc
  separated_some free s n q r x us ys h t b (separated {q = n'} {x = y} {xs = vs} d f) =
      let j = t.only free n' y (after free s n' q y vs d f) in
      let l = b.only free q vs (subst (λ z. Following D (sign Comma) (sign close_of) free z vs q) j.1 f) in
      (ap (λ z. z ∷ vs) j.0 ∙ ap (λ z. x ∷ z) l.0, l.1)

  separated_tells : (free : ℕ) (s r : List Token) (xs : List A) → Separated D (sign Comma) (sign close_of) free s xs r
      → Alone (Separated D (sign Comma) (sign close_of)) s xs r
  separated_tells free s r xs (separated_none c) =
      record { only = λ free' q ys d. separated_empty free' s q r ys (sees_alone c) (sees_head (sign close_of) c) d }
  separated_tells free s r xs (separated {q = n} {x = x} {xs = us} d f) =
      let l = following_tells free n r us f in
      let t = tells free s n x (after free s n r x us d f) in
      record { only = λ free' q ys g. separated_some free' s n q r x us ys (rule.begins free s n x d) t l g }

param_tells : (free : ℕ) (s r : List Token) (x : ParamNode) → Param free s x r → Alone Param s x r
param_tells free s r x (param t n) = param_alone (then_alone (type_tells _ _ _ _ t) (then_alone (sees_alone n) done_alone))

signature_tells : (free : ℕ) (s r : List Token) (m : List ParamNode × List Statement) → Signature free s m r → Alone Signature s m r
signature_tells free s r m (signature o p b i) = signature_alone (then_alone (sees_alone o)
    (then_alone (separated_tells CloseParenthesis param_rule param_tells _ _ _ _ p) (then_alone (sees_alone b)
    (then_alone (items_tells 1 _ _ _ _ i) done_alone))))

length_tells : (free : ℕ) (s r : List Token) (l : Option ℤ) → Length free s l r → head_of (sign OpenBracket) r ≡ None → Alone LengthClosed s l r
length_tells free s r l (array o n c) h = array_alone (sees_head (sign OpenBracket) o) (then_alone (sees_alone o) (then_alone (sees_alone n)
    (then_alone (sees_alone c) done_alone)))
length_tells free s r l scalar h = exact_alone (scalar_answer h)

named_tells : (ty : TypeNode) (free : ℕ) (s r : List Token) (x : MemberTree) → Named ty free s x r → head_of (sign OpenBracket) r ≡ None
    → Alone (NamedClosed ty) s x r
named_tells ty free s r x (named_field n l) h = fewer_alone (λ free q y c. named_split ty free s q y c.it c.stop)
    (then_alone (sees_alone n) (then_alone (length_tells _ _ _ _ l h) done_alone))

further_tells : (ty : TypeNode) (free : ℕ) (s r : List Token) (x : MemberTree) → FurtherClosed ty free s x r → Alone (FurtherClosed ty) s x r
further_tells ty free s r x c = record { only = λ free' q y d. at free free' s q x y r c.it c.stop d.it d.stop }
  where
    at : (free free' : ℕ) (s q : List Token) (x y : MemberTree) (r : List Token) → Further ty free s x r → head_of (sign OpenBracket) r ≡ None
        → Further ty free' s y q → head_of (sign OpenBracket) q ≡ None → (y ≡ x) × (q ≡ r)
    at free free' s q x y r (further_plain h n l) e (further_plain k m j) f =
        (named_tells ty free s r x (named_field n l) e).only free' q y (record { it = named_field m j; stop = f })
    at free free' s q x y r (further_plain h n l) e (further_pointer k t m j) f = absurd cc
    at free free' s q x y r (further_pointer h t n l) e (further_plain k m j) f = absurd cc
    at free free' s q x y r (further_pointer h t n l) e (further_pointer {s1 = u} {t = b} k w m j) f =
        let g = (sees_alone t).only free' u b w in
        (named_tells ty free _ r x (named_field n l) e).only free' q y (record { it = subst (λ z. Named ty free' z y q) g.1 (named_field m j); stop = f })

member_tells : (free : ℕ) (s r : List Token) (xs : List MemberTree) → Member free s xs r → Alone Member s xs r
member_tells free s r xs (operation v n m) = operation_alone (sees_head (key Void) v) (then_alone (sees_alone v) (then_alone (sees_alone n)
    (method_of_alone _ _ (then_alone (signature_tells _ _ _ _ m) done_alone))))
member_tells free s r xs (value_method t n (signature o p b i)) = typed_alone (type_front (key_of Void) (λ p. refl) (λ p. refl) (λ n p. refl) _ _ _ _ t)
    (then_alone (type_tells _ _ _ _ t) (then_alone (sees_alone n) (method_rest_alone _ _ (sees_head (sign OpenParenthesis) o)
    (method_of_alone _ _ (then_alone (signature_tells _ _ _ _ (signature o p b i)) done_alone)))))
member_tells free s r xs (fields {ty = ty} t n l f) = typed_alone (type_front (key_of Void) (λ p. refl) (λ p. refl) (λ n p. refl) _ _ _ _ t)
    (then_alone (type_tells _ _ _ _ t) (then_alone (sees_alone n) (field_rest_alone _ _ (length_not_bracket _ _ _ _ _ l f)
    (then_alone (length_tells _ _ _ _ l (following_not_bracket _ _ _ _ f))
    (then_alone (following_tells Semicolon (further_rule ty.0) (further_tells ty.0) _ _ _ _ f) done_alone)))))

declaration_tells : (free : ℕ) (s r : List Token) (xs : List ClassTree) → Declaration free s xs r → Alone Declaration s xs r
declaration_tells free s r xs (forward c n e) = declaration_alone (then_alone (sees_alone c) (then_alone (sees_alone n)
    (forward_rest_alone _ (sees_head (sign Semicolon) e) (then_alone (sees_alone e) done_alone))))
declaration_tells free s r xs (a_class c n o p d m e) = declaration_alone (then_alone (sees_alone c) (then_alone (sees_alone n)
    (class_rest_alone _ (sign_gives (sign_of Semicolon) OpenBrace o) (then_alone (sees_alone o) (then_alone (sees_alone p) (then_alone (sees_alone d)
    (then_alone (lines_alone member_lines member_tells _ _ _ _ m) (then_alone (sees_alone e) done_alone))))))))

main_item_tells : (free : ℕ) (s r : List Token) (x : Statement × Bool) → MainItemClosed free s x r → Alone MainItemClosed s x r
main_item_tells free s r x (main_closed {x = y} i) = record {
  only = λ free' q z c.
      let k = main_item_of free' s q z c in
      let g = (item_tells 1 free s r y i.it i.shut).only free' q z.0 k.0 in
      (pair g.0 (k.1 ∙ ap (λ w. is_return_zero (read s w)) g.1), g.1);
}
  where
    pair : {z : Statement × Bool} {y : Statement} {b : Bool} → z.0 ≡ y → z.1 ≡ b → z ≡ (y, b)
    pair {z} {y} {b} e f = subst (λ w. z ≡ (w, b)) e (subst (λ w. z ≡ (z.0, w)) f refl)

main_items_tells : (free : ℕ) (s r : List Token) (xs : List (Statement × Bool)) → One MainItemClosed free s xs r → Alone (One MainItemClosed) s xs r
main_items_tells free s r xs (one d) = one_alone (main_item_tells _ _ _ _ d)

body_tells : (free : ℕ) (s r : List Token) (xs : List (Statement × Bool)) → Lines (One MainItem) (sign CloseBrace) free s xs r
    → Alone MainBody s (kept xs) r
body_tells free s r xs d = record {
  only = λ free' q ys c. let k = main_body_split free' s q ys c in
      let g = (lines_alone main_lines main_items_tells free s r xs d).only free' q k.0 k.2 in (k.1 ∙ ap kept g.0, g.1);
}

program_tells : (free : ℕ) (s r : List Token) (x : TextTree) → Program free s x r → Alone Program s x r
program_tells free s r x (program d m o c b i) = program_alone (then_alone (lines_alone declaration_lines declaration_tells _ _ _ _ d)
    (then_alone (sees_alone m) (then_alone (sees_alone o) (then_alone (sees_alone c) (then_alone (sees_alone b)
    (then_alone (body_tells _ _ _ _ i) done_alone))))))

pub tree_is_one : (ts : List Token) (free other : ℕ) (x y : TextTree) → DerivesFree free ts x → DerivesFree other ts y → x ≡ y
tree_is_one ts free other x y d e = sym ((program_tells free ts [] x d).only other [] y e).0
