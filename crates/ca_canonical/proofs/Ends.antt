-- The optional end of `main`: which statements are spelled `return 0 ;`.
use Rattle.std.proofs.Common.{◌≡◌, ◌+◌, ◌-◌, ◌≤◌, List, [], ◌∷◌, ◌++◌, length, take, Bool, true, false, refl, sym, ap, ◌∙◌, arith, length-append}
use Rattle.std.specs.Prelude.{ℕ, pos, ◌+◌, cond, nat_lt, ◌&&◌, Some, None, is_some}
use Rattle.std.specs.Ordering.{int_eq}
use Rattle.std.proofs.Math.Seq.{take-append_seam}
use Rattle.ca_tree.specs.declared.name.Place.{Place}
use Rattle.ca_tree.specs.declared.token.Kind.{Kind}
use Rattle.ca_tree.specs.declared.token.Kind.TheVariants.{Word, Number, Key, Sign}
use Rattle.ca_tree.specs.declared.token.Keyword.TheVariants as key
use Rattle.ca_tree.specs.declared.token.Sign.{Sign as TheSign}
use Rattle.ca_tree.specs.declared.token.Sign.TheVariants as sign
use Rattle.ca_tree.specs.declared.token.Token.{Token}
use Rattle.ca_tree.specs.declared.tree.TypeNode.{TypeNode}
use Rattle.ca_tree.specs.declared.tree.TypeNode.TheVariants.{Long, Bool as BoolType, Pointer}
use Rattle.ca_tree.specs.Codes.{same_key, same_sign}
use Rattle.ca_tree.specs.declared.operators.Writing.{Writing}
use Rattle.ca_tree.specs.declared.operators.Writing.TheVariants.{Between, Before}
use Rattle.ca_tree.specs.Operators.{level, writing, unary_level, unary_sign, assign_sign}
use Rattle.ca_tree.specs.Plain.{Expression, Statement, Statements, no_statements, statement_and, number, truth, null, this, named, call, field, method, index, unary, binary, empty, block, local, assign, call_statement, if_only, if_else, while_loop, for_loop, return_value, print_value}
use Rattle.ca_expressions.specs.Terminals.{key_of, sign_of, zero_of}
use Rattle.ca_parse.specs.Grammar.{read, is_return_zero}
use Rattle.ca_canonical.specs.Spell.{tail_level, binds, bracketed, in_parentheses, spelled_by, spell_expression, spell_list, spell_truth, spell_type, spell_right, spell_start, spell_header, ended, spell_statement, spell_statements, is_zero, returns_zero, ends_in_zero}
use Rattle.ca_canonical.specs.Bare.{nowhere}
use Rattle.ca_canonical.proofs.Texts.{kinds}
use Rattle.ca_canonical.proofs.Fronts.{Front, front_is}

-- whether the last of statements is a return of 0, or with none whether the one before them was
abbrev pub zero_behind : Bool → Statements → Bool
zero_behind before no_statements = before
zero_behind before (statement_and s ss) = zero_behind (returns_zero s) ss

last_is : (before : Bool) (s : Statement) (ss : Statements) → zero_behind before (statement_and s ss) ≡ ends_in_zero (statement_and s ss)
last_is before s no_statements = refl
last_is before s (statement_and t ss) = last_is (returns_zero s) t ss

pub all_behind : (ss : Statements) → zero_behind false ss ≡ ends_in_zero ss
all_behind no_statements = refl
all_behind (statement_and s ss) = last_is false s ss

-- the same test on kinds
abbrev is_end : List Kind → Bool
is_end [] = false
is_end (a ∷ []) = false
is_end (a ∷ b ∷ []) = false
is_end (a ∷ b ∷ c ∷ []) = is_some (key_of key.Return a nowhere) && is_some (zero_of b nowhere) && is_some (sign_of sign.Semicolon c nowhere)
is_end (a ∷ b ∷ c ∷ d ∷ ks) = false

some_cond : {A : Type 0} (t : Bool) (a b : A) → is_some (cond t (Some a) None) ≡ is_some (cond t (Some b) None)
some_cond true a b = refl
some_cond false a b = refl

key_anywhere : (k : Kind) (at : Place) → is_some (key_of key.Return k at) ≡ is_some (key_of key.Return k nowhere)
key_anywhere (Key w) at = some_cond (same_key w key.Return) at nowhere
key_anywhere (Sign s) at = refl
key_anywhere (Word n) at = refl
key_anywhere (Number n) at = refl

zero_anywhere : (k : Kind) (at : Place) → is_some (zero_of k at) ≡ is_some (zero_of k nowhere)
zero_anywhere (Number n) at = some_cond (int_eq n (pos 0)) at nowhere
zero_anywhere (Sign s) at = refl
zero_anywhere (Word n) at = refl
zero_anywhere (Key k) at = refl

sign_anywhere : (k : Kind) (at : Place) → is_some (sign_of sign.Semicolon k at) ≡ is_some (sign_of sign.Semicolon k nowhere)
sign_anywhere (Sign s) at = some_cond (same_sign s sign.Semicolon) at nowhere
sign_anywhere (Key w) at = refl
sign_anywhere (Word n) at = refl
sign_anywhere (Number n) at = refl

by_kinds : (f : List Token) → is_return_zero f ≡ is_end (kinds f)
by_kinds [] = refl
by_kinds (t ∷ []) = refl
by_kinds (t ∷ u ∷ []) = refl
by_kinds (t ∷ u ∷ v ∷ []) =
    ap (λ b. b && is_some (zero_of u.kind u.at) && is_some (sign_of sign.Semicolon v.kind v.at)) (key_anywhere t.kind t.at)
    ∙ ap (λ b. is_some (key_of key.Return t.kind nowhere) && b && is_some (sign_of sign.Semicolon v.kind v.at)) (zero_anywhere u.kind u.at)
    ∙ ap (λ b. is_some (key_of key.Return t.kind nowhere) && is_some (zero_of u.kind nowhere) && b) (sign_anywhere v.kind v.at)
by_kinds (t ∷ u ∷ v ∷ w ∷ f) = refl

-- what begins with no `return` is not the end
first_no : (a : Kind) (ks : List Kind) → is_some (key_of key.Return a nowhere) ≡ false → is_end (a ∷ ks) ≡ false
first_no a [] e = refl
first_no a (b ∷ []) e = refl
first_no a (b ∷ c ∷ []) e = ap (λ t. t && is_some (zero_of b nowhere) && is_some (sign_of sign.Semicolon c nowhere)) e
first_no a (b ∷ c ∷ d ∷ ks) e = refl

never : (t u : Bool) → t && false && u ≡ false
never true u = refl
never false u = refl

second_no : (a b : Kind) (ks : List Kind) → is_some (zero_of b nowhere) ≡ false → is_end (a ∷ b ∷ ks) ≡ false
second_no a b [] e = refl
second_no a b (c ∷ []) e = ap (λ t. is_some (key_of key.Return a nowhere) && t && is_some (sign_of sign.Semicolon c nowhere)) e ∙ never (is_some (key_of key.Return a nowhere)) (is_some (sign_of sign.Semicolon c nowhere))
second_no a b (c ∷ d ∷ ks) e = refl

long_no : (a b c : Kind) (ks : List Kind) → 1 ≤ length ks → is_end (a ∷ b ∷ c ∷ ks) ≡ false
long_no a b c [] h = absurd (omega arith)
long_no a b c (d ∷ ks) h = refl

ends_long : (ks : List Kind) (k : Kind) → 1 ≤ length (ks ++ k ∷ [])
ends_long [] k = omega arith
ends_long (a ∷ ks) k = omega arith

-- a sign among the tokens before the `;`
inside : (ks ls : List Kind) (s : TheSign) → is_end ((ks ++ (Sign s ∷ ls)) ++ Sign sign.Semicolon ∷ []) ≡ false
inside [] ls s = first_no (Sign s) (ls ++ Sign sign.Semicolon ∷ []) refl
inside (a ∷ []) ls s = second_no a (Sign s) (ls ++ Sign sign.Semicolon ∷ []) refl
inside (a ∷ b ∷ []) ls s = long_no a b (Sign s) (ls ++ Sign sign.Semicolon ∷ []) (ends_long ls (Sign sign.Semicolon))
inside (a ∷ b ∷ c ∷ ks) ls s = long_no a b c ((ks ++ (Sign s ∷ ls)) ++ Sign sign.Semicolon ∷ []) (ends_long (ks ++ (Sign s ∷ ls)) (Sign sign.Semicolon))

returned_inside : (ks ls : List Kind) (s : TheSign) → is_end (Key key.Return ∷ ((ks ++ (Sign s ∷ ls)) ++ Sign sign.Semicolon ∷ [])) ≡ false
returned_inside [] ls s = second_no (Key key.Return) (Sign s) (ls ++ Sign sign.Semicolon ∷ []) refl
returned_inside (a ∷ []) ls s = long_no (Key key.Return) a (Sign s) (ls ++ Sign sign.Semicolon ∷ []) (ends_long ls (Sign sign.Semicolon))
returned_inside (a ∷ b ∷ ks) ls s = long_no (Key key.Return) a b ((ks ++ (Sign s ∷ ls)) ++ Sign sign.Semicolon ∷ []) (ends_long (ks ++ (Sign s ∷ ls)) (Sign sign.Semicolon))

called_by : (w : Writing) (k m n : ℕ) (ks ls : List Kind) → is_end (spelled_by w k m n ks ls ++ Sign sign.Semicolon ∷ []) ≡ false
called_by (Between s) k m n ks ls = inside (bracketed (nat_lt m k) ks) (bracketed (nat_lt n (k + 1)) ls) s
called_by (Before w) k m n ks ls = second_no (Key w) (Sign sign.OpenParenthesis) ((ks ++ (Sign sign.Comma ∷ (ls ++ Sign sign.CloseParenthesis ∷ []))) ++ Sign sign.Semicolon ∷ []) refl

returned_by : (w : Writing) (k m n : ℕ) (ks ls : List Kind) → is_end (Key key.Return ∷ (spelled_by w k m n ks ls ++ Sign sign.Semicolon ∷ [])) ≡ false
returned_by (Between s) k m n ks ls = returned_inside (bracketed (nat_lt m k) ks) (bracketed (nat_lt n (k + 1)) ls) s
returned_by (Before w) k m n ks ls = second_no (Key key.Return) (Key w) ((Sign sign.OpenParenthesis ∷ (ks ++ (Sign sign.Comma ∷ (ls ++ Sign sign.CloseParenthesis ∷ [])))) ++ Sign sign.Semicolon ∷ []) refl

called : (e : Expression) → is_end (spell_expression e ++ Sign sign.Semicolon ∷ []) ≡ false
called (number at n) = refl
called (truth at b) = refl
called (null at) = refl
called (this at) = refl
called (named at n) = refl
called (call at n es) = first_no (Word n) (in_parentheses (spell_list es) ++ Sign sign.Semicolon ∷ []) refl
called (field at e n) = inside (bracketed (nat_lt (binds e) tail_level) (spell_expression e)) (Word n ∷ []) sign.Arrow
called (method at e n es) = inside (bracketed (nat_lt (binds e) tail_level) (spell_expression e)) (Word n ∷ in_parentheses (spell_list es)) sign.Arrow
called (index at e i) = inside (bracketed (nat_lt (binds e) tail_level) (spell_expression e)) (spell_expression i ++ Sign sign.CloseBracket ∷ []) sign.OpenBracket
called (unary at o e) = first_no (Sign (unary_sign o)) (bracketed (nat_lt (binds e) unary_level) (spell_expression e) ++ Sign sign.Semicolon ∷ []) refl
called (binary at o a b) = called_by (writing o) (level o) (binds a) (binds b) (spell_expression a) (spell_expression b)

abbrev Implies : Bool → Bool → Type 0
Implies a b = a ≡ true → b ≡ true

refuted : {a b : Bool} → a ≡ false → Implies a b
refuted e h = cc

zero_number : (t : Bool) → Implies (is_some (cond t (Some nowhere) None) && true) t
zero_number true h = refl
zero_number false h = cc

returned_truth : (b : Bool) → is_end (Key key.Return ∷ spell_truth b ∷ Sign sign.Semicolon ∷ []) ≡ false
returned_truth true = refl
returned_truth false = refl

returned : (e : Expression) → Implies (is_end (Key key.Return ∷ (spell_expression e ++ Sign sign.Semicolon ∷ []))) (is_zero e)
returned (number at n) = zero_number (int_eq n (pos 0))
returned (truth at b) = refuted (returned_truth b)
returned (null at) = refuted refl
returned (this at) = refuted refl
returned (named at n) = refuted refl
returned (call at n es) = refuted (second_no (Key key.Return) (Word n) (in_parentheses (spell_list es) ++ Sign sign.Semicolon ∷ []) refl)
returned (field at e n) = refuted (returned_inside (bracketed (nat_lt (binds e) tail_level) (spell_expression e)) (Word n ∷ []) sign.Arrow)
returned (method at e n es) = refuted (returned_inside (bracketed (nat_lt (binds e) tail_level) (spell_expression e)) (Word n ∷ in_parentheses (spell_list es)) sign.Arrow)
returned (index at e i) = refuted (returned_inside (bracketed (nat_lt (binds e) tail_level) (spell_expression e)) (spell_expression i ++ Sign sign.CloseBracket ∷ []) sign.OpenBracket)
returned (unary at o e) = refuted (second_no (Key key.Return) (Sign (unary_sign o)) (bracketed (nat_lt (binds e) unary_level) (spell_expression e) ++ Sign sign.Semicolon ∷ []) refl)
returned (binary at o a b) = refuted (returned_by (writing o) (level o) (binds a) (binds b) (spell_expression a) (spell_expression b))

declared : (ty : TypeNode) (ks : List Kind) → is_end ((spell_type ty ++ ks) ++ Sign sign.Semicolon ∷ []) ≡ false
declared Long ks = first_no (Key key.Long) (ks ++ Sign sign.Semicolon ∷ []) refl
declared BoolType ks = first_no (Key key.Bool) (ks ++ Sign sign.Semicolon ∷ []) refl
declared (Pointer n at) ks = first_no (Word n) ((Sign sign.Times ∷ ks) ++ Sign sign.Semicolon ∷ []) refl

-- a statement whose tokens are `return 0 ;` is a return of 0
spelled_end : (x : Statement) → Implies (is_end (spell_statement x)) (returns_zero x)
spelled_end (empty at) = refuted refl
spelled_end (block at ss) = refuted (first_no (Sign sign.OpenBrace) (spell_statements ss ++ Sign sign.CloseBrace ∷ []) refl)
spelled_end (local at ty n m v) = refuted (declared ty (Word n ∷ spell_start v))
spelled_end (assign at t o r) = refuted (inside (spell_expression t) (spell_right r) (assign_sign o))
spelled_end (call_statement at e) = refuted (called e)
spelled_end (if_only at c s) = refuted (first_no (Key key.If) (in_parentheses (spell_expression c) ++ spell_statement s) refl)
spelled_end (if_else at c s t) = refuted (first_no (Key key.If) (in_parentheses (spell_expression c) ++ (spell_statement s ++ (Key key.Else ∷ spell_statement t))) refl)
spelled_end (while_loop at c s) = refuted (first_no (Key key.While) (in_parentheses (spell_expression c) ++ spell_statement s) refl)
spelled_end (for_loop at first c next s) = refuted (first_no (Key key.For) ((Sign sign.OpenParenthesis ∷ (ended (spell_header first) ++ (spell_expression c ++ (Sign sign.Semicolon ∷ (spell_header next ++ Sign sign.CloseParenthesis ∷ []))))) ++ spell_statement s) refl)
spelled_end (return_value at e) = returned e
spelled_end (print_value at e) = refuted (first_no (Key key.Print) (in_parentheses (spell_expression e) ++ Sign sign.Semicolon ∷ []) refl)

pub end_tokens : (f : List Token) (x : Statement) → kinds f ≡ spell_statement x → is_return_zero f ≡ true → returns_zero x ≡ true
end_tokens f x e h = spelled_end x (ap is_end (sym e) ∙ sym (by_kinds f) ∙ h)

-- the tokens in front are those that are read
pub read_front : {f s r : List Token} → Front f s r → read s r ≡ f
read_front {f = f} {s = s} {r = r} p =
    let e = front_is p in
    let l : length s - length r ≡ length f = omega (arith, ap length e, length-append f r) in
    ap (λ n. take n s) l ∙ ap (λ z. take (length f) z) e ∙ take-append_seam f r

-- these tokens are the end
pub kinds_end : (f : List Token) → kinds f ≡ Key key.Return ∷ Number (pos 0) ∷ Sign sign.Semicolon ∷ [] → is_return_zero f ≡ true
kinds_end f e = by_kinds f ∙ ap is_end e
