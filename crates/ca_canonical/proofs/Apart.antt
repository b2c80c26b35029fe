-- No mark stands between a `}` and a `;` of an annotated tree in which none stands before an empty statement.
use Rattle.std.proofs.Common.{◌≡◌, List, [], ◌∷◌, ◌++◌, Bool, true, false, refl, sym, ap, subst, ◌∙◌, append_assoc, append-nil}
use Rattle.std.specs.Prelude.{ℕ, ◌+◌, nat_lt, Option, Some, None}
use Rattle.ca_tree.specs.declared.name.Place.{Place}
use Rattle.ca_tree.specs.declared.token.Kind.{Kind}
use Rattle.ca_tree.specs.declared.token.Kind.TheVariants.{Word, Key, Sign}
use Rattle.ca_tree.specs.declared.token.Keyword.TheVariants as key
use Rattle.ca_tree.specs.declared.token.Sign.TheVariants as sign
use Rattle.ca_tree.specs.declared.tree.TypeNode.{TypeNode}
use Rattle.ca_tree.specs.declared.tree.TypeNode.TheVariants.{Long, Bool as BoolType, Pointer}
use Rattle.ca_tree.specs.declared.tree.UnaryOp.{UnaryOp}
use Rattle.ca_tree.specs.declared.tree.UnaryOp.TheVariants as unary_op
use Rattle.ca_tree.specs.declared.operators.Writing.{Writing}
use Rattle.ca_tree.specs.declared.operators.Writing.TheVariants.{Between, Before}
use Rattle.ca_tree.specs.Operators.{level, writing, unary_sign, assign_sign}
use Rattle.ca_tree.specs.Plain.{Expression, Statement, Statements, MethodTree, MemberTree, ClassTree, TextTree, number, truth, null, this, named, call, field, method, index, unary, binary, empty, block, local, assign, call_statement, if_only, if_else, while_loop, for_loop, return_value, print_value, no_statements, statement_and, field_member, method_member}
use Rattle.ca_canonical.specs.declared.marks.Mark.{Mark}
use Rattle.ca_canonical.specs.Marks.{Piece, token, tokens, marks, unmarked, Marking}
use Rattle.ca_canonical.specs.Annotated.{in_body, pieces_of, marked_all, marked_method, marked_member, marked_members, marked_class, marked_classes, marked_main, annotated}
use Rattle.ca_canonical.specs.Spell.{spell_expression, spell_list, spell_type, spell_start, spell_right, spell_line, spell_field, spell_result, spell_params, spell_end, spell_for, condition, spelled_by, bracketed, binds, tail_level, in_parentheses, ends_in_zero}
use Rattle.ca_canonical.specs.Texts.{semicolon, is_semicolon, semicolon_first}
use Rattle.ca_canonical.proofs.Unmarked.{behind_marks}
use Rattle.ca_canonical.proofs.Erasing.{Same, Clear}

-- pieces that may stand before any others
record Apart (ps : List Piece) : Type 0 where
  clear : (rest : List Piece) → Clear rest → Same rest → Clear (ps ++ rest)
  same : (rest : List Piece) → Same rest → Same (ps ++ rest)

apart_both : (ps qs : List Piece) → Apart ps → Apart qs → Apart (ps ++ qs)
apart_both ps qs p q = record {
  clear = λ rest c s. subst Clear (sym (append_assoc ps qs rest)) (p.clear (qs ++ rest) (q.clear rest c s) (q.same rest s));
  same = λ rest s. subst Same (sym (append_assoc ps qs rest)) (p.same (qs ++ rest) (q.same rest s));
}

tokens_same : (ks : List Kind) (rest : List Piece) → Same rest → Same (tokens ks ++ rest)
tokens_same [] rest s = s
tokens_same (k ∷ ks) rest s = refl

tokens_clear : (ks : List Kind) (rest : List Piece) → Clear rest → Same rest → Clear (tokens ks ++ rest)
tokens_clear [] rest c s = c
tokens_clear (k ∷ ks) rest c s = (λ e. tokens_same ks rest s, tokens_clear ks rest c s)

apart_tokens : (ks : List Kind) → Apart (tokens ks)
apart_tokens ks = record { clear = tokens_clear ks; same = tokens_same ks }

-- marks stand before pieces that begin with no `;`

abbrev NoSemicolon : List Piece → Type 0
NoSemicolon ps = (rest : List Piece) → semicolon_first (tokens (unmarked (ps ++ rest))) ≡ false

marks_clear : (ms : List Mark) (rest : List Piece) → Clear rest → Clear (marks ms ++ rest)
marks_clear [] rest c = c
marks_clear (m ∷ ms) rest c = marks_clear ms rest c

marks_same : (ms : List Mark) (rest : List Piece) → Same rest → semicolon_first (tokens (unmarked rest)) ≡ false → Same (marks ms ++ rest)
marks_same [] rest s n = s
marks_same (m ∷ ms) rest s n = sym (ap (λ ks. semicolon_first (tokens ks)) (behind_marks ms rest refl) ∙ n)

apart_marked : (ms : List Mark) (ps : List Piece) → Apart ps → NoSemicolon ps → Apart (marks ms ++ ps)
apart_marked ms ps p n = record {
  clear = λ rest c s. subst Clear (sym (append_assoc (marks ms) ps rest)) (marks_clear ms (ps ++ rest) (p.clear rest c s));
  same = λ rest s. subst Same (sym (append_assoc (marks ms) ps rest)) (marks_same ms (ps ++ rest) (p.same rest s) (n rest));
}

-- the first token of a statement

abbrev First : List Kind → Type 0
First [] = ⊥
First (k ∷ ks) = semicolon k ≡ false

tokens_begin : (ks : List Kind) → First ks → NoSemicolon (tokens ks)
tokens_begin [] h = absurd h
tokens_begin (k ∷ ks) h = λ rest. h

first_bracketed : (t : Bool) (ks ls : List Kind) → ((more : List Kind) → First (ks ++ more)) → First (bracketed t ks ++ ls)
first_bracketed true ks ls h = refl
first_bracketed false ks ls h = h ls

first_unary : (o : UnaryOp) → is_semicolon (unary_sign o) ≡ false
first_unary unary_op.Minus = refl
first_unary other = refl

first_by : (w : Writing) (k m n : ℕ) (ks ls more : List Kind) → ((more : List Kind) → First (ks ++ more)) → First (spelled_by w k m n ks ls ++ more)
first_by (Between s) k m n ks ls more h =
    let t = nat_lt m k in
    let tail = Sign s ∷ bracketed (nat_lt n (k + 1)) ls in
    subst First (sym (append_assoc (bracketed t ks) tail more)) (first_bracketed t ks (tail ++ more) h)
first_by (Before w) k m n ks ls more h = refl

first_expression : (e : Expression) (more : List Kind) → First (spell_expression e ++ more)
first_expression (number at n) more = refl
first_expression (truth at true) more = refl
first_expression (truth at false) more = refl
first_expression (null at) more = refl
first_expression (this at) more = refl
first_expression (named at n) more = refl
first_expression (call at n es) more = refl
first_expression (field at e n) more =
    let t = nat_lt (binds e) tail_level in
    let tail = Sign sign.Arrow ∷ Word n ∷ [] in
    subst First (sym (append_assoc (bracketed t (spell_expression e)) tail more)) (first_bracketed t (spell_expression e) (tail ++ more) (first_expression e))
first_expression (method at e n es) more =
    let t = nat_lt (binds e) tail_level in
    let tail = Sign sign.Arrow ∷ Word n ∷ in_parentheses (spell_list es) in
    subst First (sym (append_assoc (bracketed t (spell_expression e)) tail more)) (first_bracketed t (spell_expression e) (tail ++ more) (first_expression e))
first_expression (index at e i) more =
    let t = nat_lt (binds e) tail_level in
    let tail = Sign sign.OpenBracket ∷ (spell_expression i ++ Sign sign.CloseBracket ∷ []) in
    subst First (sym (append_assoc (bracketed t (spell_expression e)) tail more)) (first_bracketed t (spell_expression e) (tail ++ more) (first_expression e))
first_expression (unary at o e) more = first_unary o
first_expression (binary at o a b) more = first_by (writing o) (level o) (binds a) (binds b) (spell_expression a) (spell_expression b) more (first_expression a)

first_type : (ty : TypeNode) (more : List Kind) → First (spell_type ty ++ more)
first_type Long more = refl
first_type BoolType more = refl
first_type (Pointer n at) more = refl

abbrev is_empty : Statement → Bool
is_empty (empty at) = true
is_empty other = false

begins : (f : Option Statement → Statement → List Mark) (s : Statement) → is_empty s ≡ false → NoSemicolon (pieces_of f s)
begins f (empty at) h = absurd (cc)
begins f (local at ty name name_at v) h =
    let rest = Word name ∷ spell_start v in
    tokens_begin (spell_line (local at ty name name_at v)) (subst First (sym (append_assoc (spell_type ty) rest (Sign sign.Semicolon ∷ []))) (first_type ty (rest ++ Sign sign.Semicolon ∷ [])))
begins f (assign at target o r) h =
    let rest = Sign (assign_sign o) ∷ spell_right r in
    tokens_begin (spell_line (assign at target o r)) (subst First (sym (append_assoc (spell_expression target) rest (Sign sign.Semicolon ∷ []))) (first_expression target (rest ++ Sign sign.Semicolon ∷ [])))
begins f (call_statement at e) h = tokens_begin (spell_line (call_statement at e)) (first_expression e (Sign sign.Semicolon ∷ []))
begins f (block at ss) h = λ rest. refl
begins f (if_only at c s) h = λ rest. refl
begins f (if_else at c s t) h = λ rest. refl
begins f (while_loop at c s) h = λ rest. refl
begins f (for_loop at first c next s) h = λ rest. refl
begins f (return_value at e) h = λ rest. refl
begins f (print_value at e) h = λ rest. refl

-- statements

abbrev SparesEmpty : (Option Statement → Statement → List Mark) → Type 0
SparesEmpty f = (front : Option Statement) (at : Place) → f front (empty at) ≡ []

behind_its_marks : (f : Option Statement → Statement → List Mark) → SparesEmpty f → (front : Option Statement) (s : Statement) → Apart (pieces_of f s) → Apart (marks (f front s) ++ pieces_of f s)
behind_its_marks f n front (empty at) p = subst (λ ms. Apart (marks ms ++ pieces_of f (empty at))) (sym (n front at)) p
behind_its_marks f n front other p = apart_marked (f front other) (pieces_of f other) p (begins f other refl)

body_apart : (ps : List Piece) → Apart ps → Apart (in_body ps)
body_apart ps p =
    apart_both (tokens (Sign sign.OpenBrace ∷ [])) (ps ++ tokens (Sign sign.CloseBrace ∷ [])) (apart_tokens (Sign sign.OpenBrace ∷ []))
    (apart_both ps (tokens (Sign sign.CloseBrace ∷ [])) p (apart_tokens (Sign sign.CloseBrace ∷ [])))

mutual
  statement_apart : (f : Option Statement → Statement → List Mark) → SparesEmpty f → (s : Statement) → Apart (pieces_of f s)
  statement_apart f n (block at ss) = body_apart (marked_all f None ss) (all_apart f n None ss)
  statement_apart f n (if_only at c s) =
      apart_both (tokens (condition key.If c)) (marks (f None s) ++ pieces_of f s) (apart_tokens (condition key.If c)) (behind_its_marks f n None s (statement_apart f n s))
  statement_apart f n (if_else at c s t) =
      let yes_part = marks (f None s) ++ pieces_of f s in
      let no_part = marks (f None t) ++ pieces_of f t in
      apart_both (tokens (condition key.If c)) (yes_part ++ (token (Key key.Else) ∷ no_part)) (apart_tokens (condition key.If c))
      (apart_both yes_part (token (Key key.Else) ∷ no_part) (behind_its_marks f n None s (statement_apart f n s))
      (apart_both (tokens (Key key.Else ∷ [])) no_part (apart_tokens (Key key.Else ∷ [])) (behind_its_marks f n None t (statement_apart f n t))))
  statement_apart f n (while_loop at c s) =
      apart_both (tokens (condition key.While c)) (marks (f None s) ++ pieces_of f s) (apart_tokens (condition key.While c)) (behind_its_marks f n None s (statement_apart f n s))
  statement_apart f n (for_loop at first c next s) =
      apart_both (tokens (spell_for first c next)) (marks (f None s) ++ pieces_of f s) (apart_tokens (spell_for first c next)) (behind_its_marks f n None s (statement_apart f n s))
  statement_apart f n other = apart_tokens (spell_line other)

  all_apart : (f : Option Statement → Statement → List Mark) → SparesEmpty f → (front : Option Statement) (ss : Statements) → Apart (marked_all f front ss)
  all_apart f n front no_statements = apart_tokens []
  all_apart f n front (statement_and s ss) =
      apart_both (marks (f front s) ++ pieces_of f s) (marked_all f (Some s) ss) (behind_its_marks f n front s (statement_apart f n s)) (all_apart f n (Some s) ss)

-- the whole

-- marks behind a `{`
opening_apart : (ms : List Mark) (ps : List Piece) → Apart ps → Apart (token (Sign sign.OpenBrace) ∷ (marks ms ++ ps))
opening_apart ms ps p = record {
  clear = λ rest c s. (λ e. absurd (cc), subst Clear (sym (append_assoc (marks ms) ps rest)) (marks_clear ms (ps ++ rest) (p.clear rest c s)));
  same = λ rest s. refl;
}

method_apart : (m : Marking) → ((body : Option Place) → SparesEmpty (m.before body)) → (x : MethodTree) → Apart (marked_method m x)
method_apart m n x =
    let signature = spell_result x.result ++ (Word x.name ∷ in_parentheses (spell_params x.params)) in
    let opening = marks (m.opening x.at) in
    let inside = marked_all (m.before (Some x.at)) None x.body in
    let closing = marks (m.closing x.at) in
    let close = token (Sign sign.CloseBrace) ∷ [] in
    let cut : (opening ++ (inside ++ closing)) ++ close ≡ opening ++ (inside ++ (closing ++ close)) =
    append_assoc opening (inside ++ closing) close ∙ ap (λ z. opening ++ z) (append_assoc inside closing close) in
    let end = apart_marked (m.closing x.at) close (apart_tokens (Sign sign.CloseBrace ∷ [])) (λ rest. refl) in
    apart_both (tokens signature) (in_body (opening ++ (inside ++ closing))) (apart_tokens signature)
    (subst (λ z. Apart (token (Sign sign.OpenBrace) ∷ z)) (sym cut)
    (opening_apart (m.opening x.at) (inside ++ (closing ++ close)) (apart_both inside (closing ++ close) (all_apart (m.before (Some x.at)) (n (Some x.at)) None x.body) end)))

member_apart : (m : Marking) → ((body : Option Place) → SparesEmpty (m.before body)) → (x : MemberTree) → Apart (marked_member m x)
member_apart m n (field_member f) = apart_tokens (spell_field f)
member_apart m n (method_member x) = method_apart m n x

members_apart : (m : Marking) → ((body : Option Place) → SparesEmpty (m.before body)) → (xs : List MemberTree) → Apart (marked_members m xs)
members_apart m n [] = apart_tokens []
members_apart m n (x ∷ xs) = apart_both (marked_member m x) (marked_members m xs) (member_apart m n x) (members_apart m n xs)

classes_apart : (m : Marking) → ((body : Option Place) → SparesEmpty (m.before body)) → (cs : List ClassTree) → Apart (marked_classes m cs)
classes_apart m n [] = apart_tokens []
classes_apart m n (c ∷ cs) =
    let head = Key key.Class ∷ Word c.name ∷ Sign sign.OpenBrace ∷ Key key.Public ∷ Sign sign.Colon ∷ [] in
    let end = Sign sign.CloseBrace ∷ Sign sign.Semicolon ∷ [] in
    apart_both (marked_class m c) (marked_classes m cs)
    (apart_both (tokens head) (marked_members m c.members ++ tokens end) (apart_tokens head) (apart_both (marked_members m c.members) (tokens end) (members_apart m n c.members) (apart_tokens end)))
    (classes_apart m n cs)

main_apart : (m : Marking) → ((body : Option Place) → SparesEmpty (m.before body)) → (ss : Statements) → Apart (marked_main m ss)
main_apart m n ss =
    let head = Key key.Int ∷ Key key.Main ∷ in_parentheses [] in
    let inside = marked_all (m.before None) None ss in
    let end = spell_end (ends_in_zero ss) in
    apart_both (tokens head) (in_body (inside ++ tokens end)) (apart_tokens head) (body_apart (inside ++ tokens end) (apart_both inside (tokens end) (all_apart (m.before None) (n None) None ss) (apart_tokens end)))

pub annotated_clear : (m : Marking) (t : TextTree) → ((body : Option Place) (front : Option Statement) (at : Place) → m.before body front (empty at) ≡ []) → Clear (annotated m t)
annotated_clear m t n =
    let all = apart_both (marked_classes m t.classes) (marked_main m t.main) (classes_apart m n t.classes) (main_apart m n t.main) in
    subst Clear (append-nil (annotated m t)) (all.clear [] tt refl)
