-- Pieces without their marks are the canonical tokens, and where nothing is marked these are all pieces.
use Rattle.std.proofs.Common.{◌≡◌, List, [], ◌∷◌, ◌++◌, refl, sym, ap, ◌∙◌, append_assoc, append-nil}
use Rattle.std.specs.Prelude.{Option, Some, None}
use Rattle.ca_tree.specs.declared.token.Kind.{Kind}
use Rattle.ca_tree.specs.declared.token.Kind.TheVariants.{Word, Key, Sign}
use Rattle.ca_tree.specs.declared.token.Keyword.TheVariants as key
use Rattle.ca_tree.specs.declared.token.Sign.TheVariants as sign
use Rattle.ca_tree.specs.Plain.{Statement, Statements, MethodTree, MemberTree, ClassTree, TextTree, block, if_only, if_else, while_loop, for_loop, no_statements, statement_and, field_member, method_member}
use Rattle.ca_canonical.specs.declared.marks.Mark.{Mark}
use Rattle.ca_canonical.specs.Marks.{Piece, token, mark, tokens, marks, unmarked, Marking, no_marks}
use Rattle.ca_canonical.specs.Annotated.{in_body, marked, pieces_of, marked_all, marked_method, marked_member, marked_members, marked_class, marked_classes, marked_main, annotated}
use Rattle.ca_canonical.specs.Spell.{spell, spell_line, spell_field, spell_statement, spell_statements, spell_result, spell_params, spell_method, spell_member, spell_members, spell_class, spell_classes, spell_main, spell_end, spell_for, condition, in_parentheses, in_braces, ends_in_zero}

-- without marks

both_unmarked : {ks ls : List Kind} (ps qs : List Piece) → unmarked ps ≡ ks → unmarked qs ≡ ls → unmarked (ps ++ qs) ≡ ks ++ ls
both_unmarked {ls = ls} [] qs e f = f ∙ ap (λ z. z ++ ls) e
both_unmarked {ls = ls} (token k ∷ ps) qs e f = ap (λ z. k ∷ z) (both_unmarked ps qs refl f) ∙ ap (λ z. z ++ ls) e
both_unmarked (mark m ∷ ps) qs e f = both_unmarked ps qs e f

tokens_unmarked : (ks : List Kind) → unmarked (tokens ks) ≡ ks
tokens_unmarked [] = refl
tokens_unmarked (k ∷ ks) = ap (λ z. k ∷ z) (tokens_unmarked ks)

marks_unmarked : (ms : List Mark) → unmarked (marks ms) ≡ []
marks_unmarked [] = refl
marks_unmarked (m ∷ ms) = marks_unmarked ms

behind_tokens : {ls : List Kind} (ks : List Kind) (ps : List Piece) → unmarked ps ≡ ls → unmarked (tokens ks ++ ps) ≡ ks ++ ls
behind_tokens ks ps e = both_unmarked (tokens ks) ps (tokens_unmarked ks) e

pub behind_marks : {ls : List Kind} (ms : List Mark) (ps : List Piece) → unmarked ps ≡ ls → unmarked (marks ms ++ ps) ≡ ls
behind_marks ms ps e = both_unmarked (marks ms) ps (marks_unmarked ms) e

body_unmarked : {ks : List Kind} (ps : List Piece) → unmarked ps ≡ ks → unmarked (in_body ps) ≡ in_braces ks
body_unmarked ps e = ap (λ z. Sign sign.OpenBrace ∷ z) (both_unmarked ps (token (Sign sign.CloseBrace) ∷ []) e refl)

mutual
  statement_unmarked : (f : Option Statement → Statement → List Mark) (s : Statement) → unmarked (pieces_of f s) ≡ spell_statement s
  statement_unmarked f (block at ss) = body_unmarked (marked_all f None ss) (all_unmarked f None ss)
  statement_unmarked f (if_only at c s) = behind_tokens (condition key.If c) (marked f None s) (behind_marks (f None s) (pieces_of f s) (statement_unmarked f s))
  statement_unmarked f (if_else at c s t) =
      behind_tokens (condition key.If c) (marked f None s ++ (token (Key key.Else) ∷ marked f None t))
      (both_unmarked (marked f None s) (token (Key key.Else) ∷ marked f None t) (behind_marks (f None s) (pieces_of f s) (statement_unmarked f s))
      (ap (λ z. Key key.Else ∷ z) (behind_marks (f None t) (pieces_of f t) (statement_unmarked f t))))
  statement_unmarked f (while_loop at c s) = behind_tokens (condition key.While c) (marked f None s) (behind_marks (f None s) (pieces_of f s) (statement_unmarked f s))
  statement_unmarked f (for_loop at first c next s) = behind_tokens (spell_for first c next) (marked f None s) (behind_marks (f None s) (pieces_of f s) (statement_unmarked f s))
  statement_unmarked f other = tokens_unmarked (spell_line other)

  all_unmarked : (f : Option Statement → Statement → List Mark) (front : Option Statement) (ss : Statements) → unmarked (marked_all f front ss) ≡ spell_statements ss
  all_unmarked f front no_statements = refl
  all_unmarked f front (statement_and s ss) = both_unmarked (marked f front s) (marked_all f (Some s) ss) (behind_marks (f front s) (pieces_of f s) (statement_unmarked f s)) (all_unmarked f (Some s) ss)

method_unmarked : (m : Marking) (x : MethodTree) → unmarked (marked_method m x) ≡ spell_method x
method_unmarked m x =
    let inside = marked_all (m.before (Some x.at)) None x.body in
    let signature = in_parentheses (spell_params x.params) in
    behind_tokens (spell_result x.result ++ (Word x.name ∷ signature)) (in_body (marks (m.opening x.at) ++ (inside ++ marks (m.closing x.at))))
    (body_unmarked (marks (m.opening x.at) ++ (inside ++ marks (m.closing x.at)))
    (behind_marks (m.opening x.at) (inside ++ marks (m.closing x.at))
    (both_unmarked inside (marks (m.closing x.at)) (all_unmarked (m.before (Some x.at)) None x.body) (marks_unmarked (m.closing x.at)) ∙ append-nil (spell_statements x.body))))
    ∙ append_assoc (spell_result x.result) (Word x.name ∷ signature) (in_braces (spell_statements x.body))

member_unmarked : (m : Marking) (x : MemberTree) → unmarked (marked_member m x) ≡ spell_member x
member_unmarked m (field_member f) = tokens_unmarked (spell_field f)
member_unmarked m (method_member x) = method_unmarked m x

members_unmarked : (m : Marking) (xs : List MemberTree) → unmarked (marked_members m xs) ≡ spell_members xs
members_unmarked m [] = refl
members_unmarked m (x ∷ xs) = both_unmarked (marked_member m x) (marked_members m xs) (member_unmarked m x) (members_unmarked m xs)

class_unmarked : (m : Marking) (c : ClassTree) → unmarked (marked_class m c) ≡ spell_class c
class_unmarked m c =
    let ms = spell_members c.members in
    ap (λ z. Key key.Class ∷ Word c.name ∷ Sign sign.OpenBrace ∷ Key key.Public ∷ Sign sign.Colon ∷ z)
    (both_unmarked (marked_members m c.members) (tokens (Sign sign.CloseBrace ∷ Sign sign.Semicolon ∷ [])) (members_unmarked m c.members) refl
    ∙ sym (append_assoc ms (Sign sign.CloseBrace ∷ []) (Sign sign.Semicolon ∷ [])))

classes_unmarked : (m : Marking) (cs : List ClassTree) → unmarked (marked_classes m cs) ≡ spell_classes cs
classes_unmarked m [] = refl
classes_unmarked m (c ∷ cs) = both_unmarked (marked_class m c) (marked_classes m cs) (class_unmarked m c) (classes_unmarked m cs)

main_unmarked : (m : Marking) (ss : Statements) → unmarked (marked_main m ss) ≡ spell_main ss
main_unmarked m ss =
    let end = spell_end (ends_in_zero ss) in
    ap (λ z. Key key.Int ∷ Key key.Main ∷ Sign sign.OpenParenthesis ∷ Sign sign.CloseParenthesis ∷ z)
    (body_unmarked (marked_all (m.before None) None ss ++ tokens end)
    (both_unmarked (marked_all (m.before None) None ss) (tokens end) (all_unmarked (m.before None) None ss) (tokens_unmarked end)))

pub annotated_unmarked : (m : Marking) (t : TextTree) → unmarked (annotated m t) ≡ spell t
annotated_unmarked m t = both_unmarked (marked_classes m t.classes) (marked_main m t.main) (classes_unmarked m t.classes) (main_unmarked m t.main)

-- nothing marked

abbrev OnlyTokens : List Piece → Type 0
OnlyTokens [] = Unit {0}
OnlyTokens (token k ∷ ps) = OnlyTokens ps
OnlyTokens (mark m ∷ ps) = ⊥

only_are : (ps : List Piece) → OnlyTokens ps → ps ≡ tokens (unmarked ps)
only_are [] h = refl
only_are (token k ∷ ps) h = ap (λ z. token k ∷ z) (only_are ps h)
only_are (mark m ∷ ps) h = absurd h

only_both : (ps qs : List Piece) → OnlyTokens ps → OnlyTokens qs → OnlyTokens (ps ++ qs)
only_both [] qs h i = i
only_both (token k ∷ ps) qs h i = only_both ps qs h i
only_both (mark m ∷ ps) qs h i = absurd h

only_tokens : (ks : List Kind) → OnlyTokens (tokens ks)
only_tokens [] = tt
only_tokens (k ∷ ks) = only_tokens ks

only_body : (ps : List Piece) → OnlyTokens ps → OnlyTokens (in_body ps)
only_body ps h = only_both ps (token (Sign sign.CloseBrace) ∷ []) h tt

abbrev nothing : Option Statement → Statement → List Mark
nothing front s = []

mutual
  only_statement : (s : Statement) → OnlyTokens (pieces_of nothing s)
  only_statement (block at ss) = only_body (marked_all nothing None ss) (only_all None ss)
  only_statement (if_only at c s) = only_both (tokens (condition key.If c)) (marked nothing None s) (only_tokens (condition key.If c)) (only_statement s)
  only_statement (if_else at c s t) =
      only_both (tokens (condition key.If c)) (marked nothing None s ++ (token (Key key.Else) ∷ marked nothing None t)) (only_tokens (condition key.If c))
      (only_both (marked nothing None s) (token (Key key.Else) ∷ marked nothing None t) (only_statement s) (only_statement t))
  only_statement (while_loop at c s) = only_both (tokens (condition key.While c)) (marked nothing None s) (only_tokens (condition key.While c)) (only_statement s)
  only_statement (for_loop at first c next s) = only_both (tokens (spell_for first c next)) (marked nothing None s) (only_tokens (spell_for first c next)) (only_statement s)
  only_statement other = only_tokens (spell_line other)

  only_all : (front : Option Statement) (ss : Statements) → OnlyTokens (marked_all nothing front ss)
  only_all front no_statements = tt
  only_all front (statement_and s ss) = only_both (marked nothing front s) (marked_all nothing (Some s) ss) (only_statement s) (only_all (Some s) ss)

only_member : (x : MemberTree) → OnlyTokens (marked_member no_marks x)
only_member (field_member f) = only_tokens (spell_field f)
only_member (method_member x) =
    let signature = spell_result x.result ++ (Word x.name ∷ in_parentheses (spell_params x.params)) in
    let inside = marked_all nothing None x.body ++ [] in
    only_both (tokens signature) (in_body inside) (only_tokens signature) (only_body inside (only_both (marked_all nothing None x.body) [] (only_all None x.body) tt))

only_members : (xs : List MemberTree) → OnlyTokens (marked_members no_marks xs)
only_members [] = tt
only_members (x ∷ xs) = only_both (marked_member no_marks x) (marked_members no_marks xs) (only_member x) (only_members xs)

only_classes : (cs : List ClassTree) → OnlyTokens (marked_classes no_marks cs)
only_classes [] = tt
only_classes (c ∷ cs) =
    only_both (marked_class no_marks c) (marked_classes no_marks cs)
    (only_both (marked_members no_marks c.members) (tokens (Sign sign.CloseBrace ∷ Sign sign.Semicolon ∷ [])) (only_members c.members) tt) (only_classes cs)

only_main : (ss : Statements) → OnlyTokens (marked_main no_marks ss)
only_main ss =
    let end = tokens (spell_end (ends_in_zero ss)) in
    only_body (marked_all nothing None ss ++ end) (only_both (marked_all nothing None ss) end (only_all None ss) (only_tokens (spell_end (ends_in_zero ss))))

pub nothing_annotated : (t : TextTree) → annotated no_marks t ≡ tokens (spell t)
nothing_annotated t =
    only_are (annotated no_marks t) (only_both (marked_classes no_marks t.classes) (marked_main no_marks t.main) (only_classes t.classes) (only_main t.main))
    ∙ ap tokens (annotated_unmarked no_marks t)
