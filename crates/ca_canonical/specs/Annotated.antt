-- The pieces of a tree: its canonical tokens, and the marks between them.
use Rattle.std.specs.Prelude.{List, [], ◌∷◌, ◌++◌, Option, Some, None}
use Rattle.ca_tree.specs.declared.token.Kind.TheVariants.{Word, Key, Sign}
use Rattle.ca_tree.specs.declared.token.Keyword.TheVariants as key
use Rattle.ca_tree.specs.declared.token.Sign.TheVariants as sign
use Rattle.ca_tree.specs.Plain.{Statement, Statements, MethodTree, MemberTree, ClassTree, TextTree, block, if_only, if_else, while_loop, for_loop, no_statements, statement_and, field_member, method_member}
use Rattle.ca_canonical.specs.declared.marks.Mark.{Mark}
use Rattle.ca_canonical.specs.Marks.{Piece, token, tokens, marks, Marking}
use Rattle.ca_canonical.specs.Spell.{spell_line, spell_field, spell_result, spell_params, spell_end, spell_for, condition, in_parentheses, ends_in_zero}

abbrev pub in_body : List Piece → List Piece
in_body ps = token (Sign sign.OpenBrace) ∷ (ps ++ token (Sign sign.CloseBrace) ∷ [])

abbrev mutual
  -- a statement without the marks before it
  pub pieces_of : (Option Statement → Statement → List Mark) → Statement → List Piece
  pieces_of before (block at ss) = in_body (marked_all before None ss)
  pieces_of before (if_only at c s) = tokens (condition key.If c) ++ (marks (before None s) ++ pieces_of before s)
  pieces_of before (if_else at c s t) =
      tokens (condition key.If c) ++ ((marks (before None s) ++ pieces_of before s) ++ (token (Key key.Else) ∷ (marks (before None t) ++ pieces_of before t)))
  pieces_of before (while_loop at c s) = tokens (condition key.While c) ++ (marks (before None s) ++ pieces_of before s)
  pieces_of before (for_loop at first c next s) = tokens (spell_for first c next) ++ (marks (before None s) ++ pieces_of before s)
  pieces_of before other = tokens (spell_line other)

  -- statements of a list, behind the one in front of them or at its beginning
  pub marked_all : (Option Statement → Statement → List Mark) → Option Statement → Statements → List Piece
  marked_all before front no_statements = []
  marked_all before front (statement_and s ss) = (marks (before front s) ++ pieces_of before s) ++ marked_all before (Some s) ss

-- a statement behind the marks before it
abbrev pub marked : (Option Statement → Statement → List Mark) → Option Statement → Statement → List Piece
marked before front s = marks (before front s) ++ pieces_of before s

abbrev pub marked_method : Marking → MethodTree → List Piece
marked_method m x =
    tokens (spell_result x.result ++ (Word x.name ∷ in_parentheses (spell_params x.params)))
    ++ in_body (marks (m.opening x.at) ++ (marked_all (m.before (Some x.at)) None x.body ++ marks (m.closing x.at)))

abbrev pub marked_member : Marking → MemberTree → List Piece
marked_member m (field_member f) = tokens (spell_field f)
marked_member m (method_member x) = marked_method m x

abbrev pub marked_members : Marking → List MemberTree → List Piece
marked_members m [] = []
marked_members m (x ∷ xs) = marked_member m x ++ marked_members m xs

abbrev pub marked_class : Marking → ClassTree → List Piece
marked_class m c =
    tokens (Key key.Class ∷ Word c.name ∷ Sign sign.OpenBrace ∷ Key key.Public ∷ Sign sign.Colon ∷ [])
    ++ (marked_members m c.members ++ tokens (Sign sign.CloseBrace ∷ Sign sign.Semicolon ∷ []))

abbrev pub marked_classes : Marking → List ClassTree → List Piece
marked_classes m [] = []
marked_classes m (c ∷ cs) = marked_class m c ++ marked_classes m cs

abbrev pub marked_main : Marking → Statements → List Piece
marked_main m ss =
    tokens (Key key.Int ∷ Key key.Main ∷ in_parentheses [])
    ++ in_body (marked_all (m.before None) None ss ++ tokens (spell_end (ends_in_zero ss)))

abbrev pub annotated : Marking → TextTree → List Piece
annotated m t = marked_classes m t.classes ++ marked_main m t.main
