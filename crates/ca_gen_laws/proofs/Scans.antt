-- The kinds of the tokens of a generated text, part by part.
use Rattle.std.proofs.Common.{◌≡◌, ℕ, List, [], ◌∷◌, ◌++◌, refl}
use Rattle.std.specs.Prelude.{Some, pos, codes}
use Rattle.ca_tree.specs.declared.token.Kind.{Kind}
use Rattle.ca_tree.specs.declared.token.Kind.TheVariants.{Word, Number, Key, Sign}
use Rattle.ca_tree.specs.declared.token.Keyword.TheVariants as key
use Rattle.ca_tree.specs.declared.token.Sign.TheVariants as sign
use Rattle.ca_lex.specs.Pieces.{piece_of}
use Rattle.ca_gen.specs.Generated.{node_class, table_begin, fill_begin, table_end, main_begin, main_end}
use Rattle.ca_gen_laws.proofs.Chunks.{scan}

abbrev pub node_kinds : List Kind
node_kinds =
    Key key.Class ∷ Word (codes "Node") ∷ Sign sign.OpenBrace ∷ Key key.Public ∷ Sign sign.Colon ∷ Key key.Bool
    ∷ Word (codes "mark") ∷ Sign sign.Semicolon ∷ Key key.Long ∷ Word (codes "value") ∷ Sign sign.Semicolon ∷ Key key.Long
    ∷ Word (codes "sum") ∷ Sign sign.Semicolon ∷ Word (codes "Node") ∷ Sign sign.Times ∷ Word (codes "left") ∷ Sign sign.Semicolon
    ∷ Word (codes "Node") ∷ Sign sign.Times ∷ Word (codes "right") ∷ Sign sign.Semicolon ∷ Key key.Void ∷ Word (codes "set")
    ∷ Sign sign.OpenParenthesis ∷ Key key.Long ∷ Word (codes "v") ∷ Sign sign.Comma ∷ Word (codes "Node") ∷ Sign sign.Times
    ∷ Word (codes "l") ∷ Sign sign.Comma ∷ Word (codes "Node") ∷ Sign sign.Times ∷ Word (codes "r") ∷ Sign sign.CloseParenthesis
    ∷ Sign sign.OpenBrace ∷ Word (codes "value") ∷ Sign sign.Assign ∷ Word (codes "v") ∷ Sign sign.Semicolon ∷ Word (codes "left")
    ∷ Sign sign.Assign ∷ Word (codes "l") ∷ Sign sign.Semicolon ∷ Word (codes "right") ∷ Sign sign.Assign ∷ Word (codes "r")
    ∷ Sign sign.Semicolon ∷ Sign sign.CloseBrace ∷ Key key.Void ∷ Word (codes "visit") ∷ Sign sign.OpenParenthesis ∷ Key key.Long
    ∷ Word (codes "p") ∷ Sign sign.CloseParenthesis ∷ Sign sign.OpenBrace ∷ Word (codes "sum") ∷ Sign sign.PlusAssign ∷ Word (codes "p")
    ∷ Sign sign.Semicolon ∷ Key key.If ∷ Sign sign.OpenParenthesis ∷ Sign sign.Not ∷ Word (codes "mark") ∷ Sign sign.CloseParenthesis
    ∷ Sign sign.OpenBrace ∷ Word (codes "mark") ∷ Sign sign.Assign ∷ Key key.True ∷ Sign sign.Semicolon ∷ Word (codes "left")
    ∷ Sign sign.Arrow ∷ Word (codes "visit") ∷ Sign sign.OpenParenthesis ∷ Word (codes "value") ∷ Sign sign.CloseParenthesis ∷ Sign sign.Semicolon
    ∷ Word (codes "right") ∷ Sign sign.Arrow ∷ Word (codes "visit") ∷ Sign sign.OpenParenthesis ∷ Word (codes "value") ∷ Sign sign.CloseParenthesis
    ∷ Sign sign.Semicolon ∷ Sign sign.CloseBrace ∷ Sign sign.CloseBrace ∷ Sign sign.CloseBrace ∷ Sign sign.Semicolon
    ∷ []

abbrev pub table_begin_kinds : List Kind
table_begin_kinds =
    Key key.Class ∷ Word (codes "Table") ∷ Sign sign.OpenBrace ∷ Key key.Public ∷ Sign sign.Colon ∷ Word (codes "Node")
    ∷ Sign sign.Times ∷ Word (codes "at") ∷ Sign sign.OpenBracket
    ∷ []

abbrev pub fill_begin_kinds : List Kind
fill_begin_kinds =
    Sign sign.CloseBracket ∷ Sign sign.Semicolon ∷ Key key.Void ∷ Word (codes "fill") ∷ Sign sign.OpenParenthesis ∷ Sign sign.CloseParenthesis
    ∷ Sign sign.OpenBrace ∷ Key key.For ∷ Sign sign.OpenParenthesis ∷ Key key.Long ∷ Word (codes "i") ∷ Sign sign.Assign
    ∷ Number (pos 0) ∷ Sign sign.Semicolon ∷ Word (codes "i") ∷ Sign sign.Less
    ∷ []

abbrev pub table_end_kinds : List Kind
table_end_kinds =
    Sign sign.Semicolon ∷ Word (codes "i") ∷ Sign sign.Increment ∷ Sign sign.CloseParenthesis ∷ Word (codes "at") ∷ Sign sign.OpenBracket
    ∷ Word (codes "i") ∷ Sign sign.CloseBracket ∷ Sign sign.Assign ∷ Key key.New ∷ Word (codes "Node") ∷ Sign sign.OpenParenthesis
    ∷ Sign sign.CloseParenthesis ∷ Sign sign.Semicolon ∷ Sign sign.CloseBrace ∷ Key key.Void ∷ Word (codes "link") ∷ Sign sign.OpenParenthesis
    ∷ Key key.Long ∷ Word (codes "i") ∷ Sign sign.Comma ∷ Key key.Long ∷ Word (codes "l") ∷ Sign sign.Comma
    ∷ Key key.Long ∷ Word (codes "r") ∷ Sign sign.CloseParenthesis ∷ Sign sign.OpenBrace ∷ Word (codes "at") ∷ Sign sign.OpenBracket
    ∷ Word (codes "i") ∷ Sign sign.CloseBracket ∷ Sign sign.Arrow ∷ Word (codes "set") ∷ Sign sign.OpenParenthesis ∷ Word (codes "i")
    ∷ Sign sign.Plus ∷ Number (pos 1) ∷ Sign sign.Comma ∷ Word (codes "at") ∷ Sign sign.OpenBracket ∷ Word (codes "l")
    ∷ Sign sign.CloseBracket ∷ Sign sign.Comma ∷ Word (codes "at") ∷ Sign sign.OpenBracket ∷ Word (codes "r") ∷ Sign sign.CloseBracket
    ∷ Sign sign.CloseParenthesis ∷ Sign sign.Semicolon ∷ Sign sign.CloseBrace ∷ Sign sign.CloseBrace ∷ Sign sign.Semicolon
    ∷ []

-- the kinds of a table of so many nodes
abbrev pub table_kinds : ℕ → List Kind
table_kinds size = table_begin_kinds ++ (Number (pos size) ∷ (fill_begin_kinds ++ (Number (pos size) ∷ table_end_kinds)))

abbrev pub main_begin_kinds : List Kind
main_begin_kinds =
    Key key.Int ∷ Key key.Main ∷ Sign sign.OpenParenthesis ∷ Sign sign.CloseParenthesis ∷ Sign sign.OpenBrace ∷ Word (codes "Table")
    ∷ Sign sign.Times ∷ Word (codes "t") ∷ Sign sign.Assign ∷ Key key.New ∷ Word (codes "Table") ∷ Sign sign.OpenParenthesis
    ∷ Sign sign.CloseParenthesis ∷ Sign sign.Semicolon ∷ Word (codes "t") ∷ Sign sign.Arrow ∷ Word (codes "fill") ∷ Sign sign.OpenParenthesis
    ∷ Sign sign.CloseParenthesis ∷ Sign sign.Semicolon
    ∷ []

abbrev pub main_end_kinds : List Kind
main_end_kinds =
    Word (codes "t") ∷ Sign sign.Arrow ∷ Word (codes "at") ∷ Sign sign.OpenBracket ∷ Number (pos 0) ∷ Sign sign.CloseBracket
    ∷ Sign sign.Arrow ∷ Word (codes "visit") ∷ Sign sign.OpenParenthesis ∷ Number (pos 1) ∷ Sign sign.CloseParenthesis ∷ Sign sign.Semicolon
    ∷ Key key.Return ∷ Number (pos 0) ∷ Sign sign.Semicolon ∷ Sign sign.CloseBrace
    ∷ []

abbrev pub link_begin_kinds : List Kind
link_begin_kinds =
    Word (codes "t") ∷ Sign sign.Arrow ∷ Word (codes "link") ∷ Sign sign.OpenParenthesis
    ∷ []

abbrev pub comma_kinds : List Kind
comma_kinds =
    Sign sign.Comma
    ∷ []

abbrev pub link_end_kinds : List Kind
link_end_kinds =
    Sign sign.CloseParenthesis ∷ Sign sign.Semicolon
    ∷ []

abbrev pub link_kinds : ℕ → ℕ → ℕ → List Kind
link_kinds i l r = link_begin_kinds ++ (Number (pos i) ∷ (comma_kinds ++ (Number (pos l) ∷ (comma_kinds ++ (Number (pos r) ∷ link_end_kinds)))))

pub scan_node : (rest : List ℕ) → scan 199 (node_class ++ rest) ≡ Some (node_kinds, rest)
unfolding piece_of node_class
scan_node rest = refl

pub scan_table_begin : (d : ℕ) (more : List ℕ) → scan 16 (table_begin ++ (d ∷ more)) ≡ Some (table_begin_kinds, d ∷ more)
unfolding piece_of table_begin
scan_table_begin d more = refl

pub scan_fill_begin : (rest : List ℕ) → scan 33 (fill_begin ++ rest) ≡ Some (fill_begin_kinds, rest)
unfolding piece_of fill_begin
scan_fill_begin rest = refl

pub scan_table_end : (rest : List ℕ) → scan 85 (table_end ++ rest) ≡ Some (table_end_kinds, rest)
unfolding piece_of table_end
scan_table_end rest = refl

pub scan_main_begin : (rest : List ℕ) → scan 33 (main_begin ++ rest) ≡ Some (main_begin_kinds, rest)
unfolding piece_of main_begin
scan_main_begin rest = refl

pub scan_main_end : (rest : List ℕ) → scan 24 (main_end ++ rest) ≡ Some (main_end_kinds, rest)
unfolding piece_of main_end
scan_main_end rest = refl

pub scan_link_begin : (d : ℕ) (more : List ℕ) → scan 6 (codes "  t->link(" ++ (d ∷ more)) ≡ Some (link_begin_kinds, d ∷ more)
unfolding piece_of
scan_link_begin d more = refl

pub scan_comma : (rest : List ℕ) → scan 2 (codes ", " ++ rest) ≡ Some (comma_kinds, rest)
unfolding piece_of
scan_comma rest = refl

pub scan_link_end : (rest : List ℕ) → scan 3 (codes ");\n" ++ rest) ≡ Some (link_end_kinds, rest)
unfolding piece_of
scan_link_end rest = refl
