-- The text of pieces, and the canonical text of some tokens.
use Prim.Native.Char.{code}
use Rattle.std.specs.Prelude.{ℕ, ◌+◌, ◌-◌, List, [], ◌∷◌, ◌++◌, Bool, true, false, ◌==◌, if◌then◌else◌, Option, Some, None}
use Rattle.std.specs.Fmt.{signed_decimal}
use Rattle.ca_tree.specs.declared.token.Kind.{Kind}
use Rattle.ca_tree.specs.declared.token.Kind.TheVariants.{Word, Number, Key, Sign}
use Rattle.ca_tree.specs.declared.token.Sign.{Sign as TheSign}
use Rattle.ca_tree.specs.declared.token.Sign.TheVariants as sign
use Rattle.ca_tree.specs.Spellings.{keyword_text, sign_text}
use Rattle.ca_canonical.specs.Marks.{Piece, token, mark, tokens, mark_text}

-- a name as its bytes, a number in decimal digits
abbrev pub kind_text : Kind → List ℕ
kind_text (Word name) = name
kind_text (Number n) = signed_decimal n
kind_text (Key k) = keyword_text k
kind_text (Sign s) = sign_text s

abbrev pub is_semicolon : TheSign → Bool
is_semicolon sign.Semicolon = true
is_semicolon other = false

abbrev pub semicolon : Kind → Bool
semicolon (Sign s) = is_semicolon s
semicolon (Word name) = false
semicolon (Number n) = false
semicolon (Key k) = false

-- whether a `;` comes first
abbrev pub semicolon_first : List Piece → Bool
semicolon_first [] = false
semicolon_first (token k ∷ ps) = semicolon k
semicolon_first (mark m ∷ ps) = false

-- a line feed stands behind a `}` that no `;` follows, else one space
abbrev pub behind_brace : Bool → ℕ
behind_brace semicolon = if semicolon then code " " else code "\n"

-- The byte behind a sign within so many round brackets: a line feed behind each `{`, each `:` and each `;` outside round
-- brackets, one space behind each other sign. Behind a `}` what follows decides.
abbrev pub gap_behind : ℕ → TheSign → Option ℕ
gap_behind depth sign.OpenBrace = Some (code "\n")
gap_behind depth sign.Colon = Some (code "\n")
gap_behind depth sign.Semicolon = if depth == 0 then Some (code "\n") else Some (code " ")
gap_behind depth sign.CloseBrace = None
gap_behind depth other = Some (code " ")

-- the byte itself, where next are the pieces behind the sign
abbrev pub gap_before : Option ℕ → List Piece → ℕ
gap_before (Some b) next = b
gap_before None next = behind_brace (semicolon_first next)

-- the byte behind a token
abbrev pub behind : ℕ → Kind → List Piece → ℕ
behind depth (Sign s) next = gap_before (gap_behind depth s) next
behind depth (Word name) next = code " "
behind depth (Number n) next = code " "
behind depth (Key k) next = code " "

-- the round brackets that are open behind a sign
abbrev pub depth_behind_sign : ℕ → TheSign → ℕ
depth_behind_sign depth sign.OpenParenthesis = depth + 1
depth_behind_sign depth sign.CloseParenthesis = depth - 1
depth_behind_sign depth other = depth

abbrev pub depth_behind : ℕ → Kind → ℕ
depth_behind depth (Sign s) = depth_behind_sign depth s
depth_behind depth (Word name) = depth
depth_behind depth (Number n) = depth
depth_behind depth (Key k) = depth

-- the text of pieces within so many round brackets; one space stands behind a mark
abbrev pub pieces_from : ℕ → List Piece → List ℕ
pieces_from depth [] = []
pieces_from depth (token k ∷ ps) = kind_text k ++ behind depth k ps ∷ pieces_from (depth_behind depth k) ps
pieces_from depth (mark m ∷ ps) = mark_text m ++ code " " ∷ pieces_from depth ps

abbrev pub text_of_pieces : List Piece → List ℕ
text_of_pieces ps = pieces_from 0 ps

abbrev pub text_of : List Kind → List ℕ
text_of ks = text_of_pieces (tokens ks)
