-- How key words and signs are spelled.
use Rattle.std.specs.Prelude.{ℕ, List, [], ◌∷◌, ◌++◌, Bool, Option, codes, find}
use Rattle.std.specs.Str.{bytes_eq}
use Rattle.ca_tree.specs.declared.token.Keyword.{Keyword}
use Rattle.ca_tree.specs.declared.token.Keyword.TheVariants as key
use Rattle.ca_tree.specs.declared.token.Sign.{Sign}
use Rattle.ca_tree.specs.declared.token.Sign.TheVariants as sign

-- key words

abbrev pub keyword_text : Keyword → List ℕ
keyword_text key.Class = codes "class"
keyword_text key.Public = codes "public"
keyword_text key.Long = codes "long"
keyword_text key.Bool = codes "bool"
keyword_text key.Int = codes "int"
keyword_text key.Void = codes "void"
keyword_text key.If = codes "if"
keyword_text key.Else = codes "else"
keyword_text key.While = codes "while"
keyword_text key.For = codes "for"
keyword_text key.Return = codes "return"
keyword_text key.New = codes "new"
keyword_text key.Nullptr = codes "nullptr"
keyword_text key.This = codes "this"
keyword_text key.True = codes "true"
keyword_text key.False = codes "false"
keyword_text key.Print = codes "print"
keyword_text key.Main = codes "main"
keyword_text key.Max = codes "max"
keyword_text key.Min = codes "min"

-- the key words of declarations
abbrev pub declaration_words : List Keyword
declaration_words = key.Class ∷ key.Public ∷ key.Long ∷ key.Bool ∷ key.Int ∷ key.Void ∷ key.Main ∷ []

-- the key words of bodies
abbrev pub body_words : List Keyword
body_words =
    key.If ∷ key.Else ∷ key.While ∷ key.For ∷ key.Return ∷ key.Print ∷ key.New ∷ key.Nullptr ∷ key.This ∷ key.True ∷ key.False
    ∷ key.Max ∷ key.Min ∷ []

abbrev pub spells_keyword : List ℕ → Keyword → Bool
spells_keyword word k = bytes_eq word (keyword_text k)

-- the key word that is spelled so
abbrev pub keyword_of : List ℕ → Option Keyword
keyword_of word = find (spells_keyword word) (declaration_words ++ body_words)

-- signs

abbrev pub sign_text : Sign → List ℕ
sign_text sign.OpenBrace = codes "{"
sign_text sign.CloseBrace = codes "}"
sign_text sign.OpenParenthesis = codes "("
sign_text sign.CloseParenthesis = codes ")"
sign_text sign.OpenBracket = codes "["
sign_text sign.CloseBracket = codes "]"
sign_text sign.Semicolon = codes ";"
sign_text sign.Comma = codes ","
sign_text sign.Colon = codes ":"
sign_text sign.Assign = codes "="
sign_text sign.Equal = codes "=="
sign_text sign.NotEqual = codes "!="
sign_text sign.Less = codes "<"
sign_text sign.Greater = codes ">"
sign_text sign.LessEqual = codes "<="
sign_text sign.GreaterEqual = codes ">="
sign_text sign.Plus = codes "+"
sign_text sign.Minus = codes "-"
sign_text sign.Times = codes "*"
sign_text sign.Divide = codes "/"
sign_text sign.Remainder = codes "%"
sign_text sign.Not = codes "!"
sign_text sign.And = codes "&&"
sign_text sign.Or = codes "||"
sign_text sign.Arrow = codes "->"
sign_text sign.PlusAssign = codes "+="
sign_text sign.MinusAssign = codes "-="
sign_text sign.TimesAssign = codes "*="
sign_text sign.Increment = codes "++"
sign_text sign.Decrement = codes "--"
sign_text sign.BitAnd = codes "&"
sign_text sign.BitOr = codes "|"
sign_text sign.BitXor = codes "^"
sign_text sign.BitAndAssign = codes "&="
sign_text sign.BitOrAssign = codes "|="
sign_text sign.BitXorAssign = codes "^="

-- the signs of one byte
abbrev pub single_signs : List Sign
single_signs =
    sign.OpenBrace ∷ sign.CloseBrace ∷ sign.OpenParenthesis ∷ sign.CloseParenthesis ∷ sign.OpenBracket ∷ sign.CloseBracket
    ∷ sign.Semicolon ∷ sign.Comma ∷ sign.Colon ∷ sign.Assign ∷ sign.Less ∷ sign.Greater ∷ sign.Plus ∷ sign.Minus ∷ sign.Times
    ∷ sign.Divide ∷ sign.Remainder ∷ sign.Not ∷ sign.BitAnd ∷ sign.BitOr ∷ sign.BitXor ∷ []

-- the signs of two bytes
abbrev pub double_signs : List Sign
double_signs =
    sign.Equal ∷ sign.NotEqual ∷ sign.LessEqual ∷ sign.GreaterEqual ∷ sign.And ∷ sign.Or ∷ sign.Arrow ∷ sign.PlusAssign
    ∷ sign.MinusAssign ∷ sign.TimesAssign ∷ sign.Increment ∷ sign.Decrement ∷ sign.BitAndAssign ∷ sign.BitOrAssign
    ∷ sign.BitXorAssign ∷ []

abbrev pub spells_sign : List ℕ → Sign → Bool
spells_sign bytes s = bytes_eq bytes (sign_text s)

-- the sign that is spelled by the byte
abbrev pub single_sign : ℕ → Option Sign
single_sign b = find (spells_sign (b ∷ [])) single_signs

-- the sign that is spelled by the two bytes
abbrev pub double_sign : ℕ → ℕ → Option Sign
double_sign a b = find (spells_sign (a ∷ b ∷ [])) double_signs
