-- Kinds of bytes: blanks, letters, what a name goes on with; and the number that digits spell.
use Prim.Native.Char.{code}
use Rattle.std.specs.Prelude.{ℕ, ◌+◌, ◌-◌, ◌*◌, List, Bool, not, ◌||◌, ◌==◌}
use Rattle.std.specs.List.{fold}
use Rattle.std.specs.Char.{is_ascii_alphabetic, is_ascii_digit}

-- space, tab, carriage return and line feed
abbrev pub is_blank : ℕ → Bool
is_blank b = ((b == code " " || b == code "\t") || b == code "\r") || b == code "\n"

-- what begins a name; `_` counts as a letter
abbrev pub is_letter : ℕ → Bool
is_letter b = is_ascii_alphabetic b || b == code "_"

-- what a name goes on with
abbrev pub is_name_byte : ℕ → Bool
is_name_byte b = is_letter b || is_ascii_digit b

abbrev pub is_no_line_feed : ℕ → Bool
is_no_line_feed b = not (b == code "\n")

-- the number that decimal digits spell
abbrev pub value_of : List ℕ → ℕ
value_of digits = fold (λ n b. n * 10 + (b - code "0")) 0 digits
