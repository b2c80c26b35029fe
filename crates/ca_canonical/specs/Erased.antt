-- A text without its marks.
use Prim.Native.Char.{code}
use Rattle.std.specs.Prelude.{◌≡◌, ℕ, ◌+◌, List, [], ◌∷◌, ◌++◌, length, take, drop, Bool, false, ◌==◌, ◌&&◌, if◌then◌else◌, Option, Some, None}
use Rattle.std.specs.List.{prefix_len}
use Rattle.ca_lex.specs.Bytes.{is_no_line_feed}
use Rattle.ca_lex.specs.Pieces.{begins, close_len}
use Rattle.ca_canonical.specs.declared.marks.Mark.{Mark}
use Rattle.ca_canonical.specs.Marks.{mark_text}

-- how many bytes a comment of `/*` has, where s stands behind these two: through the first `*/`, or with none all that there are
abbrev pub block_len : Option ℕ → List ℕ → ℕ
block_len (Some n) s = n + 2
block_len None s = length s + 2

-- how many bytes the comment has that a `/` begins, where s follows it
abbrev pub comment_behind : List ℕ → Option ℕ
comment_behind s =
    if begins (λ b. b == code "/") s then Some (prefix_len is_no_line_feed s + 1)
    else if begins (λ b. b == code "*") s then Some (block_len (close_len (drop 1 s)) (drop 1 s))
    else None

-- how many bytes the comment in front has
abbrev pub comment_len : List ℕ → Option ℕ
comment_len [] = None
comment_len (b ∷ s) = if b == code "/" then comment_behind s else None

-- whether `/*@` stands in front
abbrev pub opens_mark : List ℕ → Bool
opens_mark (a ∷ b ∷ c ∷ s) = a == code "/" && b == code "*" && c == code "@"
opens_mark other = false

abbrev pub behind_space : List ℕ → List ℕ
behind_space [] = []
behind_space (b ∷ s) = if b == code " " then s else b ∷ s

-- The second text is the first without its marks, each left out with one space behind it. Any other comment is copied with
-- what stands inside it, and none that begins with `/*@` is there.
pub data Erased : List ℕ → List ℕ → Type 0 where
  at_end : Erased [] []
  a_mark : {t : List ℕ} (m : Mark) (s : List ℕ) → Erased (behind_space s) t → Erased (mark_text m ++ s) t
  a_comment : {s t : List ℕ} {n : ℕ} → comment_len s ≡ Some n → opens_mark s ≡ false → Erased (drop n s) t → Erased s (take n s ++ t)
  a_byte : {b : ℕ} {s t : List ℕ} → comment_len (b ∷ s) ≡ None → Erased s t → Erased (b ∷ s) (b ∷ t)
