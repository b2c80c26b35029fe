-- The first comment of a text that begins with `/*@` and is no mark.
use Prim.Native.Char.{code}
use Rattle.std.specs.Prelude.{◌≡◌, ◌≢◌, ℕ, List, [], ◌∷◌, ◌++◌, take, drop, Bool, true, false, ◌==◌, if◌then◌else◌, Some, None}
use Rattle.ca_tree.specs.declared.name.Place.{Place}
use Rattle.ca_lex.specs.Places.{advance, start, step}
use Rattle.ca_canonical.specs.declared.marks.Mark.{Mark}
use Rattle.ca_canonical.specs.Marks.{mark_text}
use Rattle.ca_canonical.specs.Erased.{comment_len, opens_mark, behind_space}

-- the space that is left out behind a mark
abbrev pub space_of : List ℕ → List ℕ
space_of [] = []
space_of (b ∷ s) = if b == code " " then b ∷ [] else []

-- It stands at the place q, in bytes that begin at the place p. The steps to it are those of the text without its marks.
pub data BadMarkFrom : Place → List ℕ → Place → Type 0 where
  here : {p : Place} {s : List ℕ} → opens_mark s ≡ true → ((m : Mark) (r : List ℕ) → s ≢ mark_text m ++ r) → BadMarkFrom p s p
  behind_mark : {p q : Place} (m : Mark) (s : List ℕ) → BadMarkFrom (advance p (mark_text m ++ space_of s)) (behind_space s) q → BadMarkFrom p (mark_text m ++ s) q
  behind_comment : {p q : Place} {n : ℕ} {s : List ℕ} → comment_len s ≡ Some n → opens_mark s ≡ false → BadMarkFrom (advance p (take n s)) (drop n s) q → BadMarkFrom p s q
  behind_byte : {p q : Place} {b : ℕ} {s : List ℕ} → comment_len (b ∷ s) ≡ None → BadMarkFrom (step p b) s q → BadMarkFrom p (b ∷ s) q

abbrev pub FirstBadMark : List ℕ → Place → Type 0
FirstBadMark text q = BadMarkFrom start text q
