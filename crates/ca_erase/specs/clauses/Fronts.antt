-- What stands in front of a text, as a step on the way to the text without its marks.
use Rattle.std.specs.Prelude.{◌≡◌, ◌≢◌, ◌<◌, ◌≤◌, ℕ, List, [], ◌++◌, length, take, drop, true}
use Rattle.ca_tree.specs.declared.name.Place.{Place}
use Rattle.ca_lex.specs.Places.{advance}
use Rattle.ca_canonical.specs.declared.marks.Mark.{Mark}
use Rattle.ca_canonical.specs.Marks.{mark_text}
use Rattle.ca_canonical.specs.Erased.{Erased, opens_mark}
use Rattle.ca_erase.specs.BadMarks.{BadMarkFrom}
use Rattle.ca_erase.specs.declared.front.Front.{Front}
use Rattle.ca_erase.specs.declared.front.Front.TheVariants as front

-- The n bytes in front are u without marks, and what is refused first behind them is refused first.
pub record Step (s : List ℕ) (n : ℕ) (u : List ℕ) : Type 0 where
  pub some : 0 < n
  pub fits : n ≤ length s
  pub erased : (t : List ℕ) → Erased (drop n s) t → Erased s (u ++ t)
  pub places : (p q : Place) → BadMarkFrom (advance p (take n s)) (drop n s) q → BadMarkFrom p s q

-- what begins with `/*@` and is no mark
pub record IsBadMark (s : List ℕ) : Type 0 where
  pub opens : opens_mark s ≡ true
  pub no_mark : (m : Mark) (r : List ℕ) → s ≢ mark_text m ++ r

abbrev pub IsFront : Front → List ℕ → Type 0
IsFront (front.Left n) s = Step s n []
IsFront (front.Kept n) s = Step s n (take n s)
IsFront front.BadMark s = IsBadMark s
