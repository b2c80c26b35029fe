-- What reading a text comes to.
use Rattle.std.specs.Prelude.{ℕ, ◌≡◌, List}
use Rattle.ca_tree.specs.declared.name.Place.{Place}
use Rattle.ca_tree.specs.Plain.{TextTree}
use Rattle.ca_program.specs.Plain.{PlainProgram}
use Rattle.ca_app.specs.declared.reading.NoProgram.{NoProgram}
use Rattle.ca_app.specs.declared.reading.NoProgram.TheVariants.{Refused, Memory}
use Rattle.ca_app.specs.Accepted.{HasTree, Accepted}
use Rattle.ca_app.specs.Refusals.{RefusedAt}

-- The text has this tree and no other.
pub record HasOneTree (text : List ℕ) (tree : TextTree) : Type 0 where
  pub is : HasTree text tree
  pub only : (other : TextTree) → HasTree text other → other ≡ tree

-- The text is accepted with this program and no other, and not refused.
pub record IsProgramOf (text : List ℕ) (program : PlainProgram) : Type 0 where
  pub accepted : Accepted text program
  pub only : (other : PlainProgram) → Accepted text other → other ≡ program
  pub unrefused : (at : Place) (code : ℕ) → RefusedAt text at code → ⊥

-- The text is refused at this place by this code and no other, and not accepted.
pub record IsRefusalOf (text : List ℕ) (at : Place) (code : ℕ) : Type 0 where
  pub refused : RefusedAt text at code
  pub place : (other : Place) (number : ℕ) → RefusedAt text other number → other ≡ at
  pub number : (other : Place) (number : ℕ) → RefusedAt text other number → number ≡ code
  pub unaccepted : (program : PlainProgram) → Accepted text program → ⊥

-- a refusal is that of the text; out of memory says nothing of it
abbrev pub IsCauseFor : List ℕ → NoProgram → Type 0
IsCauseFor text (Refused r) = IsRefusalOf text r.at r.code.0
IsCauseFor text Memory = Unit {0}
