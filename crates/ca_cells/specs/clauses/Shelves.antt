-- Shelves. The class of an object is its number modulo the number of classes; a shelf has the histories of a class that
-- have begun.
use Rattle.std.specs.Prelude.{◌≡◌, ◌≢◌, ℕ, ◌%◌, ◌<◌, ◌==◌, cond, List, [], ◌∷◌, ◌++◌, All, map, replicate, length, Option, Some, None, slice_get, Contains}
use mathlib.Core.Option.{some}
use lib.ListN.{get_elem?}
use Rattle.ca_model.specs.declared.value.Object.{Object}
use Rattle.ca_logs.specs.declared.log.CellLog.{CellLog}
use Rattle.ca_logs.specs.Touched.{Touched}
use Rattle.ca_cells.specs.declared.slot.Held.{Held}

-- the history of the object of that number, where it has begun
abbrev pub found : List Held → ℕ → Option CellLog
found [] number = None
found (h ∷ hs) number = cond (h.number == number) (Some h.log) (found hs number)

-- no number stands twice
abbrev pub AreOnce : List Held → Type 0
AreOnce [] = Unit {0}
AreOnce (h ∷ hs) = (found hs h.number ≡ None) × AreOnce hs

-- there is one, of that object
abbrev pub IsNumbered : ℕ → Option Held → Type 0
IsNumbered number None = ⊥
IsNumbered number (Some held) = held.number ≡ number

-- it is an object of the class
abbrev pub IsIn : ℕ → ℕ → ℕ → ℕ → Type 0
IsIn objects classes class number = (number < objects) × (number % classes ≡ class)

-- its histories are those of objects of the class, of each one at most
pub record IsShelf (objects classes class : ℕ) (shelf : List Held) : Type 0 where
  pub once : AreOnce shelf
  pub inside : All (λ (h : Held). IsIn objects classes class h.number) shelf

-- without the history of that number, all others as they are
pub record Without (shelf : List Held) (number : ℕ) (others : List Held) : Type 0 where
  pub none : found others number ≡ None
  pub same : (other : ℕ) → other ≢ number → found others other ≡ found shelf other
  pub once : AreOnce others
  pub of : All (λ (h : Held). Contains shelf h) others

-- the history for which a shelf stands: what is on it, or one without entries of the object
abbrev pub StandsAt : List Object → ℕ → Option CellLog → CellLog → Type 0
StandsAt now number None log = (log.entries ≡ []) × (log.object ≡ log.opened.value) × (slice_get now number ≡ Some log.opened.value)
StandsAt now number (Some kept) log = kept ≡ log

-- as one of the touched histories
abbrev pub touched_of : Held → Touched
touched_of h = record { number = h.number; log = h.log }

abbrev pub all_touched : List Held → List Touched
all_touched hs = map touched_of hs

-- the histories on all shelves
abbrev pub joined_shelves : List (List Held) → List Held
joined_shelves [] = []
joined_shelves (shelf ∷ shelves) = shelf ++ joined_shelves shelves

-- the histories are those for which the shelves stand
abbrev pub AreFrom : List Object → List (List Held) → List CellLog → Type 0
AreFrom now shelves logs = (number : ℕ) (log : CellLog) → slice_get logs number ≡ Some log
    → (number < length now) × (shelf : List Held) × (get_elem? shelves (number % length shelves) ≡ some shelf) × StandsAt now number (found shelf number) log

-- each is a shelf of its class
abbrev pub AreShelves : ℕ → List (List Held) → Type 0
AreShelves objects shelves = (class : ℕ) (shelf : List Held) → get_elem? shelves class ≡ some shelf → IsShelf objects (length shelves) class shelf

-- no history has begun
abbrev pub AreVacant : List (List Held) → Type 0
AreVacant shelves = shelves ≡ replicate (length shelves) []
