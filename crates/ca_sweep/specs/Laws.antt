-- What a sweep in a section leaves.
use Rattle.std.specs.Prelude.{◌≡◌, ◌↔◌, ℕ, ◌-◌, ◌≤◌, ◌<◌, ℤ, pos, true, List, length, Option, Some, slice_get, slice_set}
use Rattle.std.specs.Int.{w64}
use Rattle.std.specs.Prelude.{FitsSigned}
use Rattle.ca_program.specs.Plain.{PlainProgram, Statement}
use Rattle.ca_model.specs.declared.value.Value.{Value as Datum}
use Rattle.ca_model.specs.declared.value.Value.TheVariants.{Long}
use Rattle.ca_model.specs.declared.value.Slot.{Slot}
use Rattle.ca_model.specs.declared.value.Slot.TheVariants.{Many}
use Rattle.ca_model.specs.declared.value.Object.{Object}
use Rattle.ca_meaning.specs.Expressions.{Invocation}
use Rattle.ca_meaning.specs.Flows.{Flow, goes_on, exec}
use Rattle.ca_meaning.specs.Sections.{Section, section_parts}
use Rattle.ca_program.specs.declared.program.FieldId.{FieldId}
use Rattle.ca_sweep.specs.Sweeps.{PlainSweep, IsSweep, AreSums}
use Rattle.ca_sweep.specs.Found.{sweep_form, sums_known, sweep_in, sweep_at}
use Rattle.ca_sweep.specs.Means.{sum_value, all_but, Table, items_from, swept_by, added, with_items, sweep_cost}

abbrev pub GoesOn : Flow Section → Type 0
GoesOn (goes_on ls s k) = Unit {0}
GoesOn f = ⊥

-- How a sweep of the field f by d, which may tell one index from another, ends on these locals and slots, where it costs this and
-- has k steps: behind its last turn, where the cost is met, and nowhere else.
pub data Sweeps (s : PlainSweep) (ls : List Datum) (own : List Slot) (listed : List Invocation) (len : ℕ) (t : Table) (from to : ℤ) (d : ℤ → Datum) (k : ℕ) : Flow Section → Type 0 where
  sweeps : (c : Datum) (n : ℕ) → sweep_cost len from to ≡ Some n → n ≤ k → Sweeps s ls own listed len t from to d k (goes_on (slice_set ls s.counter.0 c) (record { own = with_items own s.field.field (swept_by t from to d) len; listed = listed }) (k - n))
  fails : (f : Flow Section) → ¬ GoesOn f → ((n : ℕ) → sweep_cost len from to ≡ Some n → k < n) → Sweeps s ls own listed len t from to d k f

-- what the law asks of the place where a sweep stands: its field holds these numbers, its counter is a local, and its bounds
-- and addend are numbers
pub record Stands (s : PlainSweep) (ls : List Datum) (own : List Slot) (len : ℕ) (t : Table) (from to x : ℤ) : Type 0 where
  pub slot : slice_get own s.field.field ≡ Some (Many (items_from t 0 len))
  pub longs : (n : ℕ) → n < len → (z : ℤ) × (t (pos n) ≡ Long z)
  pub counter : s.counter.0 < length ls
  pub sums : AreSums (all_but s.counter.0) s
  pub from_is : sum_value own ls s.from ≡ Long from
  pub to_is : sum_value own ls s.to ≡ Long to
  pub addend_is : sum_value own ls s.addend ≡ Long x
  pub to_fits : FitsSigned w64 to

abbrev pub SweepsAreSwept : Type 0
SweepsAreSwept =
    (p : PlainProgram) (h : List Object) (this : Datum) (line : ℕ) (s : PlainSweep) (loop : Statement) → IsSweep s loop →
    (ls : List Datum) (own : List Slot) (listed : List Invocation) (len : ℕ) (t : Table) (from to x : ℤ) → Stands s ls own len t from to x →
    (k : ℕ) → Sweeps s ls own listed len t from to (λ z. added s.minus (Long x)) k (exec (section_parts p h this) line ls (record { own = own; listed = listed }) loop k)

-- A statement has the form of a sweep exactly where it is a loop of that form; and the sums that a sweep may have name neither
-- its counter nor what isn't a number.
abbrev pub FormsAreFound : Type 0
FormsAreFound = (x : Statement) (s : PlainSweep) → (sweep_form x ≡ Some s) ↔ IsSweep s x

abbrev pub SumsAreKnown : Type 0
SumsAreKnown = (s : PlainSweep) (below : Option ℕ) (written : List FieldId) → sums_known s below written ≡ true → AreSums (all_but s.counter.0) s

abbrev pub SweepsAreFound : Type 0
SweepsAreFound = (params : ℕ) (written : List FieldId) (x : Statement) (s : PlainSweep) → (sweep_in params written x ≡ Some s) ↔ (IsSweep s x × (sums_known s (Some params) written ≡ true))

-- A sweep of an extent is one by its form.
abbrev pub SweepsAreWide : Type 0
SweepsAreWide = (params : ℕ) (written : List FieldId) (x : Statement) (s : PlainSweep) → sweep_in params written x ≡ Some s → sweep_at x ≡ Some s

-- and what is one by its form is a sweep
abbrev pub FormsAreSweeps : Type 0
FormsAreSweeps = (x : Statement) (s : PlainSweep) → sweep_at x ≡ Some s → IsSweep s x × AreSums (all_but s.counter.0) s
