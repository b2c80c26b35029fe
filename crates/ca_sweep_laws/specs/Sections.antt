-- The section of an operation whose body is one sweep.
use Rattle.std.specs.Prelude.{◌≡◌, ℕ, ◌+◌, ◌≤◌, ◌<◌, ℤ, List, [], Option, Some, slice_get}
use Rattle.ca_program.specs.declared.program.OpId.{OpId}
use Rattle.ca_program.specs.Plain.{PlainProgram, PlainMethod, Statement, statement_and, no_statements}
use Rattle.ca_model.specs.declared.value.Value.{Value as Datum}
use Rattle.ca_model.specs.declared.value.Value.TheVariants.{Long}
use Rattle.ca_model.specs.declared.value.Slot.TheVariants.{Many}
use Rattle.ca_model.specs.declared.value.Object.{Object}
use Rattle.ca_meaning.specs.Functions.{locals_of}
use Rattle.ca_meaning.specs.ProgramTyped.{OperationTyped, field_info}
use Rattle.ca_meaning.specs.Sections.{Sectioned, done, section}
use Rattle.ca_meaning.specs.Sections as sections
use Rattle.ca_meaning.specs.WellTyped.{ValuesTyped, IsTypedObject, parameters_of}
use Rattle.ca_sweep.specs.Sweeps.{PlainSweep, IsSweep, AreSums}
use Rattle.ca_sweep.specs.Means.{sum_value, all_but, Table, items_from, swept, added, with_items, length_in, sweep_cost_of}

abbrev pub IsDone : Sectioned → Type 0
IsDone (done m) = Unit {0}
IsDone other = ⊥

-- How such a section ends with k steps: done where its demand doesn't fail and the steps are enough for that and for one
-- more, and else not.
pub data Ends (o : Object) (s : PlainSweep) (len : ℕ) (t : Table) (from to : ℤ) (d : Datum) (cost : Option ℕ) (k : ℕ) : Sectioned → Type 0 where
  completes : (n : ℕ) → cost ≡ Some n → 1 + n ≤ k → Ends o s len t from to d cost k (done (record { object = record { class = o.class; slots = with_items o.slots s.field.field (swept t from to d) len }; listed = []; steps = 1 + n }))
  fails : (r : Sectioned) → ¬ IsDone r → ((n : ℕ) → cost ≡ Some n → k < 1 + n) → Ends o s len t from to d cost k r

-- the numbers of the field, and the values of the bounds and of the addend
pub record Sweeping (p : PlainProgram) (o : Object) (ls : List Datum) (s : PlainSweep) : Type 0 where
  pub len : ℕ
  pub table : Table
  pub from : ℤ
  pub to : ℤ
  pub addend : ℤ
  pub length_is : length_in (field_info p s.field) ≡ Some len
  pub slot : slice_get o.slots s.field.field ≡ Some (Many (items_from table 0 len))
  pub from_is : sum_value o.slots ls s.from ≡ Long from
  pub to_is : sum_value o.slots ls s.to ≡ Long to
  pub addend_is : sum_value o.slots ls s.addend ≡ Long addend

abbrev pub SectionsOfSweeps : Type 0
SectionsOfSweeps =
    (p : PlainProgram) (h : List Object) (r : ℕ) (o : Object) (op : OpId) (m : PlainMethod) → slice_get p.ops op.0 ≡ Some m → OperationTyped p m → IsTypedObject p h m.class o →
    (arguments : List Datum) → ValuesTyped h arguments (parameters_of m) →
    (s : PlainSweep) (loop : Statement) → m.body.statements ≡ statement_and loop no_statements → IsSweep s loop → AreSums (all_but s.counter.0) s →
    (w : Sweeping p o (locals_of (Some m) arguments) s) × ((k : ℕ) →
    Ends o s w.len w.table w.from w.to (added s.minus (Long w.addend)) (sweep_cost_of (length_in (field_info p s.field)) (Long w.from) (Long w.to)) k (section p h r o op arguments k))
