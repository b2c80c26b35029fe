-- What a sweep does: the values of its bounds and its addend, the table that it leaves, and the steps that it takes.
use Rattle.std.specs.Prelude.{ℕ, zero, suc, ◌-◌, ℤ, pos, int_lt, Bool, true, false, cond, nat_le, nat_eq, if◌then◌else◌, List, [], ◌∷◌, Option, Some, None, slice_get, slice_set, Result, Ok, Err}
use Rattle.ca_tree.specs.declared.tree.BinaryOp.{BinaryOp}
use Rattle.ca_tree.specs.declared.tree.BinaryOp.TheVariants.{Plus}
use Rattle.ca_tree.specs.declared.tree.UnaryOp.TheVariants as sign
use Rattle.ca_program.specs.declared.program.FieldInfo.{FieldInfo}
use Rattle.ca_program.specs.Plain.{Expression, number, local, own, binary}
use Rattle.ca_model.specs.declared.value.Value.{Value as Datum}
use Rattle.ca_model.specs.declared.value.Value.TheVariants.{Long, Null}
use Rattle.ca_model.specs.declared.value.Slot.{Slot}
use Rattle.ca_model.specs.declared.value.Slot.TheVariants.{Many}
use Rattle.ca_model.specs.declared.value.TrapKind.{TrapKind}
use Rattle.ca_model.specs.Slots.{one_in}
use Rattle.ca_meaning.specs.Operators.{operated, signed, not_of, both}
use Rattle.ca_meaning.specs.Expressions.{value_at}
use Rattle.ca_sweep.specs.Sweeps.{Known}

-- Sums

abbrev pub value_or_null : Result Datum TrapKind → Datum
value_or_null (Ok v) = v
value_or_null (Err kind) = Null

abbrev pub operate : BinaryOp → Datum → Datum → Datum
operate op a b = value_or_null (operated op a b)

-- the value of a sum of products, with these own slots and locals
abbrev pub sum_value : List Slot → List Datum → Expression → Datum
sum_value own_slots ls (number n) = Long n
sum_value own_slots ls (local l) = value_at ls l.0
sum_value own_slots ls (own f) = one_in (slice_get own_slots f.field)
sum_value own_slots ls (binary op a b) = operate op (sum_value own_slots ls a) (sum_value own_slots ls b)
sum_value own_slots ls e = Null

-- any local but one, and any field
abbrev pub all_but : ℕ → Known
all_but i = record { local = λ n. not_of (nat_eq i n); field = λ f. true }

-- Tables: what an array holds at every number

abbrev pub Table : Type 0
Table = ℤ → Datum

-- so many items of a table, from an index on
abbrev pub items_from : Table → ℕ → ℕ → List Datum
items_from t i zero = []
items_from t i (suc n) = t (pos i) ∷ items_from t (suc i) n

-- a number from one up to but not including another
abbrev pub between : ℤ → ℤ → ℤ → Bool
between from to k = both (not_of (int_lt k from)) (int_lt k to)

-- with its own addend added at each number between
abbrev pub swept_by : Table → ℤ → ℤ → (ℤ → Datum) → Table
swept_by t from to d k = cond (between from to k) (operate Plus (t k) (d k)) (t k)

-- with d added at each
abbrev pub swept : Table → ℤ → ℤ → Datum → Table
swept t from to d = swept_by t from to (λ k. d)

-- what is added, where the addend may be taken off
abbrev pub added : Bool → Datum → Datum
added true d = signed sign.Minus d
added false d = d

-- the slots with the items of a table in one of them
abbrev pub with_items : List Slot → ℕ → Table → ℕ → List Slot
with_items own_slots f t len = slice_set own_slots f (Many (items_from t 0 len))

-- Steps

-- the steps from one number to a greater one within a length, and none where that fails
abbrev pub range_cost : ℕ → ℤ → ℤ → Option ℕ
range_cost len (pos m) (pos n) = if nat_le n len then Some (n - m) else None
range_cost len from to = None

-- A sweep takes a step for each number between. Where there are any it fails unless all are indexes.
abbrev pub sweep_cost : ℕ → ℤ → ℤ → Option ℕ
sweep_cost len from to = if int_lt from to then range_cost len from to else Some 0

-- from the length of the field, if it has one, and the values of the bounds
abbrev pub sweep_cost_of : Option ℕ → Datum → Datum → Option ℕ
sweep_cost_of (Some len) (Long from) (Long to) = sweep_cost len from to
sweep_cost_of len from to = None

abbrev pub length_in : Option FieldInfo → Option ℕ
length_in None = None
length_in (Some f) = f.length
