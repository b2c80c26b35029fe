-- What atoms, reads of other objects and calls of value methods stand for in a run.
use Rattle.std.specs.Prelude.{ℕ, ℤ, zero, suc, pos, List, slice_get}
use Rattle.ca_program.specs.declared.program.FieldId.{FieldId}
use Rattle.ca_program.specs.Plain.{PlainProgram}
use Rattle.ca_model.specs.declared.value.Value.{Value as Datum}
use Rattle.ca_model.specs.declared.value.Value.TheVariants.{Long, Null, Ref}
use Rattle.ca_model.specs.declared.value.Object.{Object}
use Rattle.ca_meaning.specs.Expressions.{Out, gives, traps, over, value_at, one_in, items_in, slot_of}
use Rattle.ca_meaning.specs.Functions.{functions_of}

-- A program and a heap; the receiver's number and its object at the start; the arguments of two operations; and how
-- many steps each call of a value method may take (a step index).
pub record Environment : Type 0 where
  pub program : PlainProgram
  pub heap : List Object
  pub receiver : ℕ
  pub object : Object
  pub first : List Datum
  pub second : List Datum
  pub steps : ℕ

-- Group 0 is the receiver, 1 and 2 are the arguments of the first and of the second operation, and 3 is what the
-- receiver's fields hold at the start.
abbrev pub atom_in : Environment → ℕ → ℕ → Datum
atom_in s zero n = Ref s.receiver
atom_in s (suc zero) n = value_at s.first n
atom_in s (suc (suc zero)) n = value_at s.second n
atom_in s (suc (suc (suc g))) n = one_in (slice_get s.object.slots n)

abbrev item_at : List Datum → Datum → Datum
item_at vs (Long (pos i)) = value_at vs i
item_at vs i = Null

-- The items of a field of the receiver that is an array, as they are at the start; any other atom has none.
abbrev pub own_item_in : Environment → ℕ → ℕ → ℤ → Datum
own_item_in s (suc (suc (suc g))) n k = item_at (items_in (slice_get s.object.slots n)) (Long k)
own_item_in s g n k = Null

abbrev field : ℕ → ℕ → FieldId
field c f = record { class = record { 0 = c }; field = f }

-- A field of an object of the heap. Through null, and past what there is, a read gives null, which is taken as the
-- start value of the sort that is asked for.
abbrev pub read_in : Environment → Datum → ℕ → ℕ → Datum
read_in s (Ref r) c f = one_in (slot_of s.heap r (field c f))
read_in s p c f = Null

abbrev pub read_at_in : Environment → Datum → ℕ → ℕ → Datum → Datum
read_at_in s (Ref r) c f i = item_at (items_in (slot_of s.heap r (field c f))) i
read_at_in s p c f i = Null

abbrev given : Out Datum → Datum
given (gives v k) = v
given (traps t) = Null
given over = Null

-- what a call of a value method gives within the steps, and null where it gives nothing
abbrev pub result_in : Environment → ℕ → Datum → List Datum → Datum
result_in s m (Ref r) xs = given ((functions_of s.program.functions s.heap).call (record { 0 = m }) r xs s.steps)
result_in s m p xs = Null
