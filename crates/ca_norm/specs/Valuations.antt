-- The valuation of a run: what atoms, reads and calls stand for there, each taken as a value of the sort that is asked
-- for; what isn't of that sort is taken as its start value.
use Rattle.std.specs.Prelude.{ℕ, ℤ, zero, suc, pos, false, List}
use Rattle.std.specs.Int.{int_wrap, w64}
use Rattle.std.proofs.lemmas.Int.{SFits-int_wrap}
use Rattle.ca_model.specs.declared.value.Value.{Value as Datum}
use Rattle.ca_model.specs.declared.value.Value.TheVariants as datum
use Rattle.ca_forms.specs.declared.sort.Sort.{Sort}
use Rattle.ca_forms.specs.declared.sort.Sort.TheVariants.{Long, Bool, Pointer, LongArray, BoolArray, PointerArray}
use Rattle.ca_norm.specs.Meanings.{IsOfSort, IsObject, Valuation}
use Rattle.ca_norm.specs.Environments.{Environment, atom_in, own_item_in, read_in, read_at_in, result_in}

-- a value of the sort, and the same one where it is that already
abbrev pub as_sort : Sort → Datum → Datum
as_sort Long (datum.Long n) = datum.Long (int_wrap w64 n)
as_sort Long v = datum.Long (int_wrap w64 (pos 0))
as_sort Bool (datum.Bool b) = datum.Bool b
as_sort Bool v = datum.Bool false
as_sort Pointer (datum.Ref r) = datum.Ref r
as_sort Pointer v = datum.Null
as_sort sort v = datum.Null

pub as_sort_is : (sort : Sort) (v : Datum) → IsOfSort sort (as_sort sort v)
as_sort_is Long (datum.Long n) = SFits-int_wrap w64 n
as_sort_is Long v = SFits-int_wrap w64 (pos 0)
as_sort_is Bool (datum.Bool b) = tt
as_sort_is Bool v = tt
as_sort_is Pointer (datum.Ref r) = tt
as_sort_is Pointer v = tt
as_sort_is LongArray v = tt
as_sort_is BoolArray v = tt
as_sort_is PointerArray v = tt

-- an object, and the same one where it is one already
abbrev pub as_object : Datum → Datum
as_object (datum.Ref r) = datum.Ref r
as_object v = datum.Ref 0

-- the value of an atom, by its group and number
abbrev pub as_atom : ℕ → ℕ → Sort → Datum → Datum
as_atom zero zero Long v = as_sort Long v
as_atom zero zero Bool v = as_sort Bool v
as_atom zero zero Pointer v = as_object v
as_atom zero zero LongArray v = datum.Null
as_atom zero zero BoolArray v = datum.Null
as_atom zero zero PointerArray v = datum.Null
as_atom zero (suc n) sort v = as_sort sort v
as_atom (suc group) n sort v = as_sort sort v

object_is : (v : Datum) → IsOfSort Pointer (as_object v)
object_is (datum.Long n) = tt
object_is (datum.Bool b) = tt
object_is datum.Null = tt
object_is (datum.Ref r) = tt

pub receiver_is : (v : Datum) → IsObject (as_object v)
receiver_is (datum.Long n) = tt
receiver_is (datum.Bool b) = tt
receiver_is datum.Null = tt
receiver_is (datum.Ref r) = tt

pub as_atom_is : (group n : ℕ) (sort : Sort) (v : Datum) → IsOfSort sort (as_atom group n sort v)
as_atom_is zero zero Long v = as_sort_is Long v
as_atom_is zero zero Bool v = as_sort_is Bool v
as_atom_is zero zero Pointer v = object_is v
as_atom_is zero zero LongArray v = tt
as_atom_is zero zero BoolArray v = tt
as_atom_is zero zero PointerArray v = tt
as_atom_is zero (suc n) sort v = as_sort_is sort v
as_atom_is (suc group) n sort v = as_sort_is sort v

-- Atoms and their items by group and number, reads and calls by any functions.
abbrev pub fitted : (ℕ → ℕ → Datum) → (ℕ → ℕ → ℤ → Datum) → (Sort → Datum → ℕ → ℕ → Datum) → (Sort → Datum → ℕ → ℕ → Datum → Datum) → (Sort → ℕ → Datum → List Datum → Datum) → Valuation
fitted values items read read_at result = record {
  value = λ sort group n. as_atom group n sort (values group n);
  item = λ sort group n k. as_sort sort (items group n k);
  read = λ sort p c f. as_sort sort (read sort p c f);
  read_at = λ sort p c f i. as_sort sort (read_at sort p c f i);
  result = λ sort m p xs. as_sort sort (result sort m p xs);
  sorted = λ sort group n. as_atom_is group n sort (values group n);
  item_sorted = λ sort group n k. as_sort_is sort (items group n k);
  read_sorted = λ sort p c f. as_sort_is sort (read sort p c f);
  read_at_sorted = λ sort p c f i. as_sort_is sort (read_at sort p c f i);
  result_sorted = λ sort m p xs. as_sort_is sort (result sort m p xs);
  receiver = receiver_is (values 0 0);
}

-- where no atom has items, nothing is read and no value method is called
abbrev pub valuation_of : (ℕ → ℕ → Datum) → Valuation
valuation_of values = fitted values (λ group n k. datum.Null) (λ sort p c f. datum.Null) (λ sort p c f i. datum.Null) (λ sort m p xs. datum.Null)

-- the valuation of a run
abbrev pub valuation_in : Environment → Valuation
valuation_in s = fitted (atom_in s) (own_item_in s) (λ sort p c f. read_in s p c f) (λ sort p c f i. read_at_in s p c f i) (λ sort m p xs. result_in s m p xs)
