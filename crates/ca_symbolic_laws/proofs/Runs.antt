-- The valuation of a run reads and calls as the program does, as far as types go, and gives values of their types.
use Rattle.std.proofs.Common.{◌≡◌, ℕ, zero, suc, ◌≤◌, List, [], ◌∷◌, length, Option, Some, None, ℤ, pos, negsuc, refl, sym, ap, ◌∙◌, arith, subst, w64}
use Rattle.std.specs.Prelude.{slice_get, nat_lt, IsSome}
use Rattle.std.proofs.lemmas.Int.{int_wrap_fits, SFits-int_wrap}
use Rattle.ca_program.specs.declared.program.ClassId.{ClassId}
use Rattle.ca_program.specs.declared.program.FieldId.{FieldId}
use Rattle.ca_program.specs.declared.program.FieldInfo.{FieldInfo}
use Rattle.ca_program.specs.declared.program.FunctionId.{FunctionId}
use Rattle.ca_program.specs.declared.program.ValueType.{ValueType}
use Rattle.ca_program.specs.declared.program.ValueType.TheVariants as type
use Rattle.ca_program.specs.Plain.{PlainMethod, PlainClass}
use Rattle.ca_model.specs.declared.value.Value.{Value as Datum}
use Rattle.ca_model.specs.declared.value.Value.TheVariants as datum
use Rattle.ca_model.specs.declared.value.Object.{Object}
use Rattle.ca_model.specs.declared.value.Slot.{Slot}
use Rattle.ca_model.specs.declared.value.Slot.TheVariants.{One, Many}
use Rattle.ca_model.specs.Heaps.{fields_of}
use Rattle.ca_model.specs.Typed.{IsOfClass, HasType, AllHaveType, SlotTyped, SlotsTyped, ObjectTyped, TypedHeap}
use Rattle.ca_meaning.specs.Expressions.{Out, gives, traps, over, ◌>>=◌, indexed, one_in, items_in, slots_in, slot_of, value_at}
use Rattle.ca_meaning.specs.Functions.{functions_of}
use Rattle.ca_meaning.specs.WellTyped.{ValuesTyped}
use Rattle.ca_meaning.specs.ProgramTyped.{IsScalar, IsArray, IsFunction, field_info, ProgramTyped}
use Rattle.ca_meaning_laws.specs.Budgets.{Taken}
use Rattle.ca_meaning_laws.specs.Typed.{Yields, yields}
use Rattle.ca_meaning_laws.proofs.Bigs.{calls_steady}
use Rattle.ca_meaning_laws.proofs.Heaps.{object_typed, read_typed, items_typed}
use Rattle.ca_meaning_laws.proofs.FunctionTypes.{calls_typed}
use Rattle.ca_forms.specs.declared.sort.Sort.{Sort}
use Rattle.ca_norm.specs.Meanings.{Valuation, mean}
use Rattle.ca_norm.specs.Environments.{Environment, read_in, read_at_in, result_in}
use Rattle.ca_norm.specs.Valuations.{as_sort, valuation_in}
use Rattle.ca_shared_terms.specs.Starts.{sort_of_type}
use Rattle.ca_sweep.specs.Means.{length_in}
use Rattle.ca_symbolic.specs.States.{receiver}
use Rattle.ca_symbolic.specs.Execution.{sort_in, sort_of_given, sort_of_result}
use Rattle.ca_symbolic_laws.specs.Costs.{left, value_of, with_left}
use Rattle.ca_symbolic_laws.specs.Demanded.{is_index, call_cost}
use Rattle.ca_symbolic_laws.proofs.Budgets.{free, plus_none, then_value}
use Rattle.ca_symbolic_laws.proofs.Bounded.{bounded}
use Rattle.ca_symbolic_laws.proofs.Indexes.{found_if, no_less, more_less, both_less, indexed_is}

-- Values of sorts

pub sort_typed : (h : List Object) (ty : ValueType) (d : Datum) → HasType h d ty → as_sort (sort_of_type ty) d ≡ d
sort_typed h type.Long (datum.Long n) t = ap datum.Long (int_wrap_fits w64 n t)
sort_typed h type.Bool (datum.Bool b) t = refl
sort_typed h (type.Pointer c) datum.Null t = refl
sort_typed h (type.Pointer c) (datum.Ref r) t = refl
sort_typed h ty d t = absurd t

pub typed_as : (h : List Object) (ty : ValueType) (d : Datum) → HasType h d ty → HasType h (as_sort (sort_of_type ty) d) ty
typed_as h ty d t = subst (λ z. HasType h z ty) (sym (sort_typed h ty d t)) t

-- what isn't there is a start value
pub start_as : (h : List Object) (ty : ValueType) → HasType h (as_sort (sort_of_type ty) datum.Null) ty
start_as h type.Long = SFits-int_wrap w64 (pos 0)
start_as h type.Bool = tt
start_as h (type.Pointer c) = tt

pub sort_scalar : (o : Option FieldInfo) (ty : ValueType) → IsScalar o ty → sort_in o ≡ sort_of_type ty
sort_scalar None ty i = absurd i
sort_scalar (Some f) ty i = ap sort_of_type i.0

pub sort_array : (o : Option FieldInfo) (ty : ValueType) → IsArray o ty → sort_in o ≡ sort_of_type ty
sort_array None ty i = absurd i
sort_array (Some f) ty i = ap sort_of_type i.0

pub sort_function : (o : Option PlainMethod) (c : ClassId) (tys : List ValueType) (ty : ValueType) → IsFunction o c tys ty → sort_of_result o ≡ sort_of_type ty
sort_function None c tys ty i = absurd i
sort_function (Some m) c tys ty i = ap sort_of_given i.2

-- Items

-- as in the environment
abbrev pub item_at : List Datum → Datum → Datum
item_at vs (datum.Long (pos i)) = value_at vs i
item_at vs i = datum.Null

abbrev given : Out Datum → Datum
given (gives v k) = v
given (traps t) = datum.Null
given over = datum.Null

item_typed : (h : List Object) (ty : ValueType) (ds : List Datum) (i : ℕ) → AllHaveType h ds ty → HasType h (as_sort (sort_of_type ty) (value_at ds i)) ty
item_typed h ty [] i t = start_as h ty
item_typed h ty (d ∷ ds) zero t = typed_as h ty d t.0
item_typed h ty (d ∷ ds) (suc i) t = item_typed h ty ds i t.1

pub index_typed : (h : List Object) (ty : ValueType) (ds : List Datum) (j : Datum) → AllHaveType h ds ty → HasType h (as_sort (sort_of_type ty) (item_at ds j)) ty
index_typed h ty ds (datum.Long (pos i)) t = item_typed h ty ds i t
index_typed h ty ds (datum.Long (negsuc i)) t = start_as h ty
index_typed h ty ds (datum.Bool b) t = start_as h ty
index_typed h ty ds datum.Null t = start_as h ty
index_typed h ty ds (datum.Ref r) t = start_as h ty

items_at : (h : List Object) (ty : ValueType) (ds : List Datum) (i : ℕ) → AllHaveType h ds ty → slice_get ds i ≡ found_if (nat_lt i (length ds)) (as_sort (sort_of_type ty) (value_at ds i))
items_at h ty [] i t = sym (ap (λ b. found_if b (as_sort (sort_of_type ty) (value_at [] i))) (no_less i))
items_at h ty (d ∷ ds) zero t = ap Some (sym (sort_typed h ty d t.0)) ∙ sym (ap (λ b. found_if b (as_sort (sort_of_type ty) d)) (more_less (length ds)))
items_at h ty (d ∷ ds) (suc i) t = items_at h ty ds i t.1 ∙ ap (λ b. found_if b (as_sort (sort_of_type ty) (value_at ds i))) (sym (both_less i (length ds)))

-- an array has the length of its field
slot_long : (h : List Object) (s : Slot) (ty : ValueType) (len : Option ℕ) → SlotTyped h s ty len → IsSome len → len ≡ Some (length (items_in (Some s)))
slot_long h (One d) ty None t i = cc
slot_long h (One d) ty (Some n) t i = absurd t
slot_long h (Many ds) ty None t i = absurd t
slot_long h (Many ds) ty (Some n) t i = ap Some (sym t.0)

slots_long : (h : List Object) (ss : List Slot) (fs : List FieldInfo) (f : ℕ) (ty : ValueType) → SlotsTyped h ss fs → IsArray (slice_get fs f) ty → length_in (slice_get fs f) ≡ Some (length (items_in (slice_get ss f)))
slots_long h [] [] f ty t i = absurd i
slots_long h [] (x ∷ fs) f ty t i = absurd t
slots_long h (s ∷ ss) [] f ty t i = absurd t
slots_long h (s ∷ ss) (x ∷ fs) zero ty t i = slot_long h s x.ty x.length t.0 i.1
slots_long h (s ∷ ss) (x ∷ fs) (suc f) ty t i = slots_long h ss fs f ty t.1 i

own_long : (h : List Object) (k : Option PlainClass) (ss : List Slot) (f : ℕ) (ty : ValueType) → ObjectTyped h k ss → IsArray (slice_get (fields_of k) f) ty → length_in (slice_get (fields_of k) f) ≡ Some (length (items_in (slice_get ss f)))
own_long h None ss f ty t i = absurd t
own_long h (Some k) ss f ty t i = slots_long h ss k.fields f ty t i

-- What the law asks of a valuation

pub record Runs (s : Environment) (v : Valuation) : Type 0 where
  pub receiver_is : mean v receiver ≡ datum.Ref s.receiver
  pub read_typed : (d : Datum) (f : FieldId) (ty : ValueType) → IsScalar (field_info s.program f) ty → HasType s.heap d (type.Pointer f.class) → HasType s.heap (v.read (sort_in (field_info s.program f)) d f.class.0 f.field) ty
  pub read_is : (n : ℕ) (f : FieldId) (ty : ValueType) → IsScalar (field_info s.program f) ty → IsOfClass (slice_get s.heap n) f.class → v.read (sort_in (field_info s.program f)) (datum.Ref n) f.class.0 f.field ≡ one_in (slot_of s.heap n f)
  pub item_typed : (d : Datum) (f : FieldId) (ty : ValueType) → IsArray (field_info s.program f) ty → HasType s.heap d (type.Pointer f.class) → (j : Datum) → HasType s.heap (v.read_at (sort_in (field_info s.program f)) d f.class.0 f.field j) ty
  pub item_is : (n : ℕ) (f : FieldId) (ty : ValueType) → IsArray (field_info s.program f) ty → IsOfClass (slice_get s.heap n) f.class → (line k : ℕ) (j : Datum) → HasType s.heap j type.Long →
      value_of (indexed line (items_in (slot_of s.heap n f)) j k >>= λ item k. gives item.value k) ≡ with_left (v.read_at (sort_in (field_info s.program f)) (datum.Ref n) f.class.0 f.field j) (left (is_index (length_in (field_info s.program f)) j) k)
  pub result_typed : (m : FunctionId) (d : Datum) (xs : List Datum) (c : ClassId) (tys : List ValueType) (ty : ValueType) → IsFunction (slice_get s.program.functions m.0) c tys ty → HasType s.heap d (type.Pointer c) → ValuesTyped s.heap xs tys → HasType s.heap (v.result (sort_of_result (slice_get s.program.functions m.0)) m.0 d xs) ty
  pub result_is : (m : FunctionId) (n : ℕ) (xs : List Datum) (c : ClassId) (tys : List ValueType) (ty : ValueType) → IsFunction (slice_get s.program.functions m.0) c tys ty → IsOfClass (slice_get s.heap n) c → ValuesTyped s.heap xs tys →
      (k : ℕ) → k ≤ s.steps → value_of ((functions_of s.program.functions s.heap).call m n xs k) ≡ with_left (v.result (sort_of_result (slice_get s.program.functions m.0)) m.0 (datum.Ref n) xs) (left (call_cost s m (datum.Ref n) xs) k)

yielded : {A : Type 0} (P : A → Type 0) (o : Out A) (v : A) (k : ℕ) → o ≡ gives v k → Yields P o → P v
yielded P o v k e y = at (subst (Yields P) e y)
  where
    at : Yields P (gives v k) → P v
    at (yields _ _ t) = t

given_typed : (h : List Object) (o : Out Datum) (ty : ValueType) → Yields (λ d. HasType h d ty) o → HasType h (as_sort (sort_of_type ty) (given o)) ty
given_typed h (gives d k) ty (yields _ _ t) = typed_as h ty d t
given_typed h (traps t) ty y = start_as h ty
given_typed h over ty y = start_as h ty

module _ (s : Environment) (typed : ProgramTyped s.program) (heap : TypedHeap s.program s.heap) where
  abbrev v : Valuation
  v = valuation_in s

  as_type : (to ty : _) → to ≡ sort_of_type ty → (d : Datum) → HasType s.heap (as_sort (sort_of_type ty) d) ty → HasType s.heap (as_sort to d) ty
  as_type to ty e d t = subst (λ z. HasType s.heap (as_sort z d) ty) (sym e) t

  same_as : (to : Sort) (ty : ValueType) → to ≡ sort_of_type ty → (d : Datum) → HasType s.heap d ty → as_sort to d ≡ d
  same_as to ty e d t = ap (λ z. as_sort z d) e ∙ sort_typed s.heap ty d t

  reads : (d : Datum) (f : FieldId) (ty : ValueType) → IsScalar (field_info s.program f) ty → HasType s.heap d (type.Pointer f.class) → HasType s.heap (as_sort (sort_of_type ty) (read_in s d f.class.0 f.field)) ty
  reads (datum.Ref n) f ty i t = typed_as s.heap ty _ (read_typed s.program s.heap n f ty heap t i)
  reads datum.Null f ty i t = start_as s.heap ty
  reads (datum.Long n) f ty i t = absurd t
  reads (datum.Bool b) f ty i t = absurd t

  items : (d : Datum) (f : FieldId) (ty : ValueType) → IsArray (field_info s.program f) ty → HasType s.heap d (type.Pointer f.class) → (j : Datum) → HasType s.heap (as_sort (sort_of_type ty) (read_at_in s d f.class.0 f.field j)) ty
  items (datum.Ref n) f ty i t j = index_typed s.heap ty _ j (items_typed s.program s.heap n f ty heap t i)
  items datum.Null f ty i t j = start_as s.heap ty
  items (datum.Long n) f ty i t j = absurd t
  items (datum.Bool b) f ty i t j = absurd t

  results : (m : FunctionId) (d : Datum) (xs : List Datum) (c : ClassId) (tys : List ValueType) (ty : ValueType) → IsFunction (slice_get s.program.functions m.0) c tys ty → HasType s.heap d (type.Pointer c) → ValuesTyped s.heap xs tys → HasType s.heap (as_sort (sort_of_type ty) (result_in s m.0 d xs)) ty
  results m (datum.Ref n) xs c tys ty i t u = given_typed s.heap _ ty (calls_typed s.program typed s.heap heap m n xs s.steps c tys ty i t u)
  results m datum.Null xs c tys ty i t u = start_as s.heap ty
  results m (datum.Long n) xs c tys ty i t u = absurd t
  results m (datum.Bool b) xs c tys ty i t u = absurd t

  long_at : (n : ℕ) (f : FieldId) (ty : ValueType) → IsArray (field_info s.program f) ty → IsOfClass (slice_get s.heap n) f.class → length_in (field_info s.program f) ≡ Some (length (items_in (slot_of s.heap n f)))
  long_at n f ty i c = own_long s.heap (slice_get s.program.classes f.class.0) (slots_in (slice_get s.heap n)) f.field ty (object_typed s.program s.heap s.heap n f.class heap c) i

  item_read : (n : ℕ) (f : FieldId) (ty : ValueType) → IsArray (field_info s.program f) ty → IsOfClass (slice_get s.heap n) f.class → (line k : ℕ) (j : Datum) → HasType s.heap j type.Long →
      value_of (indexed line (items_in (slot_of s.heap n f)) j k >>= λ item k. gives item.value k) ≡ with_left (as_sort (sort_of_type ty) (item_at (items_in (slot_of s.heap n f)) j)) (left (is_index (length_in (field_info s.program f)) j) k)
  item_read n f ty a c line k (datum.Long z) t =
      let ds : List Datum = items_in (slot_of s.heap n f) in
      let to : ℤ → Datum = λ z. as_sort (sort_of_type ty) (item_at ds (datum.Long z)) in
      then_value (indexed line ds (datum.Long z) k) (λ item k. gives item.value k) _ (to z) (is_index (Some (length ds)) (datum.Long z)) (Some 0) k
      (indexed_is line (length ds) k ds to (record { at = λ i. items_at s.heap ty ds i (items_typed s.program s.heap n f ty heap c a) }) (datum.Long z))
      (λ j l. free (to z) j)
      ∙ ap (λ e. with_left (to z) (left e k)) (plus_none _ ∙ ap (λ l. is_index l (datum.Long z)) (sym (long_at n f ty a c)))
  item_read n f ty a c line k (datum.Bool b) t = absurd t
  item_read n f ty a c line k datum.Null t = absurd t
  item_read n f ty a c line k (datum.Ref r) t = absurd t

  steady : (m : FunctionId) (n : ℕ) (xs : List Datum) (d : Datum) (k j : ℕ) → (functions_of s.program.functions s.heap).call m n xs k ≡ gives d j → Taken (λ i. (functions_of s.program.functions s.heap).call m n xs i) d k j
  steady m n xs d k j e = (calls_steady s.program.functions s.heap m n xs (suc k)).taken k (omega arith) d j e

  -- the valuation of the run is one
  pub runs : Runs s (valuation_in s)
  runs = record {
    receiver_is = refl;
    read_typed = λ d f ty i t. as_type _ ty (sort_scalar (field_info s.program f) ty i) _ (reads d f ty i t);
    read_is = λ n f ty i c. same_as _ ty (sort_scalar (field_info s.program f) ty i) _ (read_typed s.program s.heap n f ty heap c i);
    item_typed = λ d f ty i t j. as_type _ ty (sort_array (field_info s.program f) ty i) _ (items d f ty i t j);
    item_is = λ n f ty i c line k j t. item_read n f ty i c line k j t ∙ ap (λ z. with_left (as_sort z (item_at (items_in (slot_of s.heap n f)) j)) (left (is_index (length_in (field_info s.program f)) j) k)) (sym (sort_array (field_info s.program f) ty i));
    result_typed = λ m d xs c tys ty i t u. as_type _ ty (sort_function (slice_get s.program.functions m.0) c tys ty i) _ (results m d xs c tys ty i t u);
    result_is = λ m n xs c tys ty i t u k l. bounded (λ j. (functions_of s.program.functions s.heap).call m n xs j) (λ d k j e. steady m n xs d k j e) s.steps k l _ (λ w j e. at_end m n xs c tys ty i t u w j e);
  }
    where
      at_end : (m : FunctionId) (n : ℕ) (xs : List Datum) (c : ClassId) (tys : List ValueType) (ty : ValueType) → IsFunction (slice_get s.program.functions m.0) c tys ty → IsOfClass (slice_get s.heap n) c → ValuesTyped s.heap xs tys → (w : Datum) (j : ℕ) → (functions_of s.program.functions s.heap).call m n xs s.steps ≡ gives w j → w ≡ as_sort (sort_of_result (slice_get s.program.functions m.0)) (result_in s m.0 (datum.Ref n) xs)
      at_end m n xs c tys ty i t u w j e =
          sym (same_as _ ty (sort_function (slice_get s.program.functions m.0) c tys ty i) w (yielded (λ d. HasType s.heap d ty) _ w j e (calls_typed s.program typed s.heap heap m n xs s.steps c tys ty i t u)))
          ∙ ap (as_sort (sort_of_result (slice_get s.program.functions m.0))) (sym (ap given e))
