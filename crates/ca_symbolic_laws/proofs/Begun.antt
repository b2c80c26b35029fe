-- The states in which operations begin.
use Rattle.std.proofs.Common.{◌≡◌, ℕ, zero, suc, ◌+◌, List, [], ◌∷◌, ◌++◌, map, drop, Option, Some, None, refl, sym, ap, ap₂, ◌∙◌, arith, subst, pos, length}
use Rattle.std.specs.Prelude.{slice_get}
use Rattle.std.proofs.lemmas.List.{map-append}
use Rattle.ca_program.specs.declared.program.ClassId.{ClassId}
use Rattle.ca_program.specs.declared.program.FieldInfo.{FieldInfo}
use Rattle.ca_program.specs.declared.program.ValueType.{ValueType}
use Rattle.ca_program.specs.declared.program.ValueType.TheVariants as type
use Rattle.ca_program.specs.Plain.{PlainMethod, PlainClass}
use Rattle.ca_model.specs.declared.value.Value.{Value as Datum}
use Rattle.ca_model.specs.declared.value.Value.TheVariants.{Long}
use Rattle.ca_model.specs.declared.value.Slot.{Slot}
use Rattle.ca_model.specs.declared.value.Slot.TheVariants.{One, Many}
use Rattle.ca_model.specs.Heaps.{fields_of}
use Rattle.ca_model.specs.Slots.{start_of}
use Rattle.ca_model.specs.Typed.{HasType, AllHaveType, SlotTyped, SlotsTyped, ObjectTyped}
use Rattle.ca_meaning.specs.Expressions.{value_at, one_in, items_in}
use Rattle.ca_meaning.specs.Functions.{locals_of}
use Rattle.ca_meaning.specs.WellTyped.{ValuesTyped, IsTypedObject, parameters_of}
use Rattle.ca_meaning_laws.proofs.Values.{frame_typed}
use Rattle.ca_forms.specs.declared.sort.Sort.{Sort}
use Rattle.ca_norm.specs.Terms.{PlainTerm, atom, item_sort}
use Rattle.ca_norm.specs.Meanings.{Valuation, mean}
use Rattle.ca_norm.specs.Environments.{Environment, atom_in, own_item_in}
use Rattle.ca_norm.specs.Valuations.{as_sort, valuation_in}
use Rattle.ca_shared_terms.specs.Starts.{sort_of_type, sort_of_array, sort_of_slot, starts}
use Rattle.ca_symbolic.specs.States.{start_term, parameters, first_locals}
use Rattle.ca_symbolic_laws.specs.Meant.{item_meant, items_meant, TermTyped, FieldsTyped, LocalsTyped, slot_meant, slots_meant}
use Rattle.ca_symbolic_laws.specs.Laws.{fields_in, arguments_in, object_meant}
use Rattle.ca_symbolic_laws.proofs.Runs.{sort_typed, typed_as, index_typed}

module _ (s : Environment) where
  abbrev v : Valuation
  v = valuation_in s

  -- Locals

  start_means : (ty : ValueType) → mean v (start_term ty) ≡ start_of ty
  start_means type.Long = refl
  start_means type.Bool = refl
  start_means (type.Pointer c) = refl

  starts_mean : (tys : List ValueType) → map (mean v) (map start_term tys) ≡ map start_of tys
  starts_mean [] = refl
  starts_mean (ty ∷ tys) = ap₂ (λ a b. a ∷ b) (start_means ty) (starts_mean tys)

  -- the atoms of a group mean the arguments that they stand for
  parameters_mean : (g n : ℕ) (ys : List Datum) (tys : List ValueType) → ((k : ℕ) → atom_in s (suc g) (n + k) ≡ value_at ys k) → ValuesTyped s.heap ys tys → map (mean v) (parameters (suc g) n tys) ≡ ys
  parameters_mean g n [] [] e t = refl
  parameters_mean g n [] (ty ∷ tys) e t = absurd t
  parameters_mean g n (y ∷ ys) [] e t = absurd t
  parameters_mean g n (y ∷ ys) (ty ∷ tys) e t =
      ap₂ (λ a b. a ∷ b)
      (ap (as_sort (sort_of_type ty)) (ap (atom_in s (suc g)) (let z : n ≡ n + zero = omega arith in z) ∙ e zero) ∙ sort_typed s.heap ty y t.0)
      (parameters_mean g (n + 1) ys tys (λ k. ap (atom_in s (suc g)) (let z : n + 1 + k ≡ n + suc k = omega arith in z) ∙ e (suc k)) t.1)

  no_parameters : (group n : ℕ) (tys : List ValueType) → ValuesTyped s.heap [] tys → map (mean v) (parameters group n tys) ≡ []
  no_parameters group n [] t = refl
  no_parameters group n (ty ∷ tys) t = absurd t

  arguments_mean : (group : ℕ) (tys : List ValueType) → ValuesTyped s.heap (arguments_in s group) tys → map (mean v) (parameters group 0 tys) ≡ arguments_in s group
  arguments_mean zero tys t = no_parameters zero 0 tys t
  arguments_mean (suc zero) tys t = parameters_mean 0 0 s.first tys (λ k. ap (value_at s.first) (let z : 0 + k ≡ k = omega arith in z)) t
  arguments_mean (suc (suc zero)) tys t = parameters_mean 1 0 s.second tys (λ k. ap (value_at s.second) (let z : 0 + k ≡ k = omega arith in z)) t
  arguments_mean (suc (suc (suc g))) tys t = no_parameters (suc (suc (suc g))) 0 tys t

  pub first_mean : (group : ℕ) (m : PlainMethod) → ValuesTyped s.heap (arguments_in s group) (parameters_of m) → map (mean v) (first_locals group (Some m)) ≡ locals_of (Some m) (arguments_in s group)
  first_mean group m t = map-append (mean v) (parameters group 0 (parameters_of m)) _ ∙ ap₂ (λ a b. a ++ b) (arguments_mean group (parameters_of m) t) (starts_mean (drop m.params m.body.locals))

  typed_locals : (ts : List PlainTerm) (tys : List ValueType) → ValuesTyped s.heap (map (mean v) ts) tys → LocalsTyped s.heap v ts tys
  typed_locals [] [] t = tt
  typed_locals [] (ty ∷ tys) t = absurd t
  typed_locals (x ∷ ts) [] t = absurd t
  typed_locals (x ∷ ts) (ty ∷ tys) t = (t.0, typed_locals ts tys t.1)

  pub first_typed : (group : ℕ) (m : PlainMethod) → ValuesTyped s.heap (arguments_in s group) (parameters_of m) → LocalsTyped s.heap v (first_locals group (Some m)) m.body.locals
  first_typed group m t =
      typed_locals (first_locals group (Some m)) m.body.locals
      (subst (λ z. ValuesTyped s.heap z m.body.locals) (sym (first_mean group m t)) (frame_typed s.heap (arguments_in s group) m.params m.body.locals t))

  -- Fields

  item_sort_is : (ty : ValueType) → item_sort (sort_of_array ty) ≡ sort_of_type ty
  item_sort_is type.Long = refl
  item_sort_is type.Bool = refl
  item_sort_is (type.Pointer c) = refl

  -- the items of a field at the start
  abbrev items_at : ℕ → List Datum
  items_at n = items_in (slice_get s.object.slots n)

  item_means : (n : ℕ) (ty : ValueType) (i : ℕ) (d : Datum) → value_at (items_at n) i ≡ d → HasType s.heap d ty → item_meant v (atom (sort_of_array ty) 3 n) (pos i) ≡ d
  item_means n ty i d e t = ap₂ (λ (k : Sort) x. as_sort k x) (item_sort_is ty) e ∙ sort_typed s.heap ty d t

  items_mean : (n : ℕ) (ty : ValueType) (k : ℕ) (ds : List Datum) → ((i : ℕ) → value_at (items_at n) (k + i) ≡ value_at ds i) → AllHaveType s.heap ds ty → items_meant v (atom (sort_of_array ty) 3 n) k (length ds) ≡ ds
  items_mean n ty k [] e t = refl
  items_mean n ty k (d ∷ ds) e t =
      ap₂ (λ a b. a ∷ b) (item_means n ty k d (ap (value_at (items_at n)) (let z : k ≡ k + zero = omega arith in z) ∙ e zero) t.0)
      (items_mean n ty (suc k) ds (λ i. ap (value_at (items_at n)) (let z : suc k + i ≡ k + suc i = omega arith in z) ∙ e (suc i)) t.1)

  -- the atom of a field means its slot, and has its type
  slot_means : (n : ℕ) (ty : ValueType) (len : Option ℕ) (x : Slot) → slice_get s.object.slots n ≡ Some x → SlotTyped s.heap x ty len → slot_meant v (atom (sort_of_slot ty len) 3 n) len ≡ x
  slot_means n ty None (One d) i t = ap One (ap (λ o. as_sort (sort_of_type ty) (one_in o)) i ∙ sort_typed s.heap ty d t)
  slot_means n ty None (Many ds) i t = absurd t
  slot_means n ty (Some k) (One d) i t = absurd t
  slot_means n ty (Some k) (Many ds) i t =
      ap (λ j. Many (items_meant v (atom (sort_of_array ty) 3 n) 0 j)) (sym t.0)
      ∙ ap Many (items_mean n ty 0 ds (λ j. ap (λ o. value_at (items_in o) (0 + j)) i ∙ ap (value_at ds) (let z : 0 + j ≡ j = omega arith in z)) t.1)

  slot_typed : (n : ℕ) (ty : ValueType) (len : Option ℕ) (x : Slot) → slice_get s.object.slots n ≡ Some x → SlotTyped s.heap x ty len → TermTyped s.heap v (atom (sort_of_slot ty len) 3 n) ty len
  slot_typed n ty None (One d) i t = subst (λ o. HasType s.heap (as_sort (sort_of_type ty) (one_in o)) ty) (sym i) (typed_as s.heap ty d t)
  slot_typed n ty None (Many ds) i t = absurd t
  slot_typed n ty (Some k) (One d) i t = absurd t
  slot_typed n ty (Some k) (Many ds) i t =
      λ z. subst (λ (y : Sort). HasType s.heap (as_sort y (own_item_in s 3 n z)) ty) (sym (item_sort_is ty))
      (index_typed s.heap ty (items_at n) (Long z) (subst (λ o. AllHaveType s.heap (items_in o) ty) (sym i) t.1))

  here : (n : ℕ) (ss : List Slot) → ((k : ℕ) → slice_get s.object.slots (n + k) ≡ slice_get ss k) → slice_get s.object.slots n ≡ slice_get ss zero
  here n ss e = ap (slice_get s.object.slots) (let z : n ≡ n + zero = omega arith in z) ∙ e zero

  next : (n : ℕ) (x : Slot) (ss : List Slot) → ((k : ℕ) → slice_get s.object.slots (n + k) ≡ slice_get (x ∷ ss) k) → (k : ℕ) → slice_get s.object.slots (n + 1 + k) ≡ slice_get ss k
  next n x ss e k = ap (slice_get s.object.slots) (let z : n + 1 + k ≡ n + suc k = omega arith in z) ∙ e (suc k)

  fields_mean : (n : ℕ) (fs : List FieldInfo) (ss : List Slot) → ((k : ℕ) → slice_get s.object.slots (n + k) ≡ slice_get ss k) → SlotsTyped s.heap ss fs → slots_meant v (starts n fs) fs ≡ ss
  fields_mean n [] [] e t = refl
  fields_mean n [] (x ∷ ss) e t = absurd t
  fields_mean n (f ∷ fs) [] e t = absurd t
  fields_mean n (f ∷ fs) (x ∷ ss) e t = ap₂ (λ a b. a ∷ b) (slot_means n f.ty f.length x (here n (x ∷ ss) e) t.0) (fields_mean (n + 1) fs ss (next n x ss e) t.1)

  fields_typed : (n : ℕ) (fs : List FieldInfo) (ss : List Slot) → ((k : ℕ) → slice_get s.object.slots (n + k) ≡ slice_get ss k) → SlotsTyped s.heap ss fs → FieldsTyped s.heap v (starts n fs) fs
  fields_typed n [] ss e t = tt
  fields_typed n (f ∷ fs) [] e t = absurd t
  fields_typed n (f ∷ fs) (x ∷ ss) e t = (slot_typed n f.ty f.length x (here n (x ∷ ss) e) t.0, fields_typed (n + 1) fs ss (next n x ss e) t.1)

  abbrev Starts : List FieldInfo → Type 0
  Starts fs = (slots_meant v (starts 0 fs) fs ≡ s.object.slots) × FieldsTyped s.heap v (starts 0 fs) fs

  class_starts : (k : Option PlainClass) → ObjectTyped s.heap k s.object.slots → Starts (fields_of k)
  class_starts None t = absurd t
  class_starts (Some k) t =
      let at : (i : ℕ) → slice_get s.object.slots (0 + i) ≡ slice_get s.object.slots i = λ i. ap (slice_get s.object.slots) (let z : 0 + i ≡ i = omega arith in z) in
      (fields_mean 0 k.fields s.object.slots at t, fields_typed 0 k.fields s.object.slots at t)

  -- the atoms of group 3 mean the object
  pub starts_are_meant : (c : ClassId) → IsTypedObject s.program s.heap c s.object → (object_meant s c (starts 0 (fields_in s c)) ≡ s.object) × FieldsTyped s.heap v (starts 0 (fields_in s c)) (fields_in s c)
  starts_are_meant c o =
      let both : Starts (fields_in s c) = class_starts (slice_get s.program.classes c.0) o.slots in
      (ap₂ (λ k ss. record { class = k; slots = ss }) (sym o.class) both.0, both.1)
