-- Terms of the same fields leave the same object, and orders that demand the same meet the same demands.
use Rattle.std.proofs.Common.{inl, inr, ◌≡◌, ℕ, zero, suc, ◌<◌, ◌^◌, ℤ, pos, true, false, List, [], ◌∷◌, length, map, Option, Some, None, refl, sym, ap, ap₂, subst}
use Rattle.std.specs.Prelude.{slice_get}
use Rattle.ca_program.specs.declared.program.ClassId.{ClassId}
use Rattle.ca_program.specs.declared.program.FieldId.{FieldId}
use Rattle.ca_program.specs.declared.program.FieldInfo.{FieldInfo}
use Rattle.ca_program.specs.declared.program.OpId.{OpId}
use Rattle.ca_program.specs.declared.program.ValueType.{ValueType}
use Rattle.ca_program.specs.declared.program.ValueType.TheVariants as type
use Rattle.ca_program.specs.Plain.{PlainProgram, PlainMethod}
use Rattle.ca_model.specs.declared.value.Value.{Value as Datum}
use Rattle.ca_model.specs.declared.value.Slot.TheVariants.{One, Many}
use Rattle.ca_model.specs.declared.value.Object.{Object}
use Rattle.ca_model.specs.Heaps.{fields_of}
use Rattle.ca_meaning.specs.Functions.{body_of}
use Rattle.ca_meaning.specs.ProgramTyped.{scope_of, ProgramTyped}
use Rattle.ca_meaning.specs.WellTyped.{IsMethodOf}
use Rattle.ca_parallel.specs.Separable.{Separable, AreSeparated}
use Rattle.ca_forms.specs.declared.sort.Sort.{Sort}
use Rattle.ca_norm.specs.Terms.{PlainTerm, number, truth, select, IsScalar}
use Rattle.ca_norm.specs.Forms.{norm}
use Rattle.ca_norm.specs.Meanings.{Valuation, mean}
use Rattle.ca_norm.proofs.Values.{same_forms}
use Rattle.ca_norm.specs.Valuations.{valuation_in}
use Rattle.ca_shared_terms.specs.Starts.{sort_of_array, starts}
use Rattle.ca_symbolic.specs.States.{first_locals}
use Rattle.ca_symbolic.specs.Execution.{after_all}
use Rattle.ca_symbolic.specs.Demands.{demanded_all}
use Rattle.ca_symbolic_laws.specs.Meant.{items_meant, slot_meant, slots_meant}
use Rattle.ca_symbolic.specs.Runs.{executed, demanded_by}
use Rattle.ca_verdicts.specs.Orders.{fields_at, start_of, first_order, second_order}
use Rattle.ca_verdicts.proofs.MetDemands.{DemandsSorted}
use Rattle.ca_verdicts.proofs.Sorts.{IsGood, own_sort, ArraysSorted, AllGood, slot_sort, starts_good, locals_good, both_sorted}
use Rattle.ca_verdicts.proofs.SortedBodies.{StateGood, all_after_good, all_demanded_good}
use Rattle.ca_verdicts.proofs.Sound.{LooksSame}
use Rattle.ca_verdicts.proofs.Orders.{environment}
use Rattle.ca_order.proofs.Agreeing.{order_same_means}
use Rattle.ca_verdicts.specs.Counts.{SameDemands}
use Rattle.ca_verdicts.specs.Verdicts.{SameField, SameFields}
use Rattle.ca_verdicts.proofs.Meeting.{met_alike}

-- arrays of the same normal form have the same item at each index
pub record ArraysMean : Type 0 where
  pub same : (v : Valuation) (ty : ValueType) (t u : PlainTerm) → IsGood (sort_of_array ty) t → IsGood (sort_of_array ty) u → norm t ≡ norm u → (i : ℤ) → mean v (select t (number i)) ≡ mean v (select u (number i))

same_items : (v : Valuation) (t u : PlainTerm) → ((i : ℤ) → mean v (select t (number i)) ≡ mean v (select u (number i))) → (i n : ℕ) → items_meant v t i n ≡ items_meant v u i n
same_items v t u h i zero = refl
same_items v t u h i (suc n) = ap₂ (λ x xs. x ∷ xs) (h (pos i)) (same_items v t u h (suc i) n)

no_scalar : (ty : ValueType) → IsScalar (sort_of_array ty) → ⊥
no_scalar type.Long w = w
no_scalar type.Bool w = w
no_scalar (type.Pointer c) w = w

module _ (sorted : ArraysSorted) (arrays : ArraysMean) where
  module _ (v : Valuation) where
    same_one : (s : Sort) (t u : PlainTerm) → IsGood s t → IsGood s u → SameField t u → mean v t ≡ mean v u
    same_one s t u g h (inl e) = same_forms v t u (own_sort g) (own_sort h) e
    same_one s t u g h (inr o) = order_same_means v s t u g.is h.is o.same

    same_form : (ty : ValueType) (t u : PlainTerm) → IsGood (sort_of_array ty) t → SameField t u → norm t ≡ norm u
    same_form ty t u g (inl e) = e
    same_form ty t u g (inr o) = absurd (no_scalar ty (subst IsScalar g.sort o.scalar))

    same_slot : (ty : ValueType) (n : Option ℕ) (t u : PlainTerm) → IsGood (slot_sort (record { name = []; ty = ty; length = n })) t → IsGood (slot_sort (record { name = []; ty = ty; length = n })) u → SameField t u → slot_meant v t n ≡ slot_meant v u n
    same_slot ty None t u g h e = ap One (same_one _ t u g h e)
    same_slot ty (Some n) t u g h e = ap Many (same_items v t u (arrays.same v ty t u g h (same_form ty t u g e)) 0 n)

    same_slots : (fs : List FieldInfo) (ts us : List PlainTerm) → AllGood (map slot_sort fs) ts → AllGood (map slot_sort fs) us → SameFields ts us → slots_meant v ts fs ≡ slots_meant v us fs
    same_slots [] [] [] g h e = refl
    same_slots [] (t ∷ ts) us g h e = absurd g
    same_slots [] [] (u ∷ us) g h e = absurd h
    same_slots (f ∷ fs) [] us g h e = absurd g
    same_slots (f ∷ fs) (t ∷ ts) [] g h e = absurd h
    same_slots (f ∷ fs) (t ∷ ts) (u ∷ us) g h e = ap₂ (λ x xs. x ∷ xs) (same_slot f.ty f.length t u g.0 h.0 e.0) (same_slots fs ts us g.1 h.1 e.1)

  module _ (p : PlainProgram) (typed : ProgramTyped p) (written : List FieldId) (c : ClassId) where
    abbrev Fields : List PlainTerm → Type 0
    Fields ts = AllGood (map slot_sort (fields_of (slice_get p.classes c.0))) ts

    -- an operation of the class
    record Known (op : OpId) : Type 0 where
      m : PlainMethod
      at : slice_get p.ops op.0 ≡ Some m
      class : m.class ≡ c
      separable : AreSeparated p written false m.body.statements

    known : (op : OpId) → IsMethodOf (slice_get p.ops op.0) c → Separable p written op → Known op
    known op i s = at (slice_get p.ops op.0) refl i
      where
        at : (o : Option PlainMethod) → slice_get p.ops op.0 ≡ o → IsMethodOf o c → Known op
        at None e j = absurd j
        at (Some m) e j = record { m = m; at = e; class = j; separable = subst (λ z. AreSeparated p written false (body_of z)) e s }

    module _ (op : OpId) (k : Known op) (g : ℕ) where
      begun : (ts : List PlainTerm) → Fields ts → StateGood (map slot_sort (fields_of (slice_get p.classes c.0))) k.m.body.locals (record { fields = ts; locals = first_locals g (Some k.m) })
      begun ts f = record { fields_good = f; locals_good = locals_good g 0 k.m.params k.m.body.locals }

      behind : (ts : List PlainTerm) → Fields ts → Fields (executed p op g ts).fields
      behind ts f =
          subst (λ z. Fields (after_all p (record { fields = ts; locals = first_locals g z }) (body_of z)).fields) (sym k.at)
          (all_after_good sorted p (scope_of k.m) c (ap Some k.class) written false k.m.body.statements (record { fields = ts; locals = first_locals g (Some k.m) }) (begun ts f) (typed.ops op.0 k.m k.at).method.body k.separable).fields_good

      demands : (ts : List PlainTerm) → Fields ts → DemandsSorted (demanded_by p op g ts)
      demands ts f =
          subst (λ z. DemandsSorted (demanded_all p (record { fields = ts; locals = first_locals g z }) (truth true) (body_of z))) (sym k.at)
          (all_demanded_good sorted p (scope_of k.m) c (ap Some k.class) written false k.m.body.statements (record { fields = ts; locals = first_locals g (Some k.m) }) (truth true) (begun ts f) (typed.ops op.0 k.m k.at).method.body k.separable refl)

    start_good : (a : OpId) (k : Known a) → Fields (start_of p a)
    start_good a k =
        subst (λ z. Fields (starts 0 (fields_at p z))) (sym k.at) (subst (λ (z : ClassId). AllGood (map slot_sort (fields_of (slice_get p.classes z.0))) (starts 0 (fields_of (slice_get p.classes k.m.class.0)))) k.class (starts_good 0 (fields_of (slice_get p.classes k.m.class.0))))

    -- Where the fields have the same forms and the same is demanded, both orders look the same in each environment.
    pub looks_same : (a b : OpId) → IsMethodOf (slice_get p.ops a.0) c → IsMethodOf (slice_get p.ops b.0) c → Separable p written a → Separable p written b →
        SameFields (first_order p a b).fields (second_order p a b).fields → SameDemands (first_order p a b).demands (second_order p a b).demands →
        length (first_order p a b).demands < 2 ^ 64 → length (second_order p a b).demands < 2 ^ 64 →
        (h : List Object) (r : ℕ) (o : Object) (xs ys : List Datum) (n : ℕ) → LooksSame (environment p h r o xs ys n) c (start_of p a) a b
    looks_same a b ia ib sa sb e d la lb h r o xs ys n =
        let ka : Known a = known a ia sa in
        let kb : Known b = known b ib sb in
        let f : Fields (start_of p a) = start_good a ka in
        let fa : Fields (executed p a 1 (start_of p a)).fields = behind a ka 1 (start_of p a) f in
        let fb : Fields (executed p b 2 (start_of p a)).fields = behind b kb 2 (start_of p a) f in
        record {
          object_same = ap (λ z. record { class = c; slots = z }) (same_slots (valuation_in (environment p h r o xs ys n)) (fields_of (slice_get p.classes c.0)) (first_order p a b).fields (second_order p a b).fields (behind b kb 2 _ fa) (behind a ka 1 _ fb) e);
          met_same = met_alike (valuation_in (environment p h r o xs ys n)) (first_order p a b).demands (second_order p a b).demands
              (both_sorted (demanded_by p a 1 (start_of p a)) _ (demands a ka 1 (start_of p a) f) (demands b kb 2 _ fa))
              (both_sorted (demanded_by p b 2 (start_of p a)) _ (demands b kb 2 (start_of p a) f) (demands a ka 1 _ fb)) d la lb;
        }
