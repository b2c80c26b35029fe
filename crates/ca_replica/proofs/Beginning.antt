-- Copies that begin at 0 stand for the frozen heap.
use Rattle.std.proofs.Common.{◌≡◌, ℕ, zero, suc, List, [], ◌∷◌, length, Option, Some, None, refl, ap, sym, subst, ◌∙◌, ℤ, pos, arith, Bool, true, false, cond, nat_eq, FitsSigned}
use Rattle.std.specs.Prelude.{slice_get, Contains}
use Rattle.std.specs.Int.{w64}
use Rattle.std.proofs.lemmas.Int.{ints}
use Rattle.ca_program.specs.declared.program.ClassId.{ClassId}
use Rattle.ca_program.specs.declared.program.FieldId.{FieldId}
use Rattle.ca_program.specs.declared.program.FieldInfo.{FieldInfo}
use Rattle.ca_program.specs.declared.program.ValueType.{ValueType}
use Rattle.ca_program.specs.declared.program.ValueType.TheVariants.{Long as LongType, Bool as BoolType, Pointer}
use Rattle.ca_program.specs.Plain.{PlainProgram, PlainClass}
use Rattle.ca_model.specs.declared.value.Value.TheVariants.{Long}
use Rattle.ca_model.specs.declared.value.Slot.{Slot}
use Rattle.ca_model.specs.declared.value.Slot.TheVariants.{One}
use Rattle.ca_model.specs.declared.value.Object.{Object}
use Rattle.ca_model.specs.Slots.{put_slot}
use Rattle.ca_model.specs.Typed.{SlotTyped, SlotsTyped, ObjectTyped, EachTyped, IsOfClass}
use Rattle.ca_meaning.specs.Agree.{Agree}
use Rattle.ca_meaning_laws.specs.Typed.{Extends}
use Rattle.ca_meaning_laws.proofs.Heaps.{each_kept}
use Rattle.ca_replica.specs.Zeroed.{number_at, zeroed_number, zeroed_slot, zeroed_field, zeroed, zeroed_heap}
use Rattle.ca_replica.specs.Adding.{Absent}
use Rattle.ca_replica.specs.Applied.{NoSumsStand}
use Rattle.ca_replica.proofs.Copying.{zeroed_at}
use Rattle.ca_replica.proofs.Sums.{numbered, zero_class, zero_absent, slots_of}

fits_zero : FitsSigned w64 (pos 0)
fits_zero = omega (arith, ints)

put_typed : (h : List Object) (ss : List Slot) (fs : List FieldInfo) (f : ℕ) (n : ℤ) → slice_get ss f ≡ Some (One (Long n)) → SlotsTyped h ss fs → SlotsTyped h (put_slot ss f 0 (Long (pos 0))) fs
put_typed h [] fs f n e t = cc
put_typed h (s ∷ ss) [] f n e t = absurd t
put_typed h (s ∷ ss) (x ∷ fs) zero n e t =
    let same : s ≡ One (Long n) = cc in
    subst (λ z. SlotsTyped h (put_slot (z ∷ ss) 0 0 (Long (pos 0))) (x ∷ fs)) (sym same) (one x.ty x.length (subst (λ z. SlotTyped h z x.ty x.length) same t.0), t.1)
  where
    one : (ty : ValueType) (l : Option ℕ) → SlotTyped h (One (Long n)) ty l → SlotTyped h (One (Long (pos 0))) ty l
    one LongType None u = fits_zero
    one BoolType None u = absurd u
    one (Pointer c) None u = absurd u
    one ty (Some k) u = absurd u
put_typed h (s ∷ ss) (x ∷ fs) (suc f) n e t = (t.0, put_typed h ss fs f n e t.1)

slots_zeroed : (h : List Object) (k : Option PlainClass) (f : ℕ) (ss : List Slot) → ObjectTyped h k ss → ObjectTyped h k (zeroed_slot f ss)
slots_zeroed h None f ss t = absurd t
slots_zeroed h (Some k) f ss t = from (number_at (slice_get ss f)) refl
  where
    from : (a : Option ℤ) → number_at (slice_get ss f) ≡ a → SlotsTyped h (zeroed_number ss f a) k.fields
    from (Some n) e = put_typed h ss k.fields f n (numbered (slice_get ss f) n e) t
    from None e = t

object_zeroed : (p : PlainProgram) (h : List Object) (fs : List FieldId) (o : Object) → ObjectTyped h (slice_get p.classes o.class.0) o.slots → ObjectTyped h (slice_get p.classes (let z : Object = zeroed fs o in z.class.0)) (slots_of (zeroed fs o))
object_zeroed p h [] o t = t
object_zeroed p h (f ∷ fs) o t = object_zeroed p h fs (zeroed_field f o) (from (nat_eq f.class.0 o.class.0))
  where
    from : (b : Bool) → ObjectTyped h (slice_get p.classes o.class.0) (cond b (zeroed_slot f.field o.slots) o.slots)
    from true = slots_zeroed h (slice_get p.classes o.class.0) f.field o.slots t
    from false = t

each_zeroed : (p : PlainProgram) (h : List Object) (fs : List FieldId) (os : List Object) → EachTyped p h os → EachTyped p h (zeroed_heap fs os)
each_zeroed p h fs [] t = tt
each_zeroed p h fs (o ∷ os) t = (object_zeroed p h fs o t.0, each_zeroed p h fs os t.1)

extends_zeroed : (fs : List FieldId) (h : List Object) → Extends h (zeroed_heap fs h)
extends_zeroed fs h = record { keeps = λ n c t. from n c (slice_get h n) refl t }
  where
    from : (n : ℕ) (c : ClassId) (o : Option Object) → slice_get h n ≡ o → IsOfClass o c → IsOfClass (slice_get (zeroed_heap fs h) n) c
    from n c None e t = absurd t
    from n c (Some o) e t = subst (λ z. IsOfClass z c) (sym (zeroed_at fs h n o e)) (zero_class fs o ∙ t)

as_many : (fs : List FieldId) (h : List Object) → length (zeroed_heap fs h) ≡ length h
as_many fs [] = refl
as_many fs (o ∷ h) = ap suc (as_many fs h)

-- the first object of a zeroed one
was : (fs : List FieldId) (h : List Object) (n : ℕ) (z : Object) → slice_get (zeroed_heap fs h) n ≡ Some z → (o : Object) × (slice_get h n ≡ Some o) × (zeroed fs o ≡ z)
was fs [] n z e = cc
was fs (o ∷ h) zero z e = (o, refl, cc)
was fs (o ∷ h) (suc n) z e = was fs h n z e

pub free_absent : (fs : List FieldId) (c : ClassId) (g : ℕ) → ¬ Contains fs (record { class = c; field = g }) → Absent fs c g
free_absent [] c g n = tt
free_absent (f ∷ fs) c g n = (λ e. n (0, omega arith, made f e.0 e.1), free_absent fs c g (λ k. n (suc k.0, (let lt = k.1 in omega (arith, lt)), k.2)))
  where
    number : ℕ → ℕ → FieldId
    number k m = record { class = record { 0 = k }; field = m }

    made : (f : FieldId) → f.class.0 ≡ c.0 → f.field ≡ g → f ≡ record { class = c; field = g }
    made f e d = ap (λ k. number k f.field) e ∙ ap (λ k. number c.0 k) d

pub no_sums_stand : NoSumsStand
no_sums_stand p x frozen typed = record {
  heap = each_kept p frozen (zeroed_heap x.written frozen) (extends_zeroed x.written frozen) (zeroed_heap x.written frozen) (each_zeroed p frozen x.written frozen typed);
  agree = record {
    as_many = as_many x.written frozen;
    each = λ n z e.
        let w = was x.written frozen n z e in
        record {
          other = w.0;
          there = w.1;
          agree = subst (λ (y : Object). Agree x.written y w.0) w.2 (record {
            class = zero_class x.written w.0;
            constants = λ f c free. zero_absent x.written w.0 f.field (free_absent x.written (let y : Object = w.0 in y.class) f.field (subst (λ c. ¬ Contains x.written (record { class = c; field = f.field })) (c ∙ zero_class x.written w.0) free));
          });
        };
  };
}
