-- Slots that move by differences.
use Rattle.std.proofs.Common.{◌≡◌, ◌≢◌, ℕ, zero, suc, List, [], ◌∷◌, Option, Some, None, refl, ap, sym, subst, ◌∙◌, arith, ℤ, pos, ◌+ℤ◌, cond, nat_eq, eq-eqb, ne_eqb}
use Rattle.std.specs.Prelude.{slice_get}
use Rattle.std.specs.Int.{int_wrap, w64}
use Rattle.std.proofs.lemmas.Int.{int_wrap_fits, int_wrap-add_left, ints}
use Rattle.ca_program.specs.declared.program.FieldInfo.{FieldInfo}
use Rattle.ca_program.specs.declared.program.ValueType.{ValueType}
use Rattle.ca_program.specs.declared.program.ValueType.TheVariants.{Long as LongType, Bool as BoolType, Pointer}
use Rattle.ca_program.specs.Plain.{PlainClass}
use Rattle.ca_model.specs.declared.value.Value.{Value as Datum}
use Rattle.ca_model.specs.declared.value.Value.TheVariants.{Long, Bool as Truth, Null, Ref}
use Rattle.ca_model.specs.declared.value.Slot.{Slot}
use Rattle.ca_model.specs.declared.value.Slot.TheVariants.{One, Many}
use Rattle.ca_model.specs.declared.value.Object.{Object}
use Rattle.ca_model.specs.Slots.{one_in, put_slot}
use Rattle.ca_model.specs.Typed.{HasType, SlotTyped, SlotsTyped, ObjectTyped}
use Rattle.ca_order_laws.proofs.Decided.{decide_nat}
use Rattle.ca_order_laws.proofs.Weights.{Decides, equal, other}
use Rattle.ca_order_laws.proofs.Puts.{slot_else}
use Rattle.ca_sum_laws.specs.Moves.{plus, Moved}

-- ---- sums of differences

pub plus_plus : (s : Option Slot) (d e : ℤ) → plus (plus s d) e ≡ plus s (d +ℤ e)
plus_plus (Some (One (Long n))) d e =
    let grouped : (n +ℤ d) +ℤ e ≡ n +ℤ (d +ℤ e) = omega (arith, ints) in
    ap (λ z. Some (One (Long z))) (int_wrap-add_left w64 (n +ℤ d) e ∙ ap (int_wrap w64) grouped)
plus_plus (Some (One (Truth b))) d e = refl
plus_plus (Some (One Null)) d e = refl
plus_plus (Some (One (Ref n))) d e = refl
plus_plus (Some (Many vs)) d e = refl
plus_plus None d e = refl

pub moved_then : (d e : ℕ → ℤ) (a b c : List Slot) → Moved d a b → Moved e b c → Moved (λ f. d f +ℤ e f) a c
moved_then d e a b c m n = record { at = λ f. n.at f ∙ ap (λ s. plus s (e f)) (m.at f) ∙ plus_plus (slice_get a f) (d f) (e f) }

-- ---- typed slots

abbrev pub Fits : List Object → Option Slot → Type 0
Fits h s = plus s (pos 0) ≡ s

slot_fits : (h : List Object) (s : Slot) (ty : ValueType) (n : Option ℕ) → SlotTyped h s ty n → plus (Some s) (pos 0) ≡ Some s
slot_fits h (One (Long n)) LongType None t = let same : n +ℤ pos 0 ≡ n = omega (arith, ints) in ap (λ z. Some (One (Long z))) (ap (int_wrap w64) same ∙ int_wrap_fits w64 n t)
slot_fits h (One (Long n)) BoolType None t = absurd t
slot_fits h (One (Long n)) (Pointer c) None t = absurd t
slot_fits h (One (Long n)) ty (Some k) t = absurd t
slot_fits h (One (Truth b)) ty n t = refl
slot_fits h (One Null) ty n t = refl
slot_fits h (One (Ref r)) ty n t = refl
slot_fits h (Many vs) ty n t = refl

slots_fit : (h : List Object) (ss : List Slot) (fs : List FieldInfo) → SlotsTyped h ss fs → (f : ℕ) → plus (slice_get ss f) (pos 0) ≡ slice_get ss f
slots_fit h [] fs t f = refl
slots_fit h (s ∷ ss) [] t f = absurd t
slots_fit h (s ∷ ss) (x ∷ fs) t zero = slot_fits h s x.ty x.length t.0
slots_fit h (s ∷ ss) (x ∷ fs) t (suc f) = slots_fit h ss fs t.1 f

pub object_fits : (h : List Object) (k : Option PlainClass) (ss : List Slot) → ObjectTyped h k ss → (f : ℕ) → plus (slice_get ss f) (pos 0) ≡ slice_get ss f
object_fits h None ss t f = absurd t
object_fits h (Some k) ss t f = slots_fit h ss k.fields t f

pub moved_none : (h : List Object) (k : Option PlainClass) (ss : List Slot) → ObjectTyped h k ss → Moved (λ f. pos 0) ss ss
moved_none h k ss t = record { at = λ f. sym (object_fits h k ss t f) }

-- ---- a put

pub slot_here : (ss : List Slot) (f : ℕ) (v old : Datum) → slice_get ss f ≡ Some (One old) → slice_get (put_slot ss f 0 v) f ≡ Some (One v)
slot_here [] f v old e = cc
slot_here (One w ∷ ss) zero v old e = refl
slot_here (Many vs ∷ ss) zero v old e = cc
slot_here (s ∷ ss) (suc f) v old e = slot_here ss f v old e

-- the difference of one field
abbrev pub only : ℕ → ℤ → ℕ → ℤ
only f d g = cond (nat_eq f g) d (pos 0)

only_here : (f : ℕ) (d : ℤ) → only f d f ≡ d
only_here f d = ap (λ b. cond b d (pos 0)) (eq-eqb f f refl)

only_else : (f g : ℕ) (d : ℤ) → f ≢ g → only f d g ≡ pos 0
only_else f g d ne = ap (λ b. cond b d (pos 0)) (ne_eqb f g ne)

pub moved_put : (h : List Object) (k : Option PlainClass) (ss : List Slot) (f : ℕ) (n d : ℤ) → ObjectTyped h k ss → slice_get ss f ≡ Some (One (Long n)) → Moved (only f d) ss (put_slot ss f 0 (Long (int_wrap w64 (n +ℤ d))))
moved_put h k ss f n d t e = record { at = λ g. from g (decide_nat f g) }
  where
    from : (g : ℕ) → Decides f g → slice_get (put_slot ss f 0 (Long (int_wrap w64 (n +ℤ d)))) g ≡ plus (slice_get ss g) (only f d g)
    from g (equal same) =
        subst (λ z. slice_get (put_slot ss f 0 (Long (int_wrap w64 (n +ℤ d)))) z ≡ plus (slice_get ss z) (only f d z)) same
        (slot_here ss f _ (Long n) e ∙ sym (ap (λ z. plus (slice_get ss f) z) (only_here f d) ∙ ap (λ s. plus s d) e))
    from g (other ne) = slot_else ss f 0 _ g ne ∙ sym (ap (λ z. plus (slice_get ss g) z) (only_else f g d ne) ∙ object_fits h k ss t g)

-- a field of numbers holds one
pub long_at : (h : List Object) (s : Option Slot) → HasType h (one_in s) LongType → (n : ℤ) × (s ≡ Some (One (Long n)))
long_at h None t = absurd t
long_at h (Some (One (Long n))) t = (n, refl)
long_at h (Some (One (Truth b))) t = absurd t
long_at h (Some (One Null)) t = absurd t
long_at h (Some (One (Ref r))) t = absurd t
long_at h (Some (Many vs)) t = absurd t
