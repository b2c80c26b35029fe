-- A put to a written field changes no other: the step of the frames of a serial run, and of a section's constants.
use Rattle.std.proofs.Common.{◌≡◌, ℕ, zero, suc, List, [], ◌∷◌, refl, ap, sym, subst, ◌∙◌}
use Rattle.std.specs.Prelude.{slice_get, Contains}
use Rattle.ca_program.specs.declared.program.ClassId.{ClassId}
use Rattle.ca_program.specs.declared.program.FieldId.{FieldId}
use Rattle.ca_model.specs.declared.value.Value.{Value as Datum}
use Rattle.ca_model.specs.declared.value.Slot.{Slot}
use Rattle.ca_model.specs.declared.value.Object.{Object}
use Rattle.ca_model.specs.Slots.{put_slot}
use Rattle.ca_model.specs.Heaps.{stored}
use Rattle.ca_model.specs.Typed.{IsOfClass}
use Rattle.ca_meaning.specs.Expressions.{slot_of}
use Rattle.ca_order_laws.proofs.Likes.{Like}

-- other slots stay
pub slot_else : (ss : List Slot) (f i : ℕ) (v : Datum) (g : ℕ) → ¬ (f ≡ g) → slice_get (put_slot ss f i v) g ≡ slice_get ss g
slot_else [] f i v g ne = refl
slot_else (s ∷ ss) zero i v zero ne = absurd (ne refl)
slot_else (s ∷ ss) zero i v (suc g) ne = refl
slot_else (s ∷ ss) (suc f) i v zero ne = refl
slot_else (s ∷ ss) (suc f) i v (suc g) ne = slot_else ss f i v g (λ e. ne (ap suc e))

abbrev made : ClassId → ℕ → FieldId
made c n = record { class = c; field = n }

pub field_same : (f g : FieldId) → f.class ≡ g.class → f.field ≡ g.field → f ≡ g
field_same f g a b = ap (λ c. made c f.field) a ∙ ap (λ n. made g.class n) b

pub put_like : (written : List FieldId) (h : List Object) (n : ℕ) (f : FieldId) (i : ℕ) (v : Datum) → Contains written f → IsOfClass (slice_get h n) f.class → Like written h (stored h n f.field i v)
put_like written h n f i v at there = record { slots = λ m g is free. from h n m g there is (λ c e. free (subst (λ z. Contains written z) (field_same f g c e) at)) }
  where
    from : (h : List Object) (n m : ℕ) (g : FieldId) → IsOfClass (slice_get h n) f.class → IsOfClass (slice_get h m) g.class → (f.class ≡ g.class → ¬ (f.field ≡ g.field)) → slot_of h m g ≡ slot_of (stored h n f.field i v) m g
    from [] n m g a b ne = absurd a
    from (o ∷ h) zero zero g a b ne = sym (slot_else o.slots f.field i v g.field (ne (sym a ∙ b)))
    from (o ∷ h) zero (suc m) g a b ne = refl
    from (o ∷ h) (suc n) zero g a b ne = refl
    from (o ∷ h) (suc n) (suc m) g a b ne = from h n m g a b ne
