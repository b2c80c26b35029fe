-- Any heap that stands for the frozen one, the snapshot, serves as well.
use Rattle.std.proofs.Common.{◌≡◌, ℕ, zero, suc, List, [], ◌∷◌, length, Option, Some, None, refl, ap, sym, ◌∙◌, arith}
use Rattle.std.specs.Prelude.{slice_get, Contains}
use Rattle.ca_program.specs.declared.program.FieldId.{FieldId}
use Rattle.ca_model.specs.declared.value.Object.{Object}
use Rattle.ca_model.specs.Typed.{IsOfClass}
use Rattle.ca_meaning.specs.Expressions.{slots_in, slot_of}
use Rattle.ca_meaning.specs.Agree.{AgreesAt, HeapsAgree}
use Rattle.ca_order_laws.specs.Order.{AnyFrozenHeap}
use Rattle.ca_order_laws.proofs.Likes.{Like}
use Rattle.ca_order_laws.proofs.Places.{one_some}
use Rattle.ca_order_laws.proofs.FrozenHeap.{frozen_same}

-- heaps of as many objects have an object in the same places
pub there_too : (h g : List Object) → length h ≡ length g → (n : ℕ) (q : Object) → slice_get g n ≡ Some q → (o : Object) × (slice_get h n ≡ Some o)
there_too h [] e n q d = cc
there_too [] (y ∷ g) e n q d = absurd (omega arith)
there_too (x ∷ h) (y ∷ g) e zero q d = (x, refl)
there_too (x ∷ h) (y ∷ g) e (suc n) q d = there_too h g (omega arith) n q d

pub agree_like : (written : List FieldId) (frozen h : List Object) → HeapsAgree written h frozen → Like written frozen h
agree_like written frozen h agree = record { slots = λ n f there free. from n f (slice_get frozen n) refl there free }
  where
    at : (n : ℕ) (f : FieldId) (q o : Object) → slice_get frozen n ≡ Some q → slice_get h n ≡ Some o → q.class ≡ f.class → ¬ Contains written f → slot_of frozen n f ≡ slot_of h n f
    at n f q o eq eo c free =
        let a : AgreesAt written o frozen n = agree.each n o eo in
        let same : a.other ≡ q = one_some _ a.other q a.there eq in
        let class : f.class ≡ o.class = sym c ∙ sym (ap (λ (z : Object). z.class) same) ∙ sym a.agree.class in
        ap (λ z. slice_get (slots_in z) f.field) a.there ∙ sym (a.agree.constants f class free) ∙ ap (λ z. slice_get (slots_in z) f.field) (sym eo)

    from : (n : ℕ) (f : FieldId) (z : Option Object) → slice_get frozen n ≡ z → IsOfClass z f.class → ¬ Contains written f → slot_of frozen n f ≡ slot_of h n f
    from n f None e there free = absurd there
    from n f (Some q) e there free = let o = there_too h frozen agree.as_many n q e in at n f q o.0 e o.1 there free

pub any_frozen_heap : AnyFrozenHeap
any_frozen_heap p program x frozen h heap st i sep well c of_class o object k =
    frozen_same p program x.written frozen h heap (agree_like x.written frozen h st.agree) i well c of_class o object sep k
