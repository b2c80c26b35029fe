-- Heaps whose numbers moved by differences.
use Rattle.std.proofs.Common.{◌≡◌, ℕ, zero, suc, List, [], ◌∷◌, Option, Some, None, refl, ap, sym, subst, ◌∙◌, arith, ℤ, pos, ◌+ℤ◌, ◌-ℤ◌}
use Rattle.std.specs.Prelude.{slice_get}
use Rattle.std.specs.Int.{int_wrap, w64}
use Rattle.std.proofs.lemmas.Int.{int_wrap-add_right, ints}
use Rattle.ca_lists.proofs.Places.{same_by_places}
use Rattle.ca_program.specs.declared.program.FieldInfo.{FieldInfo}
use Rattle.ca_program.specs.declared.program.ValueType.{ValueType}
use Rattle.ca_program.specs.declared.program.ValueType.TheVariants.{Long as LongType, Bool as BoolType, Pointer}
use Rattle.ca_program.specs.Plain.{PlainClass}
use Rattle.ca_model.specs.declared.value.Value.TheVariants.{Long, Bool as Truth, Null, Ref}
use Rattle.ca_model.specs.declared.value.Slot.{Slot}
use Rattle.ca_model.specs.declared.value.Slot.TheVariants.{One, Many}
use Rattle.ca_model.specs.declared.value.Object.{Object}
use Rattle.ca_model.specs.Typed.{SlotTyped, SlotsTyped, ObjectTyped}
use Rattle.ca_sum_laws.specs.Moves.{plus_one, plus, Moved}
use Rattle.ca_sum_laws.specs.Replicas.{merged_slot, merged_slots, merged_object, merged}
use Rattle.ca_sum_laws.proofs.Slots.{plus_plus}

-- ---- moved slots, objects and heaps

abbrev pub moved_slots : (ℕ → ℤ) → List Slot → List Slot
moved_slots d [] = []
moved_slots d (s ∷ ss) = plus_one s (d 0) ∷ moved_slots (λ f. d (suc f)) ss

abbrev pub moved_object : (ℕ → ℤ) → Object → Object
moved_object d o = record { class = o.class; slots = moved_slots d o.slots }

abbrev pub moved_heap : (ℕ → ℕ → ℤ) → List Object → List Object
moved_heap d [] = []
moved_heap d (o ∷ os) = moved_object (d 0) o ∷ moved_heap (λ n. d (suc n)) os

pub moved_slot_at : (d : ℕ → ℤ) (ss : List Slot) (f : ℕ) → slice_get (moved_slots d ss) f ≡ plus (slice_get ss f) (d f)
moved_slot_at d [] f = refl
moved_slot_at d (s ∷ ss) zero = refl
moved_slot_at d (s ∷ ss) (suc f) = moved_slot_at (λ f. d (suc f)) ss f

pub moved_is : (d : ℕ → ℤ) (ss ts : List Slot) → Moved d ss ts → ts ≡ moved_slots d ss
moved_is d ss ts m = same_by_places ts (moved_slots d ss) (λ f. m.at f ∙ sym (moved_slot_at d ss f))

abbrev pub moved_option : (ℕ → ℤ) → Option Object → Option Object
moved_option d None = None
moved_option d (Some o) = Some (moved_object d o)

pub moved_at : (d : ℕ → ℕ → ℤ) (h : List Object) (n : ℕ) → slice_get (moved_heap d h) n ≡ moved_option (d n) (slice_get h n)
moved_at d [] n = refl
moved_at d (o ∷ os) zero = refl
moved_at d (o ∷ os) (suc n) = moved_at (λ n. d (suc n)) os n

slots_twice : (d e : ℕ → ℤ) (ss : List Slot) → moved_slots e (moved_slots d ss) ≡ moved_slots (λ f. d f +ℤ e f) ss
slots_twice d e ss = same_by_places _ _ (λ f. moved_slot_at e (moved_slots d ss) f ∙ ap (λ s. plus s (e f)) (moved_slot_at d ss f) ∙ plus_plus (slice_get ss f) (d f) (e f) ∙ sym (moved_slot_at (λ f. d f +ℤ e f) ss f))

slots_alike : (d e : ℕ → ℤ) (ss : List Slot) → ((f : ℕ) → d f ≡ e f) → moved_slots d ss ≡ moved_slots e ss
slots_alike d e ss h = same_by_places _ _ (λ f. moved_slot_at d ss f ∙ ap (λ z. plus (slice_get ss f) z) (h f) ∙ sym (moved_slot_at e ss f))

abbrev object_of : Object → List Slot → Object
object_of o ss = record { class = o.class; slots = ss }

option_twice : (d e : ℕ → ℤ) (o : Option Object) → moved_option e (moved_option d o) ≡ moved_option (λ f. d f +ℤ e f) o
option_twice d e None = refl
option_twice d e (Some o) = ap (λ ss. Some (object_of o ss)) (slots_twice d e o.slots)

option_alike : (d e : ℕ → ℤ) (o : Option Object) → ((f : ℕ) → d f ≡ e f) → moved_option d o ≡ moved_option e o
option_alike d e None h = refl
option_alike d e (Some o) h = ap (λ ss. Some (object_of o ss)) (slots_alike d e o.slots h)

pub moved_twice : (d e : ℕ → ℕ → ℤ) (h : List Object) → moved_heap e (moved_heap d h) ≡ moved_heap (λ n f. d n f +ℤ e n f) h
moved_twice d e h = same_by_places _ _ (λ n. moved_at e (moved_heap d h) n ∙ ap (λ o. moved_option (e n) o) (moved_at d h n) ∙ option_twice (d n) (e n) (slice_get h n) ∙ sym (moved_at (λ n f. d n f +ℤ e n f) h n))

pub moved_alike : (d e : ℕ → ℕ → ℤ) (h : List Object) → ((n f : ℕ) → d n f ≡ e n f) → moved_heap d h ≡ moved_heap e h
moved_alike d e h same = same_by_places _ _ (λ n. moved_at d h n ∙ option_alike (d n) (e n) (slice_get h n) (λ f. same n f) ∙ sym (moved_at e h n))

-- ---- objects that move by nothing

abbrev pub Still : Option Object → Type 0
Still None = Unit {0}
Still (Some o) = (f : ℕ) → plus (slice_get o.slots f) (pos 0) ≡ slice_get o.slots f

pub still_option : (d : ℕ → ℤ) (o : Option Object) → Still o → ((f : ℕ) → d f ≡ pos 0) → moved_option d o ≡ o
still_option d None t h = refl
still_option d (Some o) t h = ap (λ ss. Some (object_of o ss)) (same_by_places _ _ (λ f. moved_slot_at d o.slots f ∙ ap (λ z. plus (slice_get o.slots f) z) (h f) ∙ t f))

-- ---- merged

abbrev pub merged_slot_option : Option Slot → Option Slot → Option Slot → Option Slot
merged_slot_option (Some s) (Some a) (Some b) = Some (merged_slot s a b)
merged_slot_option s a b = s

pub merged_slot_at : (ss qs bs : List Slot) (f : ℕ) → slice_get (merged_slots ss qs bs) f ≡ merged_slot_option (slice_get ss f) (slice_get qs f) (slice_get bs f)
merged_slot_at [] qs bs f = refl
merged_slot_at (s ∷ ss) [] bs f = from (slice_get (s ∷ ss) f)
  where
    from : (z : Option Slot) → z ≡ merged_slot_option z None (slice_get bs f)
    from None = refl
    from (Some y) = refl
merged_slot_at (s ∷ ss) (a ∷ qs) [] f = from (slice_get (s ∷ ss) f) (slice_get (a ∷ qs) f)
  where
    from : (z y : Option Slot) → z ≡ merged_slot_option z y None
    from None y = refl
    from (Some z) None = refl
    from (Some z) (Some y) = refl
merged_slot_at (s ∷ ss) (a ∷ qs) (b ∷ bs) zero = refl
merged_slot_at (s ∷ ss) (a ∷ qs) (b ∷ bs) (suc f) = merged_slot_at ss qs bs f

abbrev pub merged_option : Option Object → Option Object → Option Object → Option Object
merged_option (Some o) (Some a) (Some b) = Some (merged_object o a b)
merged_option o a b = o

pub merged_at : (os qs bs : List Object) (n : ℕ) → slice_get (merged os qs bs) n ≡ merged_option (slice_get os n) (slice_get qs n) (slice_get bs n)
merged_at [] qs bs n = refl
merged_at (o ∷ os) [] bs n = from (slice_get (o ∷ os) n)
  where
    from : (z : Option Object) → z ≡ merged_option z None (slice_get bs n)
    from None = refl
    from (Some y) = refl
merged_at (o ∷ os) (a ∷ qs) [] n = from (slice_get (o ∷ os) n) (slice_get (a ∷ qs) n)
  where
    from : (z y : Option Object) → z ≡ merged_option z y None
    from None y = refl
    from (Some z) None = refl
    from (Some z) (Some y) = refl
merged_at (o ∷ os) (a ∷ qs) (b ∷ bs) zero = refl
merged_at (o ∷ os) (a ∷ qs) (b ∷ bs) (suc n) = merged_at os qs bs n

-- a number that moved, taken back
pub moved_back : (n a d : ℤ) → int_wrap w64 (n +ℤ (int_wrap w64 (a +ℤ d) -ℤ a)) ≡ int_wrap w64 (n +ℤ d)
moved_back n a d =
    let one : n +ℤ (int_wrap w64 (a +ℤ d) -ℤ a) ≡ (n -ℤ a) +ℤ int_wrap w64 (a +ℤ d) = omega (arith, ints) in
    let two : (n -ℤ a) +ℤ (a +ℤ d) ≡ n +ℤ d = omega (arith, ints) in
    ap (int_wrap w64) one ∙ int_wrap-add_right w64 (n -ℤ a) (a +ℤ d) ∙ ap (int_wrap w64) two

-- where the one holds a number the other does
pub record SameKind (s a : Option Slot) : Type 0 where
  pub number : (n : ℤ) → s ≡ Some (One (Long n)) → (m : ℤ) × (a ≡ Some (One (Long m)))

merged_moved_slot : (s a : Option Slot) (d : ℤ) → SameKind s a → merged_slot_option s a (plus a d) ≡ plus s d
merged_moved_slot None a d k = refl
merged_moved_slot (Some (One (Long n))) a d k =
    let m = k.number n refl in
    subst (λ z. merged_slot_option (Some (One (Long n))) z (plus z d) ≡ plus (Some (One (Long n))) d) (sym m.1) (ap (λ z. Some (One (Long z))) (moved_back n m.0 d))
merged_moved_slot (Some (One (Truth b))) None d k = refl
merged_moved_slot (Some (One (Truth b))) (Some a) d k = refl
merged_moved_slot (Some (One Null)) None d k = refl
merged_moved_slot (Some (One Null)) (Some a) d k = refl
merged_moved_slot (Some (One (Ref b))) None d k = refl
merged_moved_slot (Some (One (Ref b))) (Some a) d k = refl
merged_moved_slot (Some (Many b)) None d k = refl
merged_moved_slot (Some (Many b)) (Some a) d k = refl

-- the objects of a heap have others in the same places, with numbers where they have
pub record Fits (os qs : List Object) : Type 0 where
  pub fit : (n : ℕ) (o : Object) → slice_get os n ≡ Some o → (q : Object) × (slice_get qs n ≡ Some q) × ((f : ℕ) → SameKind (slice_get o.slots f) (slice_get q.slots f))

pub merged_moved : (d : ℕ → ℕ → ℤ) (now frozen : List Object) → Fits now frozen → merged now frozen (moved_heap d frozen) ≡ moved_heap d now
merged_moved d now frozen fits = same_by_places _ _ (λ n. merged_at now frozen (moved_heap d frozen) n ∙ ap (λ z. merged_option (slice_get now n) (slice_get frozen n) z) (moved_at d frozen n) ∙ from n (slice_get now n) refl ∙ sym (moved_at d now n))
  where
    from : (n : ℕ) (o : Option Object) → slice_get now n ≡ o → merged_option o (slice_get frozen n) (moved_option (d n) (slice_get frozen n)) ≡ moved_option (d n) o
    from n None e = refl
    from n (Some o) e =
        let q = fits.fit n o e in
        subst (λ z. merged_option (Some o) z (moved_option (d n) z) ≡ Some (moved_object (d n) o)) (sym q.1)
        (ap (λ ss. Some (object_of o ss)) (same_by_places _ _ (λ f. merged_slot_at o.slots (let z : Object = q.0 in z.slots) _ f ∙ ap (λ z. merged_slot_option (slice_get o.slots f) (slice_get (let z : Object = q.0 in z.slots) f) z) (moved_slot_at (d n) (let z : Object = q.0 in z.slots) f) ∙ merged_moved_slot (slice_get o.slots f) (slice_get (let z : Object = q.0 in z.slots) f) (d n f) (q.2 f) ∙ sym (moved_slot_at (d n) o.slots f))))

kind_moved : (s a : Option Slot) (d : ℤ) → SameKind s a → SameKind (plus s d) a
kind_moved None a d k = record { number = λ n e. cc }
kind_moved (Some (One (Long m))) a d k = record { number = λ n e. k.number m refl }
kind_moved (Some (One (Truth b))) a d k = record { number = λ n e. cc }
kind_moved (Some (One Null)) a d k = record { number = λ n e. cc }
kind_moved (Some (One (Ref b))) a d k = record { number = λ n e. cc }
kind_moved (Some (Many b)) a d k = record { number = λ n e. cc }

pub fits_moved : (d : ℕ → ℕ → ℤ) (now frozen : List Object) → Fits now frozen → Fits (moved_heap d now) frozen
fits_moved d now frozen fits = record { fit = λ n o e. from n o (slice_get now n) refl (sym (moved_at d now n) ∙ e) }
  where
    from : (n : ℕ) (o : Object) (z : Option Object) → slice_get now n ≡ z → moved_option (d n) z ≡ Some o → (q : Object) × (slice_get frozen n ≡ Some q) × ((f : ℕ) → SameKind (slice_get o.slots f) (slice_get q.slots f))
    from n o None e m = cc
    from n o (Some y) e m =
        let q = fits.fit n y e in
        let same : moved_object (d n) y ≡ o = cc in
        (q.0, q.1, λ f. subst (λ (z : Object). SameKind (slice_get z.slots f) (slice_get (let w : Object = q.0 in w.slots) f)) same (subst (λ z. SameKind z (slice_get (let w : Object = q.0 in w.slots) f)) (sym (moved_slot_at (d n) y.slots f)) (kind_moved (slice_get y.slots f) (slice_get (let w : Object = q.0 in w.slots) f) (d n f) (q.2 f))))

-- ---- typed objects of one class

kind_typed : (h : List Object) (s a : Slot) (ty : ValueType) (l : Option ℕ) → SlotTyped h s ty l → SlotTyped h a ty l → SameKind (Some s) (Some a)
kind_typed h (One (Long n)) (One (Long m)) LongType None t u = record { number = λ k e. (m, refl) }
kind_typed h (One (Long n)) (One (Truth b)) LongType None t u = absurd u
kind_typed h (One (Long n)) (One Null) LongType None t u = absurd u
kind_typed h (One (Long n)) (One (Ref b)) LongType None t u = absurd u
kind_typed h (One (Long n)) (Many vs) LongType None t u = absurd u
kind_typed h (One (Long n)) a BoolType None t u = absurd t
kind_typed h (One (Long n)) a (Pointer c) None t u = absurd t
kind_typed h (One (Long n)) a ty (Some k) t u = absurd t
kind_typed h (One (Truth b)) a ty l t u = record { number = λ n e. cc }
kind_typed h (One Null) a ty l t u = record { number = λ n e. cc }
kind_typed h (One (Ref b)) a ty l t u = record { number = λ n e. cc }
kind_typed h (Many vs) a ty l t u = record { number = λ n e. cc }

kinds_typed : (h : List Object) (ss qs : List Slot) (fs : List FieldInfo) → SlotsTyped h ss fs → SlotsTyped h qs fs → (f : ℕ) → SameKind (slice_get ss f) (slice_get qs f)
kinds_typed h [] qs fs t u f = record { number = λ n e. cc }
kinds_typed h (s ∷ ss) qs [] t u f = absurd t
kinds_typed h (s ∷ ss) [] (x ∷ fs) t u f = absurd u
kinds_typed h (s ∷ ss) (a ∷ qs) (x ∷ fs) t u zero = kind_typed h s a x.ty x.length t.0 u.0
kinds_typed h (s ∷ ss) (a ∷ qs) (x ∷ fs) t u (suc f) = kinds_typed h ss qs fs t.1 u.1 f

pub objects_kinds : (h : List Object) (k : Option PlainClass) (ss qs : List Slot) → ObjectTyped h k ss → ObjectTyped h k qs → (f : ℕ) → SameKind (slice_get ss f) (slice_get qs f)
objects_kinds h None ss qs t u f = absurd t
objects_kinds h (Some k) ss qs t u f = kinds_typed h ss qs k.fields t u f
