-- Adding sums is merging.
use Rattle.std.proofs.Common.{◌≡◌, ◌≢◌, ◌⊎◌, inl, inr, ℕ, zero, suc, List, [], ◌∷◌, length, Option, Some, None, refl, ap, sym, subst, ◌∙◌, arith, ℤ, pos, ◌+ℤ◌, ◌-ℤ◌, Bool, true, false, cond, nat_eq, eq-eqb, ne_eqb, length-set, set-set}
use Rattle.std.specs.Prelude.{slice_get, slice_set}
use Rattle.std.specs.Int.{int_wrap, w64}
use Rattle.std.proofs.lemmas.Int.{int_wrap-add_left, ints}
use Rattle.ca_lists.proofs.Places.{get_set_here, same_by_places}
use Rattle.ca_program.specs.declared.program.ClassId.{ClassId}
use Rattle.ca_program.specs.declared.program.FieldId.{FieldId}
use Rattle.ca_model.specs.declared.value.Value.TheVariants.{Long, Bool as Truth, Null, Ref}
use Rattle.ca_model.specs.declared.value.Slot.{Slot}
use Rattle.ca_model.specs.declared.value.Slot.TheVariants.{One, Many}
use Rattle.ca_model.specs.declared.value.Object.{Object}
use Rattle.ca_model.proofs.Stores.{stored_is}
use Rattle.ca_meaning.specs.Expressions.{slots_in}
use Rattle.ca_order_laws.proofs.Decided.{decide_nat}
use Rattle.ca_order_laws.proofs.Weights.{Decides, equal, other}
use Rattle.ca_order_laws.proofs.Puts.{slot_else}
use Rattle.ca_order_laws.proofs.Places.{get_else, one_some}
use Rattle.ca_order_laws.proofs.Frozen.{there_too}
use Rattle.ca_beside.specs.declared.beside.Changed.{Changed}
use Rattle.ca_beside.specs.Beside.{present, AreDistinct, IsAbsent}
use Rattle.ca_beside.proofs.Present.{present_absent, present_set_first}
use Rattle.ca_order_laws.proofs.CallThenList.{set_same}
use Rattle.ca_sum_laws.specs.Moves.{plus, Still}
use Rattle.ca_sum_laws.specs.Replicas.{merged_slot, merged_object, merged}
use Rattle.ca_sum_laws.proofs.Slots.{slot_here}
use Rattle.ca_sum_laws.proofs.Heaps.{merged_slot_at, merged_slot_option}
use Rattle.ca_sum_laws.proofs.Merging.{one_by_one}
use Rattle.ca_replica.specs.Zeroed.{number_at, zeroed_number, zeroed_slot, zeroed_field, zeroed, zeroed_heap}
use Rattle.ca_replica.specs.Adding.{sum_numbers, sum_at, sums_in, added_numbers, added_number, added_field, added_object, added, Absent, Once, IsCopy, AddingIsMerging}
use Rattle.ca_replica.proofs.Copying.{zeroed_at}

-- ---- a field in a list of fields

pub data Hit (c : ClassId) (g : ℕ) : List FieldId → Type 0 where
  here : (f : FieldId) (fs : List FieldId) → f.class.0 ≡ c.0 → f.field ≡ g → Absent fs c g → Hit c g (f ∷ fs)
  later : (f : FieldId) (fs : List FieldId) → ¬ ((f.class.0 ≡ c.0) × (f.field ≡ g)) → Hit c g fs → Hit c g (f ∷ fs)

absent_like : (fs : List FieldId) (a b : ClassId) (g k : ℕ) → a.0 ≡ b.0 → g ≡ k → Absent fs a g → Absent fs b k
absent_like [] a b g k e d x = tt
absent_like (f ∷ fs) a b g k e d x = (λ z. x.0 (z.0 ∙ sym e, z.1 ∙ sym d), absent_like fs a b g k e d x.1)

pub look : (fs : List FieldId) → Once fs → (c : ClassId) (g : ℕ) → Hit c g fs ⊎ Absent fs c g
look [] o c g = inr tt
look (f ∷ fs) o c g = from (decide_nat f.class.0 c.0) (decide_nat f.field g) (look fs o.1 c g)
  where
    away : ¬ ((f.class.0 ≡ c.0) × (f.field ≡ g)) → Hit c g fs ⊎ Absent fs c g → Hit c g (f ∷ fs) ⊎ Absent (f ∷ fs) c g
    away n (inl h) = inl (later f fs n h)
    away n (inr a) = inr (n, a)

    from : Decides f.class.0 c.0 → Decides f.field g → Hit c g fs ⊎ Absent fs c g → Hit c g (f ∷ fs) ⊎ Absent (f ∷ fs) c g
    from (equal e) (equal d) r = inl (here f fs e d (absent_like fs f.class c f.field g e d o.0))
    from (equal e) (other n) r = away (λ z. n z.1) r
    from (other n) d r = away (λ z. n z.0) r

-- ---- sums in the slots of one object

abbrev pub sum_one : Option Slot → Option Slot → Option Slot
sum_one (Some (One (Long n))) (Some (One (Long b))) = Some (One (Long (int_wrap w64 (n +ℤ b))))
sum_one s c = s

abbrev pub zero_one : Option Slot → Option Slot
zero_one (Some (One (Long n))) = Some (One (Long (pos 0)))
zero_one s = s

pub numbered : (s : Option Slot) (n : ℤ) → number_at s ≡ Some n → s ≡ Some (One (Long n))
numbered None n e = cc
numbered (Some (One (Long m))) n e = let z : m ≡ n = cc in ap (λ k. Some (One (Long k))) z
numbered (Some (One (Truth b))) n e = cc
numbered (Some (One Null)) n e = cc
numbered (Some (One (Ref b))) n e = cc
numbered (Some (Many vs)) n e = cc

sum_first : (s c : Option Slot) → number_at s ≡ None → s ≡ sum_one s c
sum_first None c e = refl
sum_first (Some (One (Long n))) c e = cc
sum_first (Some (One (Truth b))) c e = refl
sum_first (Some (One Null)) c e = refl
sum_first (Some (One (Ref b))) c e = refl
sum_first (Some (Many vs)) c e = refl

sum_second : (s c : Option Slot) → number_at c ≡ None → s ≡ sum_one s c
sum_second None c e = refl
sum_second (Some (One (Long n))) None e = refl
sum_second (Some (One (Long n))) (Some (One (Long b))) e = cc
sum_second (Some (One (Long n))) (Some (One (Truth b))) e = refl
sum_second (Some (One (Long n))) (Some (One Null)) e = refl
sum_second (Some (One (Long n))) (Some (One (Ref b))) e = refl
sum_second (Some (One (Long n))) (Some (Many vs)) e = refl
sum_second (Some (One (Truth b))) c e = refl
sum_second (Some (One Null)) c e = refl
sum_second (Some (One (Ref b))) c e = refl
sum_second (Some (Many vs)) c e = refl

sum_here : (f : ℕ) (cs ss : List Slot) → slice_get (sum_at f cs ss) f ≡ sum_one (slice_get ss f) (slice_get cs f)
sum_here f cs ss = from (number_at (slice_get ss f)) (number_at (slice_get cs f)) refl refl
  where
    from : (a b : Option ℤ) → number_at (slice_get ss f) ≡ a → number_at (slice_get cs f) ≡ b → slice_get (sum_numbers ss f a b) f ≡ sum_one (slice_get ss f) (slice_get cs f)
    from (Some a) (Some b) e d =
        let s = numbered (slice_get ss f) a e in let c = numbered (slice_get cs f) b d in
        slot_here ss f (Long (int_wrap w64 (a +ℤ b))) (Long a) s ∙ sym (ap (λ z. sum_one z (slice_get cs f)) s ∙ ap (λ z. sum_one (Some (One (Long a))) z) c)
    from None b e d = sum_first (slice_get ss f) (slice_get cs f) e
    from (Some a) None e d = sum_second (slice_get ss f) (slice_get cs f) d

sum_else : (f g : ℕ) (cs ss : List Slot) → f ≢ g → slice_get (sum_at f cs ss) g ≡ slice_get ss g
sum_else f g cs ss ne = from (number_at (slice_get ss f)) (number_at (slice_get cs f))
  where
    from : (a b : Option ℤ) → slice_get (sum_numbers ss f a b) g ≡ slice_get ss g
    from (Some a) (Some b) = slot_else ss f 0 _ g ne
    from None b = refl
    from (Some a) None = refl

pub zero_here : (f : ℕ) (ss : List Slot) → slice_get (zeroed_slot f ss) f ≡ zero_one (slice_get ss f)
zero_here f ss = from (number_at (slice_get ss f)) refl
  where
    none : (s : Option Slot) → number_at s ≡ None → s ≡ zero_one s
    none None e = refl
    none (Some (One (Long n))) e = cc
    none (Some (One (Truth b))) e = refl
    none (Some (One Null)) e = refl
    none (Some (One (Ref b))) e = refl
    none (Some (Many vs)) e = refl

    from : (a : Option ℤ) → number_at (slice_get ss f) ≡ a → slice_get (zeroed_number ss f a) f ≡ zero_one (slice_get ss f)
    from (Some a) e = let s = numbered (slice_get ss f) a e in slot_here ss f (Long (pos 0)) (Long a) s ∙ sym (ap zero_one s)
    from None e = none (slice_get ss f) e

pub zero_else : (f g : ℕ) (ss : List Slot) → f ≢ g → slice_get (zeroed_slot f ss) g ≡ slice_get ss g
zero_else f g ss ne = from (number_at (slice_get ss f))
  where
    from : (a : Option ℤ) → slice_get (zeroed_number ss f a) g ≡ slice_get ss g
    from (Some a) = slot_else ss f 0 _ g ne
    from None = refl

-- one field of a class test
pub chosen_else : (f : FieldId) (c : ClassId) (g : ℕ) (ss ts : List Slot) → ¬ ((f.class.0 ≡ c.0) × (f.field ≡ g)) → (f.field ≢ g → slice_get ts g ≡ slice_get ss g) → slice_get (cond (nat_eq f.class.0 c.0) ts ss) g ≡ slice_get ss g
chosen_else f c g ss ts n h = from (decide_nat f.class.0 c.0)
  where
    from : Decides f.class.0 c.0 → slice_get (cond (nat_eq f.class.0 c.0) ts ss) g ≡ slice_get ss g
    from (equal e) = ap (λ b. slice_get (cond b ts ss) g) (eq-eqb f.class.0 c.0 e) ∙ h (λ d. n (e, d))
    from (other ne) = ap (λ b. slice_get (cond b ts ss) g) (ne_eqb f.class.0 c.0 ne)

pub chosen_here : (f : FieldId) (c : ClassId) (ss ts : List Slot) → f.class.0 ≡ c.0 → cond (nat_eq f.class.0 c.0) ts ss ≡ ts
chosen_here f c ss ts e = ap (λ b. cond b ts ss) (eq-eqb f.class.0 c.0 e)

pub sums_absent : (fs : List FieldId) (c : ClassId) (g : ℕ) (cs ss : List Slot) → Absent fs c g → slice_get (sums_in fs c cs ss) g ≡ slice_get ss g
sums_absent [] c g cs ss a = refl
sums_absent (f ∷ fs) c g cs ss a = sums_absent fs c g cs _ a.1 ∙ chosen_else f c g ss (sum_at f.field cs ss) a.0 (λ ne. sum_else f.field g cs ss ne)

pub sums_hit : (c : ClassId) (g : ℕ) (cs : List Slot) (fs : List FieldId) (ss : List Slot) → Hit c g fs → slice_get (sums_in fs c cs ss) g ≡ sum_one (slice_get ss g) (slice_get cs g)
sums_hit c g cs all ss (here f fs e d a) =
    sums_absent fs c g cs _ a ∙ ap (λ z. slice_get z g) (chosen_here f c ss (sum_at f.field cs ss) e)
    ∙ subst (λ k. slice_get (sum_at f.field cs ss) k ≡ sum_one (slice_get ss k) (slice_get cs k)) d (sum_here f.field cs ss)
sums_hit c g cs all ss (later f fs n h) = sums_hit c g cs fs _ h ∙ ap (λ z. sum_one z (slice_get cs g)) (chosen_else f c g ss (sum_at f.field cs ss) n (λ ne. sum_else f.field g cs ss ne))

pub zero_class : (fs : List FieldId) (o : Object) → (let z : Object = zeroed fs o in z.class) ≡ o.class
zero_class [] o = refl
zero_class (f ∷ fs) o = zero_class fs (zeroed_field f o)

abbrev pub slots_of : Object → List Slot
slots_of o = o.slots

pub zero_absent : (fs : List FieldId) (o : Object) (g : ℕ) → Absent fs o.class g → slice_get (let z : Object = zeroed fs o in z.slots) g ≡ slice_get o.slots g
zero_absent [] o g a = refl
zero_absent (f ∷ fs) o g a = zero_absent fs (zeroed_field f o) g a.1 ∙ chosen_else f o.class g o.slots (zeroed_slot f.field o.slots) a.0 (λ ne. zero_else f.field g o.slots ne)

pub zero_hit : (c : ClassId) (g : ℕ) (fs : List FieldId) (o : Object) → o.class ≡ c → Hit c g fs → slice_get (let z : Object = zeroed fs o in z.slots) g ≡ zero_one (slice_get o.slots g)
zero_hit c g all o k (here f fs e d a) =
    zero_absent fs (zeroed_field f o) g (subst (λ z. Absent fs z g) (sym k) a) ∙ ap (λ z. slice_get z g) (chosen_here f o.class o.slots (zeroed_slot f.field o.slots) (e ∙ sym (ap (λ z. z.0) k)))
    ∙ subst (λ k. slice_get (zeroed_slot f.field o.slots) k ≡ zero_one (slice_get o.slots k)) d (zero_here f.field o.slots)
zero_hit c g all o k (later f fs n h) = zero_hit c g fs (zeroed_field f o) k h ∙ ap zero_one (chosen_else f o.class g o.slots (zeroed_slot f.field o.slots) (λ z. n (z.0 ∙ ap (λ z. z.0) k, z.1)) (λ ne. zero_else f.field g o.slots ne))

-- ---- one object

abbrev pub object_of : ClassId → List Slot → Object
object_of c ss = record { class = c; slots = ss }

pub added_set : (fs : List FieldId) (n : ℕ) (b : Object) (h : List Object) (o : Object) → slice_get h n ≡ Some o → added_object fs n b h ≡ slice_set h n (object_of o.class (sums_in fs b.class b.slots o.slots))
added_set [] n b h o e = sym (set_same h n o e)
added_set (f ∷ fs) n b h o e =
    ap (added_object fs n b) one ∙ added_set fs n b (slice_set h n next) next (get_set_here h n o next e) ∙ set-set h n next _
  where
    next : Object
    next = object_of o.class (cond (nat_eq f.class.0 b.class.0) (sum_at f.field b.slots o.slots) o.slots)

    number : (x y : Option ℤ) → added_numbers h n f.field x y ≡ slice_set h n (object_of o.class (sum_numbers o.slots f.field x y))
    number (Some x) (Some y) = sym (stored_is h n f.field 0 (Long (int_wrap w64 (x +ℤ y))) o e)
    number None y = sym (set_same h n o e)
    number (Some x) None = sym (set_same h n o e)

    case : (t : Bool) → cond t (added_number b.slots n f.field h) h ≡ slice_set h n (object_of o.class (cond t (sum_at f.field b.slots o.slots) o.slots))
    case true = ap (λ (z : Option Object). added_numbers h n f.field (number_at (slice_get (slots_in z) f.field)) (number_at (slice_get b.slots f.field))) e ∙ number (number_at (slice_get o.slots f.field)) (number_at (slice_get b.slots f.field))
    case false = sym (set_same h n o e)

    one : added_field n b f h ≡ slice_set h n next
    one = case (nat_eq f.class.0 b.class.0)

other_first : (s : Slot) (z b : Option Slot) → ((x y : Slot) → s ≡ merged_slot s x y) → Some s ≡ merged_slot_option (Some s) z b
other_first s None b h = refl
other_first s (Some z) None h = refl
other_first s (Some z) (Some b) h = ap Some (h z b)

-- where the first one holds 0
sum_merged : (s q b : Option Slot) → ((n : ℤ) → number_at b ≡ Some n → (m : ℤ) × (number_at q ≡ Some m)) → sum_one s b ≡ merged_slot_option s (zero_one q) b
sum_merged None q b k = refl
sum_merged (Some (One (Long n))) q (Some (One (Long b))) k =
    let m = k b refl in
    let z : q ≡ Some (One (Long m.0)) = numbered q m.0 m.1 in
    let d : b ≡ b -ℤ pos 0 = omega (arith, ints) in
    ap (λ x. Some (One (Long (int_wrap w64 (n +ℤ x))))) d ∙ sym (ap (λ x. merged_slot_option (Some (One (Long n))) (zero_one x) (Some (One (Long b)))) z)
sum_merged (Some (One (Long n))) q None k = none (zero_one q)
  where
    none : (z : Option Slot) → Some (One (Long n)) ≡ merged_slot_option (Some (One (Long n))) z None
    none None = refl
    none (Some y) = refl
sum_merged (Some (One (Long n))) q (Some (One (Truth b))) k = none (zero_one q)
  where
    none : (z : Option Slot) → Some (One (Long n)) ≡ merged_slot_option (Some (One (Long n))) z (Some (One (Truth b)))
    none None = refl
    none (Some (One (Long y))) = refl
    none (Some (One (Truth y))) = refl
    none (Some (One Null)) = refl
    none (Some (One (Ref y))) = refl
    none (Some (Many y)) = refl
sum_merged (Some (One (Long n))) q (Some (One Null)) k = none (zero_one q)
  where
    none : (z : Option Slot) → Some (One (Long n)) ≡ merged_slot_option (Some (One (Long n))) z (Some (One Null))
    none None = refl
    none (Some (One (Long y))) = refl
    none (Some (One (Truth y))) = refl
    none (Some (One Null)) = refl
    none (Some (One (Ref y))) = refl
    none (Some (Many y)) = refl
sum_merged (Some (One (Long n))) q (Some (One (Ref b))) k = none (zero_one q)
  where
    none : (z : Option Slot) → Some (One (Long n)) ≡ merged_slot_option (Some (One (Long n))) z (Some (One (Ref b)))
    none None = refl
    none (Some (One (Long y))) = refl
    none (Some (One (Truth y))) = refl
    none (Some (One Null)) = refl
    none (Some (One (Ref y))) = refl
    none (Some (Many y)) = refl
sum_merged (Some (One (Long n))) q (Some (Many b)) k = none (zero_one q)
  where
    none : (z : Option Slot) → Some (One (Long n)) ≡ merged_slot_option (Some (One (Long n))) z (Some (Many b))
    none None = refl
    none (Some (One (Long y))) = refl
    none (Some (One (Truth y))) = refl
    none (Some (One Null)) = refl
    none (Some (One (Ref y))) = refl
    none (Some (Many y)) = refl
sum_merged (Some (One (Truth n))) q b k = other_first (One (Truth n)) (zero_one q) b (λ x y. refl)
sum_merged (Some (One Null)) q b k = other_first (One Null) (zero_one q) b (λ x y. refl)
sum_merged (Some (One (Ref n))) q b k = other_first (One (Ref n)) (zero_one q) b (λ x y. refl)
sum_merged (Some (Many n)) q b k = other_first (Many n) (zero_one q) b (λ x y. refl)

-- where both are one slot
same_merged : (s q : Option Slot) → plus s (pos 0) ≡ s → s ≡ merged_slot_option s q q
same_merged None q t = refl
same_merged (Some s) None t = refl
same_merged (Some (One (Long n))) (Some (One (Long b))) t = let d : pos 0 ≡ b -ℤ b = omega (arith, ints) in sym t ∙ ap (λ x. Some (One (Long (int_wrap w64 (n +ℤ x))))) d
same_merged (Some (One (Long n))) (Some (One (Truth b))) t = refl
same_merged (Some (One (Long n))) (Some (One Null)) t = refl
same_merged (Some (One (Long n))) (Some (One (Ref b))) t = refl
same_merged (Some (One (Long n))) (Some (Many b)) t = refl
same_merged (Some (One (Truth n))) (Some q) t = refl
same_merged (Some (One Null)) (Some q) t = refl
same_merged (Some (One (Ref n))) (Some q) t = refl
same_merged (Some (Many n)) (Some q) t = refl

object_summed : (fs : List FieldId) → Once fs → (first copy : Object) (i : IsCopy fs first copy) (o : Object) → Still o →
    object_of o.class (sums_in fs copy.class copy.slots o.slots) ≡ merged_object o (zeroed fs first) copy
object_summed fs once first copy i o still = ap (object_of o.class) (same_by_places _ _ (λ g. from g (look fs once first.class g) ∙ sym (merged_slot_at o.slots (slots_of (zeroed fs first)) copy.slots g)))
  where
    from : (g : ℕ) → Hit first.class g fs ⊎ Absent fs first.class g → slice_get (sums_in fs copy.class copy.slots o.slots) g ≡ merged_slot_option (slice_get o.slots g) (slice_get (slots_of (zeroed fs first)) g) (slice_get copy.slots g)
    from g (inl h) =
        sums_hit copy.class g copy.slots fs o.slots (subst (λ k. Hit k g fs) (sym i.class) h)
        ∙ sum_merged (slice_get o.slots g) (slice_get first.slots g) (slice_get copy.slots g) (i.numbers g)
        ∙ ap (λ z. merged_slot_option (slice_get o.slots g) z (slice_get copy.slots g)) (sym (zero_hit first.class g fs first refl h))
    from g (inr a) =
        sums_absent fs copy.class g copy.slots o.slots (subst (λ k. Absent fs k g) (sym i.class) a)
        ∙ same_merged (slice_get o.slots g) (slice_get copy.slots g) (still g)
        ∙ ap (λ z. merged_slot_option (slice_get o.slots g) z (slice_get copy.slots g)) (i.constants g a ∙ sym (zero_absent fs first g a))

-- ---- all copies

merged_still : (s a b : Option Slot) → plus s (pos 0) ≡ s → plus (merged_slot_option s a b) (pos 0) ≡ merged_slot_option s a b
merged_still None a b t = refl
merged_still (Some s) None b t = t
merged_still (Some s) (Some a) None t = t
merged_still (Some (One (Long n))) (Some (One (Long a))) (Some (One (Long b))) t =
    let d : (n +ℤ (b -ℤ a)) +ℤ pos 0 ≡ n +ℤ (b -ℤ a) = omega (arith, ints) in
    ap (λ x. Some (One (Long x))) (int_wrap-add_left w64 (n +ℤ (b -ℤ a)) (pos 0) ∙ ap (int_wrap w64) d)
merged_still (Some (One (Long n))) (Some (One (Long a))) (Some (One (Truth b))) t = t
merged_still (Some (One (Long n))) (Some (One (Long a))) (Some (One Null)) t = t
merged_still (Some (One (Long n))) (Some (One (Long a))) (Some (One (Ref b))) t = t
merged_still (Some (One (Long n))) (Some (One (Long a))) (Some (Many b)) t = t
merged_still (Some (One (Long n))) (Some (One (Truth a))) (Some b) t = t
merged_still (Some (One (Long n))) (Some (One Null)) (Some b) t = t
merged_still (Some (One (Long n))) (Some (One (Ref a))) (Some b) t = t
merged_still (Some (One (Long n))) (Some (Many a)) (Some b) t = t
merged_still (Some (One (Truth n))) (Some a) (Some b) t = t
merged_still (Some (One Null)) (Some a) (Some b) t = t
merged_still (Some (One (Ref n))) (Some a) (Some b) t = t
merged_still (Some (Many n)) (Some a) (Some b) t = t

object_still : (o a b : Object) → Still o → Still (merged_object o a b)
object_still o a b t = λ f. subst (λ z. plus z (pos 0) ≡ z) (sym (merged_slot_at o.slots a.slots b.slots f)) (merged_still (slice_get o.slots f) (slice_get a.slots f) (slice_get b.slots f) (t f))

-- an object that isn't there
pub none_added : (fs : List FieldId) (n : ℕ) (b : Object) (h : List Object) → slice_get h n ≡ None → added_object fs n b h ≡ h
none_added [] n b h e = refl
none_added (f ∷ fs) n b h e = ap (added_object fs n b) (case (nat_eq f.class.0 b.class.0)) ∙ none_added fs n b h e
  where
    case : (t : Bool) → cond t (added_number b.slots n f.field h) h ≡ h
    case true = ap (λ (z : Option Object). added_numbers h n f.field (number_at (slice_get (slots_in z) f.field)) (number_at (slice_get b.slots f.field))) e
    case false = refl

none_set : (h : List Object) (n : ℕ) (b : Object) → slice_get h n ≡ None → slice_set h n b ≡ h
none_set [] n b e = refl
none_set (x ∷ h) zero b e = cc
none_set (x ∷ h) (suc n) b e = ap (λ l. x ∷ l) (none_set h n b e)

none_too : (h g : List Object) → length h ≡ length g → (n : ℕ) → slice_get g n ≡ None → slice_get h n ≡ None
none_too [] g e n d = refl
none_too (x ∷ h) [] e n d = absurd (omega (arith, e))
none_too (x ∷ h) (y ∷ g) e zero d = cc
none_too (x ∷ h) (y ∷ g) e (suc n) d = none_too h g (omega (arith, e)) n d

pub zeroed_many : (fs : List FieldId) (h : List Object) → length (zeroed_heap fs h) ≡ length h
zeroed_many fs [] = refl
zeroed_many fs (o ∷ h) = ap suc (zeroed_many fs h)

module _ (fs : List FieldId) (once : Once fs) (frozen : List Object) where
  merges : (cs : List Changed) (now : List Object) → AreDistinct cs → length now ≡ length frozen → ((n : ℕ) (o : Object) → slice_get now n ≡ Some o → Still o) → ((i : ℕ) (c : Changed) → slice_get cs i ≡ Some c → (first : Object) → slice_get frozen c.number ≡ Some first → IsCopy fs first c.object) → added fs cs now ≡ merged now (zeroed_heap fs frozen) (present (zeroed_heap fs frozen) cs)
  merges [] now d many still copy = nothing_merged now (zeroed_heap fs frozen) still
    where
      nothing_merged : (os qs : List Object) → ((n : ℕ) (o : Object) → slice_get os n ≡ Some o → Still o) → os ≡ merged os qs qs
      nothing_merged [] qs t = refl
      nothing_merged (o ∷ os) [] t = refl
      nothing_merged (o ∷ os) (q ∷ qs) t =
          let one : o ≡ merged_object o q q = ap (object_of o.class) (same_by_places _ _ (λ g. same_merged (slice_get o.slots g) (slice_get q.slots g) (t 0 o refl g) ∙ sym (merged_slot_at o.slots q.slots q.slots g))) in
          let more : os ≡ merged os qs qs = nothing_merged os qs (λ n. t (suc n)) in
          ap (λ z. z ∷ os) one ∙ ap (λ l. merged_object o q q ∷ l) more
  merges (c ∷ cs) now d many still copy = case (slice_get frozen c.number) refl (λ g m t. merges cs g tail m t more)
    where
      base : List Object
      base = zeroed_heap fs frozen

      tail : AreDistinct cs
      tail = λ x y u v e f same. let s : suc x ≡ suc y = d (suc x) (suc y) u v e f same in omega (arith, s)

      more : (i : ℕ) (c : Changed) → slice_get cs i ≡ Some c → (first : Object) → slice_get frozen c.number ≡ Some first → IsCopy fs first c.object
      more = λ j x e. copy (suc j) x e

      still_next : (k : ℕ) (o : Object) (now : List Object) (r : Object) → slice_get now k ≡ Some o → ((n : ℕ) (o : Object) → slice_get now n ≡ Some o → Still o) → Still r → (n : ℕ) (q : Object) → slice_get (slice_set now k r) n ≡ Some q → Still q
      still_next k o now r there t u n q e = from (decide_nat k n)
        where
          from : Decides k n → Still q
          from (equal s) = subst (λ (z : Object). Still z) (one_some (slice_get (slice_set now k r) n) r q (subst (λ z. slice_get (slice_set now k r) z ≡ Some r) s (get_set_here now k o r there)) e) u
          from (other ne) = t n q (sym (get_else now k n r ne) ∙ e)

      case : (z : Option Object) → slice_get frozen c.number ≡ z → ((g : List Object) → length g ≡ length frozen → ((n : ℕ) (o : Object) → slice_get g n ≡ Some o → Still o) → added fs cs g ≡ merged g base (present base cs)) → added fs (c ∷ cs) now ≡ merged now base (present base (c ∷ cs))
      case None e again =
          let out : slice_get base c.number ≡ None = none_too base frozen (zeroed_many fs frozen) c.number e in
          ap (added fs cs) (none_added fs c.number c.object now (none_too now frozen many c.number e)) ∙ again now many still
          ∙ ap (λ z. merged now base (present z cs)) (sym (none_set base c.number c.object out))
      case (Some q) e again =
          let i : IsCopy fs q c.object = copy 0 c refl q e in
          let o = there_too now frozen many c.number q e in
          let a : Object = zeroed fs q in
          let base_there : slice_get base c.number ≡ Some a = zeroed_at fs frozen c.number q e in
          let away : IsAbsent cs c.number = λ j x e same. let s : 0 ≡ suc j = d 0 (suc j) c x refl e (sym same) in absurd (omega (arith, s)) in
          let next : List Object = slice_set now c.number (merged_object o.0 a c.object) in
          let t : Still o.0 = still c.number o.0 o.1 in
          let one : added_object fs c.number c.object now ≡ next = added_set fs c.number c.object now o.0 o.1 ∙ ap (slice_set now c.number) (object_summed fs once q c.object i o.0 t) in
          let split = one_by_one now base (present base cs) c.number o.0 a c.object t o.1 base_there (present_absent base cs c.number away ∙ base_there) in
          let rest = again next (length-set now c.number (merged_object o.0 a c.object) ∙ many) (λ n q e. still_next c.number o.0 now (merged_object o.0 a c.object) o.1 still (object_still o.0 a c.object t) n q e) in
          ap (added fs cs) one ∙ rest ∙ sym split ∙ ap (merged now base) (sym (present_set_first base cs c.number c.object away))

pub adding_merges : AddingIsMerging
adding_merges written once frozen now many still cs d copy = merges written once frozen cs now d many still copy
