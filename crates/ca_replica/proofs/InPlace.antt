-- What a run on copies reads and puts is what it reads and puts in the heap of sums.
use Rattle.std.proofs.Common.{◌≡◌, ◌≢◌, ◌<◌, ◌≤◌, ◌⊎◌, inl, inr, ⊎_elim, ℕ, ℤ, zero, suc, ◌+◌, List, [], ◌∷◌, ◌++◌, length, drop, get_or, Option, Some, None, Result, Ok, Err, IfOk, refl, ap, sym, subst, ◌∙◌, arith, Bool, true, false, true≢false}
use Rattle.std.specs.Prelude.{slice_get, slice_set, Contains, OnErr}
use Rattle.std.proofs.lemmas.Bool.{cases_lt}
use Rattle.std.proofs.lemmas.List.{get_or_default, drop_more, drop_all}
use Rattle.std.proofs.lemmas.List.Elements.{Contains-append_cases}
use Rattle.std.proofs.lemmas.Option.{slice_get_past}
use Rattle.ca_lists.proofs.Members.{has_nothing, has_only}
use Rattle.ca_lists.proofs.Places.{get_in_front, item_there}
use Rattle.ca_program.specs.declared.program.ClassId.{ClassId}
use Rattle.ca_program.specs.declared.program.FieldId.{FieldId}
use Rattle.ca_program.specs.Plain.{PlainProgram}
use Rattle.ca_model.specs.declared.value.Value.{Value as Datum}
use Rattle.ca_model.specs.declared.value.Value.TheVariants.{Long, Bool as Truth, Null, Ref}
use Rattle.ca_model.specs.declared.value.Slot.{Slot}
use Rattle.ca_model.specs.declared.value.Slot.TheVariants.{One, Many}
use Rattle.ca_model.specs.declared.value.Object.{Object}
use Rattle.ca_model.specs.Heaps.{HasSlot, stored}
use Rattle.ca_model.specs.Slots.{HasItem, put_slot}
use Rattle.ca_model.proofs.Stores.{stored_is}
use Rattle.ca_meaning.specs.Agree.{AgreesAt}
use Rattle.ca_meaning.specs.Expressions.{one_in, slot_of, slots_in}
use Rattle.ca_parallel.specs.Extents.{Extent}
use Rattle.ca_undo.specs.Olds.{item_in}
use Rattle.ca_section.specs.Offences.{is_written}
use Rattle.ca_section.proofs.Fields.{written_decided}
use Rattle.ca_order_laws.specs.Order.{StandsFor}
use Rattle.ca_order_laws.proofs.Decided.{decide_nat}
use Rattle.ca_order_laws.proofs.Frozen.{there_too}
use Rattle.ca_order_laws.proofs.Places.{get_else, one_some}
use Rattle.ca_order_laws.proofs.Puts.{slot_else}
use Rattle.ca_order_laws.proofs.Weights.{Decides, equal, other}
use Rattle.ca_beside.specs.declared.beside.Changed.{Changed}
use Rattle.ca_beside.specs.Beside.{present, AreDistinct, IsAbsent, IsPlace, with_value}
use Rattle.ca_beside.proofs.Present.{changed, past_none, present_absent, present_at, present_length, present_set, set_at, set_past}
use Rattle.ca_undo.specs.declared.puts.Put.{Put}
use Rattle.ca_undo.specs.Puts.{put_back, restored}
use Rattle.ca_undo.proofs.Restoring.{put_back_there, put_back_nowhere, put_undone_by, still_has}
use Rattle.ca_replica.specs.Zeroed.{zeroed, zeroed_field, zeroed_slot, zeroed_heap}
use Rattle.ca_replica.specs.Applied.{sums}
use Rattle.ca_replica.specs.declared.marks.FieldMark.{FieldMark}
use Rattle.ca_replica.specs.declared.marks.FieldMark.TheVariants.{Free, Of, Several}
use Rattle.ca_replica.specs.Calls.{IsMarked, Marks}
use Rattle.ca_undo.specs.Hands.{IsTop}
use Rattle.ca_replica.specs.InPlace.{mark_in, zero_value, KeepsClasses, KeepsConstants, HasCopy, AllHave, IsWritten, AllWritten, Keeps}
use Rattle.ca_replica.proofs.Beginning.{free_absent}
use Rattle.ca_replica.proofs.Copying.{zeroed_at}
use Rattle.ca_replica.proofs.Sums.{zero_absent, zero_one, zero_here, zero_else, chosen_here, chosen_else, zeroed_many}

abbrev pub field_at : ClassId → ℕ → FieldId
field_at c g = record { class = c; field = g }

-- ---- marks

-- where the mark is free no class has a field that is written
free_is : (c : ClassId) (z : Option FieldMark) → mark_in z ≡ Free → IsMarked c z → ⊥
free_is c None e is = is
free_is c (Some Free) e is = is
free_is c (Some (Of d)) e is = absurd (cc)
free_is c (Some Several) e is = absurd (cc)

-- where it is of a class only that one has
of_is : (c d : ClassId) (z : Option FieldMark) → mark_in z ≡ Of d → IsMarked c z → c ≡ d
of_is c d None e is = absurd is
of_is c d (Some Free) e is = absurd is
of_is c d (Some (Of b)) e is = let same : b ≡ d = cc in is ∙ same
of_is c d (Some Several) e is = absurd (cc)

-- a number that isn't marked is that of no field that is written
pub unmarked : (written : List FieldId) (marks : List FieldMark) (g : ℕ) → Marks written marks → mark_in (slice_get marks g) ≡ Free → (c : ClassId) → ¬ Contains written (field_at c g)
unmarked written marks g m e c k = free_is c (slice_get marks g) e (m.all (field_at c g) k)

-- where the mark is of a class no other one has such a field
pub else_class : (written : List FieldId) (marks : List FieldMark) (g : ℕ) (d : ClassId) → Marks written marks → mark_in (slice_get marks g) ≡ Of d → (c : ClassId) → c.0 ≢ d.0 → ¬ Contains written (field_at c g)
else_class written marks g d m e c ne k = ne (ap (λ (z : ClassId). z.0) (of_is c d (slice_get marks g) e (m.all (field_at c g) k)))

-- a mark is the class of a field that is written
pub marked_so : (written : List FieldId) (marks : List FieldMark) (g : ℕ) (c : ClassId) → Marks written marks → mark_in (slice_get marks g) ≡ Of c → Contains written (field_at c g)
marked_so written marks g c m e = m.only g c (from (slice_get marks g) e)
  where
    from : (z : Option FieldMark) → mark_in z ≡ Of c → z ≡ Some (Of c)
    from None e = absurd (cc)
    from (Some k) e = ap Some e

-- classes with one number are one
pub one_class : (c d : ClassId) → c.0 ≡ d.0 → c ≡ d
one_class c d same = ap class_of same
  where
    class_of : ℕ → ClassId
    class_of n = record { 0 = n }

-- so is the field of each class with the same number
pub same_class : (written : List FieldId) (g : ℕ) (c d : ClassId) → c.0 ≡ d.0 → Contains written (field_at c g) → Contains written (field_at d g)
same_class written g c d same at = subst (λ k. Contains written (field_at k g)) (one_class c d same) at

-- the test tells whether a field is written
pub not_written : (written : List FieldId) (f : FieldId) → is_written written f ≡ false → ¬ Contains written f
not_written written f e k = true≢false (sym (let d = written_decided written f in d.1 k) ∙ e)

pub yes_written : (written : List FieldId) (f : FieldId) → is_written written f ≡ true → Contains written f
yes_written written f e = let d = written_decided written f in d.0 e

-- ---- an object with 0 in what is written

zero_twice : (s : Option Slot) → zero_one (zero_one s) ≡ zero_one s
zero_twice None = refl
zero_twice (Some (One (Long n))) = refl
zero_twice (Some (One (Truth b))) = refl
zero_twice (Some (One Null)) = refl
zero_twice (Some (One (Ref n))) = refl
zero_twice (Some (Many vs)) = refl

-- one field of the list
zero_field : (f : FieldId) (o : Object) (g : ℕ) → (slice_get (let z : Object = zeroed_field f o in z.slots) g ≡ slice_get o.slots g) ⊎ (slice_get (let z : Object = zeroed_field f o in z.slots) g ≡ zero_one (slice_get o.slots g))
zero_field f o g = from (decide_nat f.class.0 o.class.0) (decide_nat f.field g)
  where
    from : Decides f.class.0 o.class.0 → Decides f.field g → (slice_get (let z : Object = zeroed_field f o in z.slots) g ≡ slice_get o.slots g) ⊎ (slice_get (let z : Object = zeroed_field f o in z.slots) g ≡ zero_one (slice_get o.slots g))
    from (equal e) (equal d) = inr (ap (λ z. slice_get z g) (chosen_here f o.class o.slots (zeroed_slot f.field o.slots) e) ∙ subst (λ k. slice_get (zeroed_slot f.field o.slots) k ≡ zero_one (slice_get o.slots k)) d (zero_here f.field o.slots))
    from (equal e) (other n) = inl (chosen_else f o.class g o.slots (zeroed_slot f.field o.slots) (λ z. n z.1) (λ ne. zero_else f.field g o.slots ne))
    from (other n) d = inl (chosen_else f o.class g o.slots (zeroed_slot f.field o.slots) (λ z. n z.0) (λ ne. zero_else f.field g o.slots ne))

-- what is 0 stays so
zero_stays : (fs : List FieldId) (o : Object) (g : ℕ) → slice_get o.slots g ≡ zero_one (slice_get o.slots g) → slice_get (let z : Object = zeroed fs o in z.slots) g ≡ slice_get o.slots g
zero_stays [] o g is = refl
zero_stays (f ∷ fs) o g is = from (zero_field f o g) (λ e. zero_stays fs (zeroed_field f o) g e)
  where
    next : Object
    next = zeroed_field f o

    from : (slice_get next.slots g ≡ slice_get o.slots g) ⊎ (slice_get next.slots g ≡ zero_one (slice_get o.slots g)) → (slice_get next.slots g ≡ zero_one (slice_get next.slots g) → slice_get (let z : Object = zeroed fs next in z.slots) g ≡ slice_get next.slots g) → slice_get (let z : Object = zeroed fs next in z.slots) g ≡ slice_get o.slots g
    from (inl e) rest = rest (e ∙ (is ∙ ap zero_one (sym e))) ∙ e
    from (inr d) rest = let e : slice_get next.slots g ≡ slice_get o.slots g = d ∙ sym is in rest (e ∙ (is ∙ ap zero_one (sym e))) ∙ e

-- a number that is written is 0
pub zero_there : (fs : List FieldId) (o : Object) (g : ℕ) → Contains fs (field_at o.class g) → slice_get (let z : Object = zeroed fs o in z.slots) g ≡ zero_one (slice_get o.slots g)
zero_there [] o g k = absurd (has_nothing _ k)
zero_there (f ∷ fs) o g k = ⊎_elim here (λ c. zero_there fs (zeroed_field f o) g c ∙ from (zero_field f o g)) (Contains-append_cases (f ∷ []) fs (field_at o.class g) k)
  where
    next : Object
    next = zeroed_field f o

    here : Contains (f ∷ []) (field_at o.class g) → slice_get (let z : Object = zeroed fs next in z.slots) g ≡ zero_one (slice_get o.slots g)
    here c =
        let same : f ≡ field_at o.class g = has_only f (field_at o.class g) c in
        let class : f.class.0 ≡ o.class.0 = ap (λ (z : FieldId). z.class.0) same in
        let field : f.field ≡ g = ap (λ (z : FieldId). z.field) same in
        let is : slice_get next.slots g ≡ zero_one (slice_get o.slots g) =
        ap (λ z. slice_get z g) (chosen_here f o.class o.slots (zeroed_slot f.field o.slots) class) ∙ subst (λ k. slice_get (zeroed_slot f.field o.slots) k ≡ zero_one (slice_get o.slots k)) field (zero_here f.field o.slots) in
        zero_stays fs next g (is ∙ (sym (zero_twice (slice_get o.slots g)) ∙ ap zero_one (sym is))) ∙ is

    from : (slice_get next.slots g ≡ slice_get o.slots g) ⊎ (slice_get next.slots g ≡ zero_one (slice_get o.slots g)) → zero_one (slice_get next.slots g) ≡ zero_one (slice_get o.slots g)
    from (inl e) = ap zero_one e
    from (inr e) = ap zero_one e ∙ zero_twice (slice_get o.slots g)

one_zeroed : (s : Option Slot) → one_in (zero_one s) ≡ zero_value (one_in s)
one_zeroed None = refl
one_zeroed (Some (One (Long n))) = refl
one_zeroed (Some (One (Truth b))) = refl
one_zeroed (Some (One Null)) = refl
one_zeroed (Some (One (Ref n))) = refl
one_zeroed (Some (Many vs)) = refl

-- so its single value is 0, if it was a number
pub value_zeroed : (written : List FieldId) (o : Object) (g : ℕ) (v : Datum) → v ≡ one_in (slice_get o.slots g) → is_written written (field_at o.class g) ≡ true → zero_value v ≡ one_in (slice_get (slots_in (Some (zeroed written o))) g)
value_zeroed written o g v is e =
    ap zero_value is ∙ (sym (one_zeroed (slice_get o.slots g)) ∙ ap one_in (sym (zero_there written o g (yes_written written (field_at o.class g) e))))

-- and the value of any other field is as it was
pub value_stays : (written : List FieldId) (o : Object) (g : ℕ) (v : Datum) → v ≡ one_in (slice_get o.slots g) → is_written written (field_at o.class g) ≡ false → v ≡ one_in (slice_get (slots_in (Some (zeroed written o))) g)
value_stays written o g v is e =
    is ∙ ap one_in (sym (zero_absent written o g (free_absent written o.class g (not_written written (field_at o.class g) e))))

-- ---- the heap of sums

pub sums_many : (written : List FieldId) (frozen : List Object) (cs : List Changed) → length (sums written frozen cs) ≡ length frozen
sums_many written frozen cs = present_length (zeroed_heap written frozen) cs ∙ zeroed_many written frozen

-- an object that has a copy
pub copy_there : (written : List FieldId) (frozen : List Object) (cs : List Changed) → AreDistinct cs → (i n : ℕ) (o : Object) → n < length frozen → slice_get cs i ≡ Some (changed n o) → slice_get (sums written frozen cs) n ≡ Some o
copy_there written frozen cs d i n o lt e =
    let first = item_there (zeroed_heap written frozen) n (let many : length (zeroed_heap written frozen) ≡ length frozen = zeroed_many written frozen in omega (arith, lt, many)) in
    present_at (zeroed_heap written frozen) cs d i (changed n o) e first.0 first.1

-- and one that has none
pub no_copy : (written : List FieldId) (frozen : List Object) (cs : List Changed) (n : ℕ) (o : Object) → IsAbsent cs n → slice_get frozen n ≡ Some o → slice_get (sums written frozen cs) n ≡ Some (zeroed written o)
no_copy written frozen cs n o a there = present_absent (zeroed_heap written frozen) cs n a ∙ zeroed_at written frozen n o there

-- an object that isn't there has no value
pub none_past : (written : List FieldId) (frozen : List Object) (cs : List Changed) (n : ℕ) (f : FieldId) → length frozen ≤ n → slot_of (sums written frozen cs) n f ≡ None
none_past written frozen cs n f le =
    let many : length (sums written frozen cs) ≡ length frozen = sums_many written frozen cs in
    ap (λ z. slice_get (slots_in z) f.field) (slice_get_past (sums written frozen cs) n (omega (arith, le, many))) ∙ empty f.field
  where
    empty : (g : ℕ) → slice_get (slots_in None) g ≡ None
    empty g = cc

-- what isn't written is the same in the frozen heap
pub slot_same : (written : List FieldId) (frozen h : List Object) → length h ≡ length frozen → KeepsConstants written frozen h → (n : ℕ) (f : FieldId) → ((o : Object) → slice_get frozen n ≡ Some o → ¬ Contains written (field_at o.class f.field)) → slot_of frozen n f ≡ slot_of h n f
slot_same written frozen h many k n f free = ⊎_elim within behind (cases_lt n (length frozen))
  where
    within : n < length frozen → slot_of frozen n f ≡ slot_of h n f
    within lt =
        let o = item_there frozen n lt in
        ap (λ z. slice_get (slots_in z) f.field) o.1 ∙ sym (k n o.0 f.field o.1 (free o.0 o.1))

    behind : length frozen ≤ n → slot_of frozen n f ≡ slot_of h n f
    behind le = ap (λ z. slice_get (slots_in z) f.field) (slice_get_past frozen n le ∙ sym (slice_get_past h n (omega (arith, le, many))))

-- at first all is so
pub constants_first : (p : PlainProgram) (x : Extent) (frozen h : List Object) → StandsFor p x frozen h → KeepsConstants x.written frozen h
constants_first p x frozen h s n o g there free =
    let q = there_too h frozen s.agree.as_many n o there in
    let a : AgreesAt x.written q.0 frozen n = s.agree.each n q.0 q.1 in
    let same : a.other ≡ o = one_some _ a.other o a.there there in
    let class : o.class ≡ (let z : Object = q.0 in z.class) = sym (a.agree.class ∙ ap (λ (z : Object). z.class) same) in
    ap (λ z. slice_get (slots_in z) g) q.1 ∙ (a.agree.constants (field_at o.class g) class free ∙ ap (λ (z : Object). slice_get z.slots g) same)

pub classes_first : (p : PlainProgram) (x : Extent) (frozen h : List Object) → StandsFor p x frozen h → KeepsClasses frozen h
classes_first p x frozen h s n o q there found =
    let a : AgreesAt x.written q frozen n = s.agree.each n q found in
    a.agree.class ∙ ap (λ (z : Object). z.class) (one_some _ a.other o a.there there)

stored_other : (h : List Object) (n m f i : ℕ) (v : Datum) → n ≢ m → slice_get (stored h n f i v) m ≡ slice_get h m
stored_other [] n m f i v ne = refl
stored_other (x ∷ h) zero zero f i v ne = absurd (ne refl)
stored_other (x ∷ h) zero (suc m) f i v ne = refl
stored_other (x ∷ h) (suc n) zero f i v ne = refl
stored_other (x ∷ h) (suc n) (suc m) f i v ne = stored_other h n m f i v (λ e. ne (ap suc e))

stored_else : (h : List Object) (n f i : ℕ) (v : Datum) (g : ℕ) → f ≢ g → slice_get (slots_in (slice_get (stored h n f i v) n)) g ≡ slice_get (slots_in (slice_get h n)) g
stored_else [] n f i v g ne = refl
stored_else (x ∷ h) zero f i v g ne = slot_else x.slots f i v g ne
stored_else (x ∷ h) (suc n) f i v g ne = stored_else h n f i v g ne

pub stored_past : (h : List Object) (n f i : ℕ) (v : Datum) → length h ≤ n → stored h n f i v ≡ h
stored_past [] n f i v le = refl
stored_past (x ∷ h) zero f i v le = absurd (omega (arith, le))
stored_past (x ∷ h) (suc n) f i v le = ap (λ l. x ∷ l) (stored_past h n f i v (omega (arith, le)))

-- a put to what is written changes nothing else
pub constants_put : (written : List FieldId) (frozen h : List Object) (n g i : ℕ) (v : Datum) (o : Object) → slice_get frozen n ≡ Some o → Contains written (field_at o.class g) → KeepsConstants written frozen h → KeepsConstants written frozen (stored h n g i v)
constants_put written frozen h n g i v o there at k m q f found free = from (decide_nat n m) (decide_nat g f)
  where
    from : Decides n m → Decides g f → slice_get (slots_in (slice_get (stored h n g i v) m)) f ≡ slice_get q.slots f
    from (other ne) d = ap (λ z. slice_get (slots_in z) f) (stored_other h n m g i v ne) ∙ k m q f found free
    from (equal e) (other ne) =
        subst (λ j. slice_get (slots_in (slice_get (stored h n g i v) j)) f ≡ slice_get (slots_in (slice_get h j)) f) e (stored_else h n g i v f ne) ∙ k m q f found free
    from (equal e) (equal d) =
        let same : o ≡ q = one_some (slice_get frozen m) o q (subst (λ j. slice_get frozen j ≡ Some o) e there) found in
        absurd (free (subst (λ j. Contains written (field_at q.class j)) d (subst (λ (z : Object). Contains written (field_at z.class g)) same at)))

-- and no class
class_stored : (h : List Object) (n f i : ℕ) (v : Datum) (m : ℕ) (q : Object) → slice_get (stored h n f i v) m ≡ Some q → (o : Object) × (slice_get h m ≡ Some o) × (q.class ≡ o.class)
class_stored [] n f i v m q e = absurd (cc)
class_stored (x ∷ h) zero f i v zero q e = let same : record { class = x.class; slots = put_slot x.slots f i v } ≡ q = cc in (x, refl, ap (λ (z : Object). z.class) (sym same))
class_stored (x ∷ h) zero f i v (suc m) q e = (q, e, refl)
class_stored (x ∷ h) (suc n) f i v zero q e = (q, e, refl)
class_stored (x ∷ h) (suc n) f i v (suc m) q e = class_stored h n f i v m q e

pub classes_put : (frozen h : List Object) (n f i : ℕ) (v : Datum) → KeepsClasses frozen h → KeepsClasses frozen (stored h n f i v)
classes_put frozen h n f i v k m o q there found =
    let was = class_stored h n f i v m q found in
    was.2 ∙ k m o was.0 there was.1

-- ---- puts to copies

-- a put to a copy is one to the heap for which the copies stand
pub present_stored : (h : List Object) (cs : List Changed) → AreDistinct cs → (i n : ℕ) (o : Object) (f j : ℕ) (v : Datum) → slice_get cs i ≡ Some (changed n o) → present h (slice_set cs i (changed n (with_value o f j v))) ≡ stored (present h cs) n f j v
present_stored h cs d i n o f j v e = present_set h cs d i (changed n o) (with_value o f j v) e ∙ ⊎_elim within behind (cases_lt n (length h))
  where
    within : n < length h → slice_set (present h cs) n (with_value o f j v) ≡ stored (present h cs) n f j v
    within lt =
        let first = item_there h n lt in
        stored_is (present h cs) n f j v o (present_at h cs d i (changed n o) e first.0 first.1)

    behind : length h ≤ n → slice_set (present h cs) n (with_value o f j v) ≡ stored (present h cs) n f j v
    behind le =
        let many : length (present h cs) ≡ length h = present_length h cs in
        let far : length (present h cs) ≤ n = omega (arith, le, many) in
        set_past (present h cs) n (with_value o f j v) far ∙ sym (stored_past (present h cs) n f j v far)

-- the old value undoes it
pub put_kept : (h : List Object) (cs new : List Changed) → AreDistinct cs → (i n : ℕ) (o : Object) (f j : ℕ) (v w : Datum) (olds all : List Put) → n < length h → slice_get cs i ≡ Some (changed n o) → new ≡ slice_set cs i (changed n (with_value o f j v)) → HasItem (slice_get o.slots f) j → w ≡ item_in (slice_get o.slots f) j → all ≡ record { object = n; field = f; item = j; value = w } ∷ olds → restored all (present h new) ≡ restored olds (present h cs)
put_kept h cs new d i n o f j v w olds all lt e is has was kept =
    let first = item_there h n lt in
    let there : slice_get (present h cs) n ≡ Some o = present_at h cs d i (changed n o) e first.0 first.1 in
    let slot : HasSlot (slice_get (present h cs) n) f j = subst (λ z. HasSlot z f j) (sym there) has in
    ap (λ os. restored os (present h new)) kept
    ∙ ap (λ g. restored olds (put_back (record { object = n; field = f; item = j; value = w }) g)) (ap (present h) is ∙ present_stored h cs d i n o f j v e)
    ∙ ap (restored olds) (put_undone_by (present h cs) o n f j v w slot there was)

-- an old value goes back into its copy
pub back_there : (h : List Object) (cs new : List Changed) → AreDistinct cs → (i : ℕ) (o : Object) (old : Put) → slice_get cs i ≡ Some (changed old.object o) → new ≡ slice_set cs i (changed old.object (with_value o old.field old.item old.value)) → HasItem (slice_get o.slots old.field) old.item → present h new ≡ put_back old (present h cs)
back_there h cs new d i o old e is has = ap (present h) is ∙ (present_stored h cs d i old.object o old.field old.item old.value e ∙ ⊎_elim within behind (cases_lt old.object (length h)))
  where
    within : old.object < length h → stored (present h cs) old.object old.field old.item old.value ≡ put_back old (present h cs)
    within lt =
        let first = item_there h old.object lt in
        let there : slice_get (present h cs) old.object ≡ Some o = present_at h cs d i (changed old.object o) e first.0 first.1 in
        sym (put_back_there (present h cs) old.object old.field old.item old.value (subst (λ z. HasSlot z old.field old.item) (sym there) has))

    behind : length h ≤ old.object → stored (present h cs) old.object old.field old.item old.value ≡ put_back old (present h cs)
    behind le =
        let many : length (present h cs) ≡ length h = present_length h cs in
        let far : length (present h cs) ≤ old.object = omega (arith, le, many) in
        stored_past (present h cs) old.object old.field old.item old.value far ∙ put_back_nowhere (present h cs) old (λ s. subst (λ z. HasSlot z old.field old.item) (slice_get_past (present h cs) old.object far) s)

-- where the copy has no such item, none goes back
pub back_nowhere : (h : List Object) (cs : List Changed) → AreDistinct cs → (i : ℕ) (o : Object) (old : Put) → slice_get cs i ≡ Some (changed old.object o) → ¬ HasItem (slice_get o.slots old.field) old.item → present h cs ≡ put_back old (present h cs)
back_nowhere h cs d i o old e hasnt = put_back_nowhere (present h cs) old (λ s. ⊎_elim (within s) (behind s) (cases_lt old.object (length h)))
  where
    within : HasSlot (slice_get (present h cs) old.object) old.field old.item → old.object < length h → ⊥
    within s lt =
        let first = item_there h old.object lt in
        hasnt (subst (λ z. HasSlot z old.field old.item) (present_at h cs d i (changed old.object o) e first.0 first.1) s)

    behind : HasSlot (slice_get (present h cs) old.object) old.field old.item → length h ≤ old.object → ⊥
    behind s le =
        let many : length (present h cs) ≡ length h = present_length h cs in
        subst (λ z. HasSlot z old.field old.item) (slice_get_past (present h cs) old.object (omega (arith, le, many))) s

-- ---- the number at hand

set_over : (vs : List Datum) (i : ℕ) (v w : Datum) → slice_set (slice_set vs i v) i w ≡ slice_set vs i w
set_over [] i v w = refl
set_over (x ∷ vs) zero v w = refl
set_over (x ∷ vs) (suc i) v w = ap (λ r. x ∷ r) (set_over vs i v w)

of_two : (ss : List Slot) (f i : ℕ) (v w : Datum) → HasItem (slice_get ss f) i → put_slot (put_slot ss f i v) f i w ≡ put_slot ss f i w
of_two [] f i v w has = refl
of_two (One x ∷ ss) zero i v w has = refl
of_two (Many vs ∷ ss) zero i v w has = ap (λ r. Many r ∷ ss) (set_over vs i v w)
of_two (s ∷ ss) (suc f) i v w has = ap (λ r. s ∷ r) (of_two ss f i v w has)

-- of two puts to a place the second one counts
stored_twice : (h : List Object) (n f i : ℕ) (v w : Datum) → HasSlot (slice_get h n) f i → stored (stored h n f i v) n f i w ≡ stored h n f i w
stored_twice [] n f i v w has = refl
stored_twice (o ∷ os) zero f i v w has = ap (λ ss. record { class = o.class; slots = ss } ∷ os) (of_two o.slots f i v w has)
stored_twice (o ∷ os) (suc n) f i v w has = ap (λ xs. o ∷ xs) (stored_twice os n f i v w has)

put_back_over : (h : List Object) (o : Put) (v : Datum) → HasSlot (slice_get h o.object) o.field o.item → put_back o (stored h o.object o.field o.item v) ≡ put_back o h
put_back_over h o v has =
    put_back_there (stored h o.object o.field o.item v) o.object o.field o.item o.value (still_has h o.object o.field o.item v has)
    ∙ (stored_twice h o.object o.field o.item v o.value has ∙ sym (put_back_there h o.object o.field o.item o.value has))

-- where the old value of an item was kept last, a put to it changes nothing of what putting back gives
pub restored_over : (olds : List Put) (h : List Object) (n f i : ℕ) (v : Datum) → IsTop olds n f i → HasSlot (slice_get h n) f i → restored olds (stored h n f i v) ≡ restored olds h
restored_over [] h n f i v top has = absurd top
restored_over (o ∷ os) h n f i v top has =
    let there : HasSlot (slice_get h o.object) o.field o.item = subst (λ k. HasSlot (slice_get h o.object) o.field k) (sym top.2) (subst (λ k. HasSlot (slice_get h o.object) k i) (sym top.1) (subst (λ k. HasSlot (slice_get h k) f i) (sym top.0) has)) in
    let same : stored h n f i v ≡ stored h o.object o.field o.item v = ap (λ k. stored h k f i v) (sym top.0) ∙ (ap (λ k. stored h o.object k i v) (sym top.1) ∙ ap (λ k. stored h o.object o.field k v) (sym top.2)) in
    ap (restored os) (ap (put_back o) same ∙ put_back_over h o v there)

-- past the end of a heap nothing is put
pub restored_past : (olds : List Put) (h : List Object) (n f i : ℕ) (v : Datum) → length h ≤ n → restored olds (stored h n f i v) ≡ restored olds h
restored_past olds h n f i v le = ap (restored olds) (stored_past h n f i v le)

-- what is at hand is written
pub written_top : (written : List FieldId) (frozen : List Object) (olds : List Put) (n f i : ℕ) → AllWritten written frozen olds → IsTop olds n f i → IsWritten written frozen n f
written_top written frozen [] n f i all top = absurd top
written_top written frozen (o ∷ os) n f i all top = subst (λ k. IsWritten written frozen k f) top.0 (subst (λ k. IsWritten written frozen o.object k) top.1 all.0)

-- so its object is within
pub within_all : (written : List FieldId) (frozen : List Object) (n f : ℕ) → IsWritten written frozen n f → n < length (zeroed_heap written frozen)
within_all written frozen n f w =
    let lt : n < length frozen = ⊎_elim (λ lt. lt) (λ le. absurd (past_none frozen n w.object le w.there)) (cases_lt n (length frozen)) in
    let many : length (zeroed_heap written frozen) ≡ length frozen = zeroed_many written frozen in
    omega (arith, lt, many)

-- with one old value more
pub all_written_more : (written : List FieldId) (frozen : List Object) (os all : List Put) (o : Put) → all ≡ o ∷ os → IsWritten written frozen o.object o.field → AllWritten written frozen os → AllWritten written frozen all
all_written_more written frozen os all o is w a = subst (AllWritten written frozen) (sym is) (w, a)

-- a number is an item
pub long_has : (s : Option Slot) (a : ℤ) → one_in s ≡ Long a → HasItem s 0
long_has None a e = absurd (cc)
long_has (Some (One v)) a e = omega arith
long_has (Some (Many vs)) a e = absurd (cc)

pub long_item : (s : Option Slot) (a : ℤ) → one_in s ≡ Long a → item_in s 0 ≡ Long a
long_item None a e = absurd (cc)
long_item (Some (One v)) a e = e
long_item (Some (Many vs)) a e = absurd (cc)

-- ---- copies stay

pub copy_is : (cs : List Changed) (n : ℕ) → IsAbsent cs n → HasCopy cs n → ⊥
copy_is cs n a has = let at : IsPlace cs has.0 n = has.1 in a has.0 (changed n at.object) at.there refl

pub has_after_put : (cs : List Changed) (i n : ℕ) (o q : Object) → slice_get cs i ≡ Some (changed n o) → (m : ℕ) → HasCopy cs m → HasCopy (slice_set cs i (changed n q)) m
has_after_put cs i n o q e m has = from (decide_nat i has.0)
  where
    at : IsPlace cs has.0 m
    at = has.1

    within : (xs : List Changed) (k : ℕ) (c : Changed) → slice_get xs k ≡ Some c → k < length xs
    within xs k c e = ⊎_elim (λ lt. lt) (λ le. absurd (past_none xs k c le e)) (cases_lt k (length xs))

    from : Decides i has.0 → HasCopy (slice_set cs i (changed n q)) m
    from (other ne) = (has.0, record { object = at.object; there = get_else cs i has.0 (changed n q) ne ∙ at.there })
    from (equal same) =
        let both : changed n o ≡ changed m at.object = one_some (slice_get cs has.0) (changed n o) (changed m at.object) (subst (λ k. slice_get cs k ≡ Some (changed n o)) same e) at.there in
        let number : n ≡ m = ap (λ (z : Changed). z.number) both in
        (i, record { object = q; there = set_at cs i (changed n q) (within cs i (changed n o) e) ∙ ap (λ k. Some (changed k q)) number })

pub has_after_add : (cs : List Changed) (c : Changed) (m : ℕ) → HasCopy cs m → HasCopy (cs ++ c ∷ []) m
has_after_add cs c m has = let at : IsPlace cs has.0 m = has.1 in (has.0, record { object = at.object; there = get_in_front cs (c ∷ []) has.0 (changed m at.object) at.there })

pub all_have_on : (cs ds : List Changed) → ((m : ℕ) → HasCopy cs m → HasCopy ds m) → (os : List Put) → AllHave os cs → AllHave os ds
all_have_on cs ds f [] a = tt
all_have_on cs ds f (o ∷ os) a = (f o.object a.0, all_have_on cs ds f os a.1)

-- with one old value more
pub all_have_more : (cs ds : List Changed) (os all : List Put) (o : Put) → ((m : ℕ) → HasCopy cs m → HasCopy ds m) → all ≡ o ∷ os → HasCopy cs o.object → AllHave os cs → AllHave all ds
all_have_more cs ds os all o f is has a = subst (λ z. AllHave z ds) (sym is) (f o.object has, all_have_on cs ds f os a)

-- what is known stays where the sums do
pub keeps_same : (written : List FieldId) (frozen : List Object) (marks : List FieldMark) (cs ds : List Changed) (os : List Put) → sums written frozen ds ≡ sums written frozen cs → ((m : ℕ) → HasCopy cs m → HasCopy ds m) → Keeps written frozen marks cs os → Keeps written frozen marks ds os
keeps_same written frozen marks cs ds os same has k = record {
  marked = k.marked;
  constants = subst (KeepsConstants written frozen) (sym same) k.constants;
  classes = subst (KeepsClasses frozen) (sym same) k.classes;
  arrays = k.arrays;
  there = all_have_on cs ds has os k.there;
  puts = k.puts;
}

-- and behind a put to what is written
pub keeps_put : (written : List FieldId) (frozen : List Object) (marks : List FieldMark) (cs mid ds : List Changed) (os all : List Put) (n g i : ℕ) (v : Datum) (b : Bool) → IsWritten written frozen n g
    → sums written frozen mid ≡ sums written frozen cs → ((m : ℕ) → HasCopy cs m → HasCopy mid m) → (b ≡ true → sums written frozen ds ≡ stored (sums written frozen mid) n g i v) → (b ≡ false → ds ≡ mid) → (AllHave os mid → AllHave all ds) → (AllWritten written frozen os → AllWritten written frozen all)
    → Keeps written frozen marks cs os → Keeps written frozen marks ds all
keeps_put written frozen marks cs mid ds os all n g i v true w same has put not all_there puts k = record {
  marked = k.marked;
  constants = subst (KeepsConstants written frozen) (sym (put refl ∙ ap (λ h. stored h n g i v) same)) (constants_put written frozen (sums written frozen cs) n g i v w.object w.there w.put k.constants);
  classes = subst (KeepsClasses frozen) (sym (put refl ∙ ap (λ h. stored h n g i v) same)) (classes_put frozen (sums written frozen cs) n g i v k.classes);
  arrays = k.arrays;
  there = all_there (all_have_on cs mid has os k.there);
  puts = puts k.puts;
}
keeps_put written frozen marks cs mid ds os all n g i v false w same has put not all_there puts k = record {
  marked = k.marked;
  constants = subst (KeepsConstants written frozen) (sym (ap (sums written frozen) (not refl) ∙ same)) k.constants;
  classes = subst (KeepsClasses frozen) (sym (ap (sums written frozen) (not refl) ∙ same)) k.classes;
  arrays = k.arrays;
  there = all_there (all_have_on cs mid has os k.there);
  puts = puts k.puts;
}

-- where a put to a copy is one to what is written, all stays known
pub keeps_over : (written : List FieldId) (frozen : List Object) (marks : List FieldMark) (cs ds : List Changed) (os : List Put) (n g i : ℕ) (v : Datum) → sums written frozen ds ≡ stored (sums written frozen cs) n g i v → ((m : ℕ) → HasCopy cs m → HasCopy ds m) → IsWritten written frozen n g
    → Keeps written frozen marks cs os → Keeps written frozen marks ds os
keeps_over written frozen marks cs ds os n g i v put has w k = record {
  marked = k.marked;
  constants = subst (KeepsConstants written frozen) (sym put) (constants_put written frozen (sums written frozen cs) n g i v w.object w.there w.put k.constants);
  classes = subst (KeepsClasses frozen) (sym put) (classes_put frozen (sums written frozen cs) n g i v k.classes);
  arrays = k.arrays;
  there = all_have_on cs ds has os k.there;
  puts = k.puts;
}

-- a copy that is added takes none away
pub has_added : {E : Type 0} (r : Result ℕ E) (cs mid new : List Changed) (n : ℕ) (o : Object) → mid ≡ cs → IfOk r (λ _. new ≡ mid ++ changed n o ∷ []) → OnErr r (new ≡ mid) → (m : ℕ) → HasCopy cs m → HasCopy new m
has_added (Ok i) cs mid new n o same is kept m has = subst (λ ds. HasCopy ds m) (sym (is ∙ ap (λ ds. ds ++ changed n o ∷ []) same)) (has_after_add cs (changed n o) m has)
has_added (Err e) cs mid new n o same is kept m has = subst (λ ds. HasCopy ds m) (sym (kept ∙ same)) has

-- ---- marks of a list

-- one place more, without a mark
pub none_more : (xs : List FieldMark) (n : ℕ) (c : ClassId) → slice_get (xs ++ Free ∷ []) n ≡ Some (Of c) → slice_get xs n ≡ Some (Of c)
none_more [] zero c e = cc
none_more [] (suc n) c e = cc
none_more (x ∷ xs) zero c e = e
none_more (x ∷ xs) (suc n) c e = none_more xs n c e

pub marked_on : (xs : List FieldMark) (m : FieldMark) (n : ℕ) (c : ClassId) → IsMarked c (slice_get xs n) → IsMarked c (slice_get (xs ++ m ∷ []) n)
marked_on [] m zero c is = absurd is
marked_on [] m (suc n) c is = is
marked_on (x ∷ xs) m zero c is = is
marked_on (x ∷ xs) m (suc n) c is = marked_on xs m n c is

-- a mark where there was none
pub set_kept : (xs : List FieldMark) (k n : ℕ) (d c : ClassId) → slice_get xs k ≡ Some Free → IsMarked c (slice_get xs n) → IsMarked c (slice_get (slice_set xs k (Of d)) n)
set_kept [] k n d c none is = is
set_kept (x ∷ xs) zero zero d c none is = absurd (free_is c (Some x) (ap mark_in none) is)
set_kept (x ∷ xs) zero (suc n) d c none is = is
set_kept (x ∷ xs) (suc k) zero d c none is = is
set_kept (x ∷ xs) (suc k) (suc n) d c none is = set_kept xs k n d c none is

pub set_only : (xs : List FieldMark) (k n : ℕ) (d c : ClassId) → slice_get (slice_set xs k (Of d)) n ≡ Some (Of c) → (slice_get xs n ≡ Some (Of c)) ⊎ ((n ≡ k) × (c ≡ d))
set_only [] k n d c e = inl e
set_only (x ∷ xs) zero zero d c e = inr (refl, let same : d ≡ c = cc in sym same)
set_only (x ∷ xs) zero (suc n) d c e = inl e
set_only (x ∷ xs) (suc k) zero d c e = inl e
set_only (x ∷ xs) (suc k) (suc n) d c e = from (set_only xs k n d c e)
  where
    from : (slice_get xs n ≡ Some (Of c)) ⊎ ((n ≡ k) × (c ≡ d)) → (slice_get xs n ≡ Some (Of c)) ⊎ ((suc n ≡ suc k) × (c ≡ d))
    from (inl e) = inl e
    from (inr e) = inr (ap suc e.0, e.1)

-- a mark of several classes
pub several_kept : (xs : List FieldMark) (k n : ℕ) (c : ClassId) → IsMarked c (slice_get xs n) → IsMarked c (slice_get (slice_set xs k Several) n)
several_kept [] k n c is = is
several_kept (x ∷ xs) zero zero c is = tt
several_kept (x ∷ xs) zero (suc n) c is = is
several_kept (x ∷ xs) (suc k) zero c is = is
several_kept (x ∷ xs) (suc k) (suc n) c is = several_kept xs k n c is

pub several_only : (xs : List FieldMark) (k n : ℕ) (c : ClassId) → slice_get (slice_set xs k Several) n ≡ Some (Of c) → slice_get xs n ≡ Some (Of c)
several_only [] k n c e = e
several_only (x ∷ xs) zero zero c e = absurd (cc)
several_only (x ∷ xs) zero (suc n) c e = e
several_only (x ∷ xs) (suc k) zero c e = e
several_only (x ∷ xs) (suc k) (suc n) c e = several_only xs k n c e

-- what is marked so far: each field, or it is still to come, and no others
pub record MarkedSoFar (fs : List FieldId) (i : ℕ) (marks : List FieldMark) : Type 0 where
  pub all : (f : FieldId) → Contains fs f → IsMarked f.class (slice_get marks f.field) ⊎ Contains (drop i fs) f
  pub only : (g : ℕ) (c : ClassId) → slice_get marks g ≡ Some (Of c) → Contains fs (field_at c g)

pub none_marked : (fs : List FieldId) → MarkedSoFar fs 0 []
none_marked fs = record { all = λ f k. inr k; only = λ g c e. cc }

pub marked_more : (fs : List FieldId) (i : ℕ) (d : FieldId) (old new : List FieldMark) → i < length fs → d ≡ get_or fs i d → ((n : ℕ) (c : ClassId) → IsMarked c (slice_get old n) → IsMarked c (slice_get new n))
    → ((n : ℕ) (c : ClassId) → slice_get new n ≡ Some (Of c) → (slice_get old n ≡ Some (Of c)) ⊎ ((n ≡ d.field) × (c ≡ d.class))) → IsMarked d.class (slice_get new d.field) → MarkedSoFar fs i old → MarkedSoFar fs (i + 1) new
marked_more fs i d old new lt is kept only marked m = record { all = λ f k. from f (m.all f k); only = λ g c e. back g c (only g c e) }
  where
    from : (f : FieldId) → IsMarked f.class (slice_get old f.field) ⊎ Contains (drop i fs) f → IsMarked f.class (slice_get new f.field) ⊎ Contains (drop (i + 1) fs) f
    from f (inl e) = inl (kept f.field f.class e)
    from f (inr k) = ⊎_elim
        (λ b. inl (subst (λ (z : FieldId). IsMarked z.class (slice_get new z.field)) (is ∙ has_only (get_or fs i d) f b) marked))
        (λ b. inr b) (Contains-append_cases (get_or fs i d ∷ []) (drop (i + 1) fs) f (subst (λ z. Contains z f) (drop_more fs i d lt) k))

    here : Contains fs d
    here = (i, lt, sym is)

    back : (g : ℕ) (c : ClassId) → (slice_get old g ≡ Some (Of c)) ⊎ ((g ≡ d.field) × (c ≡ d.class)) → Contains fs (field_at c g)
    back g c (inl e) = m.only g c e
    back g c (inr e) = subst (λ z. Contains fs z) (sym (ap (λ k. field_at k g) e.1 ∙ ap (λ k. field_at d.class k) e.0)) here

-- the same, where the field is read by its index
pub marked_more_at : (fs : List FieldId) (i : ℕ) (d : FieldId) (old new : List FieldMark) → i < length fs → ((n : ℕ) (c : ClassId) → IsMarked c (slice_get old n) → IsMarked c (slice_get new n))
    → ((n : ℕ) (c : ClassId) → slice_get new n ≡ Some (Of c) → (slice_get old n ≡ Some (Of c)) ⊎ ((n ≡ (let z : FieldId = get_or fs i d in z.field)) × (c ≡ (let z : FieldId = get_or fs i d in z.class))))
    → IsMarked (let z : FieldId = get_or fs i d in z.class) (slice_get new (let z : FieldId = get_or fs i d in z.field)) → MarkedSoFar fs i old → MarkedSoFar fs (i + 1) new
marked_more_at fs i d old new lt = marked_more fs i (get_or fs i d) old new lt (get_or_default fs i d (get_or fs i d) lt)

-- none is to come any more
pub all_marked : (fs : List FieldId) (i : ℕ) (marks : List FieldMark) → length fs ≤ i → MarkedSoFar fs i marks → Marks fs marks
all_marked fs i marks le m = record { all = λ f k. ⊎_elim (λ e. e) (λ b. absurd (has_nothing f (subst (λ z. Contains z f) (drop_all i fs le) b))) (m.all f k); only = m.only }
