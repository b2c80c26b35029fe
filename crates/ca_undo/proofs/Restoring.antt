-- Old values that are put back give the heap that was there before puts.
use Rattle.std.proofs.Common.{◌≡◌, ℕ, zero, suc, true, false, List, [], ◌∷◌, Option, Some, None, refl, ap, sym, ◌∙◌, inl, inr, lt-ltb, le-ltb, true≢false}
use Rattle.std.specs.Prelude.{is_some, if◌then◌else◌, slice_get}
use Rattle.std.proofs.lemmas.Bool.{cases_lt}
use Rattle.ca_model.specs.declared.value.Value.{Value as Datum}
use Rattle.ca_model.specs.declared.value.Slot.{Slot}
use Rattle.ca_model.specs.declared.value.Object.{Object}
use Rattle.ca_model.specs.Slots.{HasItem, slot_len}
use Rattle.ca_model.specs.Heaps.{HasSlot, stored}
use Rattle.ca_undo.specs.Olds.{item_in}
use Rattle.ca_undo.proofs.Back as back
use Rattle.ca_undo.specs.declared.puts.Put.{Put}
use Rattle.ca_undo.specs.declared.puts.Kept.{Kept}
use Rattle.ca_undo.specs.Puts.{before, has_item, has_slot, value_in, or_restored, put_back, restored}

-- a put of the old value undoes a put
pub stored_undone : (h : List Object) (n f i : ℕ) (v : Datum) → HasSlot (slice_get h n) f i → stored (stored h n f i v) n f i (value_in (slice_get h n) f i) ≡ h
stored_undone [] n f i v has = refl
stored_undone (o ∷ os) zero f i v has = ap (λ ss. record { class = o.class; slots = ss } ∷ os) (back.put_undone o.slots f i v has)
stored_undone (o ∷ os) (suc n) f i v has = ap (λ xs. o ∷ xs) (stored_undone os n f i v has)

pub still_has : (h : List Object) (n f i : ℕ) (v : Datum) → HasSlot (slice_get h n) f i → HasSlot (slice_get (stored h n f i v) n) f i
still_has [] n f i v has = has
still_has (o ∷ os) zero f i v has = back.still_there o.slots f i v has
still_has (o ∷ os) (suc n) f i v has = still_has os n f i v has

item_told : (s : Option Slot) (i : ℕ) → HasItem s i → has_item s i ≡ true
item_told None i has = absurd has
item_told (Some s) i has = lt-ltb i (slot_len s) has

pub slot_told : (o : Option Object) (f i : ℕ) → HasSlot o f i → has_slot o f i ≡ true
slot_told None f i has = absurd has
slot_told (Some o) f i has = item_told (slice_get o.slots f) i has

item_not_told : (s : Option Slot) (i : ℕ) → ¬ HasItem s i → has_item s i ≡ false
item_not_told None i hasnt = refl
item_not_told (Some s) i hasnt = elim (cases_lt i (slot_len s)) [ inl less ↦ absurd (hasnt less) | inr not ↦ le-ltb i (slot_len s) not ]

pub slot_not_told : (o : Option Object) (f i : ℕ) → ¬ HasSlot o f i → has_slot o f i ≡ false
slot_not_told None f i hasnt = refl
slot_not_told (Some o) f i hasnt = item_not_told (slice_get o.slots f) i hasnt

pub put_back_nowhere : (h : List Object) (o : Put) → ¬ HasSlot (slice_get h o.object) o.field o.item → h ≡ put_back o h
put_back_nowhere h o hasnt = sym (ap (λ b. if b then stored h o.object o.field o.item o.value else h) (slot_not_told (slice_get h o.object) o.field o.item hasnt))

-- where its place is there, a value is put back
pub put_back_there : (h : List Object) (n f i : ℕ) (v : Datum) → HasSlot (slice_get h n) f i → put_back (record { object = n; field = f; item = i; value = v }) h ≡ stored h n f i v
put_back_there h n f i v has = ap (λ b. if b then stored h n f i v else h) (slot_told (slice_get h n) f i has)

undone : (h : List Object) (n f i : ℕ) (v : Datum) → HasSlot (slice_get h n) f i → put_back (record { object = n; field = f; item = i; value = value_in (slice_get h n) f i }) (stored h n f i v) ≡ h
undone h n f i v has = put_back_there (stored h n f i v) n f i (value_in (slice_get h n) f i) (still_has h n f i v has) ∙ stored_undone h n f i v has

-- the value that an object had there undoes a put
pub put_undone_by : (h : List Object) (o : Object) (n f i : ℕ) (v w : Datum) → HasSlot (slice_get h n) f i → slice_get h n ≡ Some o → w ≡ item_in (slice_get o.slots f) i → put_back (record { object = n; field = f; item = i; value = w }) (stored h n f i v) ≡ h
put_undone_by h o n f i v w has found is =
    let same : w ≡ value_in (slice_get h n) f i = is ∙ ap (λ x. value_in x f i) (sym found) in
    ap (λ x. put_back (record { object = n; field = f; item = i; value = x }) (stored h n f i v)) same ∙ undone h n f i v has

-- nothing was kept whole
pub none_by : (o : Option (List Object)) → is_some o ≡ false → o ≡ None
none_by None e = refl
none_by (Some h) e = absurd (true≢false e)

-- where the heap was kept whole, nothing else counts
pub whole_stays : (o : Option (List Object)) (olds news : List Put) (h g : List Object) → is_some o ≡ true → or_restored o news g ≡ or_restored o olds h
whole_stays None olds news h g e = absurd (true≢false (sym e))
whole_stays (Some w) olds news h g e = refl

-- with one old value more undoing gives what it gave before
pub kept_added : (w : Option (List Object)) (olds new : List Put) (o : Put) (h g : List Object) → new ≡ o ∷ olds → put_back o g ≡ h → or_restored w new g ≡ or_restored w olds h
kept_added None olds new o h g e back = ap (λ os. restored os g) e ∙ ap (restored olds) back
kept_added (Some w) olds new o h g e back = refl

-- where nothing was kept undoing changes nothing
pub nothing_kept : (k : Kept) (h : List Object) → k.puts ≡ [] → k.whole ≡ None → before k h ≡ h
nothing_kept k h puts whole = ap (λ w. or_restored w k.puts h) whole ∙ ap (λ os. restored os h) puts
