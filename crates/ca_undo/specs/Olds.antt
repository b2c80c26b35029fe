-- Old values, the last one first: what is kept at a put, and what is left when all are put back.
use Rattle.std.specs.Prelude.{◌≡◌, ℕ, ◌<◌, Bool, false, ◌&&◌, ◌||◌, if◌then◌else◌, nat_eq, nat_lt, List, [], ◌∷◌, Option, Some, None, slice_get}
use Rattle.std.specs.Int.{bit_at}
use Rattle.ca_model.specs.declared.value.Value.{Value as Datum}
use Rattle.ca_model.specs.declared.value.Value.TheVariants.{Null}
use Rattle.ca_model.specs.declared.value.Slot.{Slot}
use Rattle.ca_model.specs.declared.value.Slot.TheVariants.{One, Many}
use Rattle.ca_model.specs.Slots.{put_slot, HasItem}
use Rattle.ca_undo.specs.declared.olds.Old.{Old}

abbrev pub or_null : Option Datum → Datum
or_null None = Null
or_null (Some v) = v

abbrev pub item_in : Option Slot → ℕ → Datum
item_in None i = Null
item_in (Some (One v)) i = v
item_in (Some (Many vs)) i = or_null (slice_get vs i)

-- the old value is of this place
abbrev pub is_of : Option Old → ℕ → ℕ → Bool
is_of None f i = false
is_of (Some o) f i = nat_eq o.field f && nat_eq o.item i

-- one of the old values is of this place
abbrev pub has_old : List Old → ℕ → ℕ → Bool
has_old [] f i = false
has_old (o ∷ os) f i = is_of (Some o) f i || has_old os f i

-- an old value of a place is found: any of them for item 0 of the first 64 fields, else the last one alone
abbrev pub is_found : List Old → ℕ → ℕ → Bool
is_found olds f i = if nat_lt f 64 && nat_eq i 0 then has_old olds f i else is_of (slice_get olds 0) f i

-- Of the first 64 fields bit f tells whether an old value of item 0 is there.
abbrev pub Marks : ℕ → List Old → Type 0
Marks bits olds = (f : ℕ) → f < 64 → bit_at bits f ≡ (if has_old olds f 0 then 1 else 0)

-- the old values after a put to a place: nothing more where one of the same place is found
abbrev pub olds_after : List Old → List Slot → ℕ → ℕ → List Old
olds_after olds ss f i = if is_found olds f i then olds else (record { field = f; item = i; value = item_in (slice_get ss f) i } ∷ olds)

-- the slots with these values put back, the last one first
abbrev pub put_back : List Old → List Slot → List Slot
put_back [] ss = ss
put_back (o ∷ os) ss = put_back os (put_slot ss o.field o.item o.value)

-- each place is there when its turn comes
abbrev pub AllThere : List Old → List Slot → Type 0
AllThere [] ss = Unit {0}
AllThere (o ∷ os) ss = HasItem (slice_get ss o.field) o.item × AllThere os (put_slot ss o.field o.item o.value)
