-- Old values of a heap, the last one first, and what is left when all are put back.
use Rattle.std.specs.Prelude.{ℕ, Bool, false, if◌then◌else◌, nat_lt, List, [], ◌∷◌, Option, Some, None, slice_get}
use Rattle.ca_model.specs.declared.value.Value.{Value as Datum}
use Rattle.ca_model.specs.declared.value.Value.TheVariants.{Null}
use Rattle.ca_model.specs.declared.value.Slot.{Slot}
use Rattle.ca_model.specs.declared.value.Object.{Object}
use Rattle.ca_model.specs.Slots.{slot_len}
use Rattle.ca_model.specs.Heaps.{stored}
use Rattle.ca_undo.specs.Olds.{item_in}
use Rattle.ca_undo.specs.declared.puts.Put.{Put}
use Rattle.ca_undo.specs.declared.puts.Kept.{Kept}

abbrev pub has_item : Option Slot → ℕ → Bool
has_item None i = false
has_item (Some s) i = nat_lt i (slot_len s)

-- whether there is such an object, and it has such an item
abbrev pub has_slot : Option Object → ℕ → ℕ → Bool
has_slot None f i = false
has_slot (Some o) f i = has_item (slice_get o.slots f) i

abbrev pub value_in : Option Object → ℕ → ℕ → Datum
value_in None f i = Null
value_in (Some o) f i = item_in (slice_get o.slots f) i

-- the heap with a value put back, where its place is there
abbrev pub put_back : Put → List Object → List Object
put_back o h = if has_slot (slice_get h o.object) o.field o.item then stored h o.object o.field o.item o.value else h

-- with all of them put back, the last one first
abbrev pub restored : List Put → List Object → List Object
restored [] h = h
restored (o ∷ os) h = restored os (put_back o h)

-- The heap as it was: the one that was kept whole, or with the old values put back.
abbrev pub or_restored : Option (List Object) → List Put → List Object → List Object
or_restored None olds h = restored olds h
or_restored (Some whole) olds h = whole

abbrev pub before : Kept → List Object → List Object
before k h = or_restored k.whole k.puts h
