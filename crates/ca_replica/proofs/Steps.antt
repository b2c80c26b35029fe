-- Where a number is told, an item stands.
use Rattle.std.proofs.Common.{◌≡◌, ℕ, Option, Some, None, ℤ, arith}
use Rattle.std.specs.Prelude.{slice_get}
use Rattle.ca_model.specs.declared.value.Value.TheVariants.{Long, Bool as Truth, Null, Ref}
use Rattle.ca_model.specs.declared.value.Slot.{Slot}
use Rattle.ca_model.specs.declared.value.Slot.TheVariants.{One, Many}
use Rattle.ca_model.specs.declared.value.Object.{Object}
use Rattle.ca_model.specs.Slots.{HasItem}
use Rattle.ca_model.specs.Heaps.{HasSlot}
use Rattle.ca_meaning.specs.Expressions.{slots_in}
use Rattle.ca_replica.specs.Zeroed.{number_at}

pub has_item : (s : Option Slot) (n : ℤ) → number_at s ≡ Some n → HasItem s 0
has_item None n e = cc
has_item (Some (One (Long m))) n e = omega arith
has_item (Some (One (Truth b))) n e = cc
has_item (Some (One Null)) n e = cc
has_item (Some (One (Ref b))) n e = cc
has_item (Some (Many vs)) n e = cc

pub has_slot : (o : Option Object) (f : ℕ) (n : ℤ) → number_at (slice_get (slots_in o) f) ≡ Some n → HasSlot o f 0
has_slot None f n e = cc
has_slot (Some o) f n e = has_item (slice_get o.slots f) n e
