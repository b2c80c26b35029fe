-- Old values of sections that ran one behind the other: what was kept later is put back first.
use Rattle.std.proofs.Common.{◌≡◌, List, [], ◌∷◌, ◌++◌, refl}
use Rattle.ca_model.specs.declared.value.Slot.{Slot}
use Rattle.ca_model.specs.Slots.{put_slot}
use Rattle.ca_undo.specs.declared.olds.Old.{Old}
use Rattle.ca_undo.specs.Olds.{put_back, AllThere}

pub back_later : (later olds : List Old) (ss : List Slot) → put_back (later ++ olds) ss ≡ put_back olds (put_back later ss)
back_later [] olds ss = refl
back_later (o ∷ later) olds ss = back_later later olds (put_slot ss o.field o.item o.value)

pub there_later : (later olds : List Old) (ss : List Slot) → AllThere later ss → AllThere olds (put_back later ss) → AllThere (later ++ olds) ss
there_later [] olds ss a b = b
there_later (o ∷ later) olds ss a b = (a.0, there_later later olds (put_slot ss o.field o.item o.value) a.1 b)
