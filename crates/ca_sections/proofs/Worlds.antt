-- The world of a section in memory.
use Rattle.std.proofs.Common.{◌≡◌, List, [], ◌∷◌, Option, None, Some, refl, ap}
use Rattle.std.specs.Prelude.{ℤ, Bool, true, false, map}
use Rattle.ca_model.specs.declared.value.Value.{Value as Datum}
use Rattle.ca_model.specs.declared.value.Value.TheVariants.{Long}
use Rattle.ca_model.specs.declared.value.Slot.{Slot}
use Rattle.ca_model.specs.declared.value.Slot.TheVariants.{One, Many}
use Rattle.ca_model.specs.declared.value.Object.{Object}
use Rattle.ca_meaning.specs.Expressions.{one_in}
use Rattle.ca_meaning.specs.Functions.{own_of}
use Rattle.ca_meaning.specs.Sections.{Section}
use Rattle.ca_code_laws.specs.Machine.{Back}
use Rattle.ca_code_laws.specs.Runs.{section_own}
use Rattle.ca_steps.specs.declared.frames.Waiting.{Waiting}
use Rattle.ca_steps.specs.Lists.{has_some}
use Rattle.ca_steps.specs.Stands.{back_seen}
use Rattle.ca_sections.specs.declared.access.Own.{Own}
use Rattle.ca_sections.specs.declared.access.Own.TheVariants.{Handed, Frozen}
use Rattle.ca_sections.specs.declared.access.Stand.TheVariants as stand
use Rattle.ca_sections.specs.Running.{standing}

-- a value method reads the frozen heap, and the body of the section what it has
pub own_below : (h : List Object) (bs : List Back) (x : Section) (me : Datum) → true ≡ has_some bs → section_own h bs x me ≡ own_of h me
own_below h [] x me e = cc
own_below h (b ∷ bs) x me e = refl

pub own_at_hand : (h : List Object) (bs : List Back) (x : Section) (me : Datum) → false ≡ has_some bs → section_own h bs x me ≡ x.own
own_at_hand h [] x me e = refl
own_at_hand h (b ∷ bs) x me e = cc

-- where it stands so, its body is such
pub handed_is : (o : Own) (b : Bool) → standing o b ≡ stand.Handed → (o ≡ Handed) × (false ≡ b)
handed_is Handed false e = (refl, refl)
handed_is Handed true e = absurd cc
handed_is Frozen false e = absurd cc
handed_is Frozen true e = absurd cc

pub frozen_is : (o : Own) (b : Bool) → standing o b ≡ stand.Frozen → (o ≡ Frozen) × (false ≡ b)
frozen_is Frozen false e = (refl, refl)
frozen_is Frozen true e = absurd cc
frozen_is Handed false e = absurd cc
frozen_is Handed true e = absurd cc

pub below_is : (o : Own) (b : Bool) → standing o b ≡ stand.Below → true ≡ b
below_is o true e = refl
below_is Handed false e = absurd cc
below_is Frozen false e = absurd cc

-- none waits where none is seen
pub none_waits : (bs : List Waiting) → map back_seen bs ≡ [] → bs ≡ []
none_waits [] e = refl
none_waits (b ∷ bs) e = cc

-- a field that holds a number as its single value
pub one_long : (s : Option Slot) (n : ℤ) → one_in s ≡ Long n → s ≡ Some (One (Long n))
one_long None n e = absurd cc
one_long (Some (One v)) n e = ap (λ v. Some (One v)) e
one_long (Some (Many vs)) n e = absurd cc
