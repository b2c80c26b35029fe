-- The least of the violations of two parts.
use Rattle.std.proofs.Common.{◌≡◌, List, [], ◌∷◌, ◌++◌, inl, inr, arith, Option, Some, sym, subst}
use Rattle.std.specs.List.{AllByRecursion}
use Rattle.std.proofs.lemmas.List.Elements.{Contains-append_left, Contains-append_right}
use Rattle.ca_resolve.specs.declared.errors.CheckError.{CheckError}
use Rattle.ca_resolve.specs.Judged.{Violation, IsLeast, AtMost, IsLeastIfTold, told, Tells}

at_most_trans : (a b c : Violation) → AtMost a b → AtMost b c → AtMost a c
at_most_trans a b c (inl h) (inl k) = inl (omega (arith, h, k))
at_most_trans a b c (inl h) (inr k) = inl (omega (arith, h, k.0))
at_most_trans a b c (inr h) (inl k) = inl (omega (arith, h.0, k))
at_most_trans a b c (inr (e, inl h)) (inr (d, inl k)) = inr (omega (arith, e, d), inl (omega (arith, h, k)))
at_most_trans a b c (inr (e, inl h)) (inr (d, inr k)) = inr (omega (arith, e, d), inl (omega (arith, h, k.0)))
at_most_trans a b c (inr (e, inr h)) (inr (d, inl k)) = inr (omega (arith, e, d), inl (omega (arith, h.0, k)))
at_most_trans a b c (inr (e, inr h)) (inr (d, inr k)) = inr (omega (arith, e, d), inr (omega (arith, h.0, k.0), omega (arith, h.1, k.1)))

all_trans : (a b : Violation) (vs : List Violation) → AtMost a b → AllByRecursion (AtMost b) vs → AllByRecursion (AtMost a) vs
all_trans a b [] h k = tt
all_trans a b (v ∷ vs) h k = (at_most_trans a b v h k.0, all_trans a b vs h k.1)

all_append : (a : Violation) (vs us : List Violation) → AllByRecursion (AtMost a) vs → AllByRecursion (AtMost a) us → AllByRecursion (AtMost a) (vs ++ us)
all_append a [] us h k = k
all_append a (v ∷ vs) us h k = (h.0, all_append a vs us h.1 k)

pub least_left : (a b : Violation) (vs us : List Violation) → AtMost a b → IsLeast a vs → IsLeast b us → IsLeast a (vs ++ us)
least_left a b vs us h l m = record { one = Contains-append_left vs us a l.one; least = all_append a vs us l.least (all_trans a b us h m.least) }

pub least_right : (a b : Violation) (vs us : List Violation) → AtMost b a → IsLeast a vs → IsLeast b us → IsLeast b (vs ++ us)
least_right a b vs us h l m = record { one = Contains-append_right vs us b m.one; least = all_append b vs us (all_trans b a vs h l.least) m.least }

abbrev IsLeastOf : List Violation → Option Violation → Type 0
IsLeastOf vs o = IsLeastIfTold o vs

-- an error that comes first is told of both parts
pub second_told : (a b : CheckError) (f g : Violation) → told a ≡ Some f → told b ≡ Some g → AtMost g f → (vs us : List Violation) → Tells a vs → Tells b us → Tells b (vs ++ us)
second_told a b f g p q h vs us l m = (m.0, subst (IsLeastOf (vs ++ us)) (sym q) (least_right f g vs us h (subst (IsLeastOf vs) p l.1) (subst (IsLeastOf us) q m.1)))

pub first_told : (a b : CheckError) (f g : Violation) → told a ≡ Some f → told b ≡ Some g → AtMost f g → (vs us : List Violation) → Tells a vs → Tells b us → Tells a (vs ++ us)
first_told a b f g p q h vs us l m = (l.0, subst (IsLeastOf (vs ++ us)) (sym p) (least_left f g vs us h (subst (IsLeastOf vs) p l.1) (subst (IsLeastOf us) q m.1)))
