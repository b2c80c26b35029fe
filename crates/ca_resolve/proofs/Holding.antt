-- What holds of whatever a part resolves to.
use Rattle.std.proofs.Common.{◌≡◌, subst}
use Rattle.std.specs.Prelude.{Option, Some, None}
use Rattle.ca_resolve.specs.Judged.{Violation, Judged, fine, faulty, both, within, unless, beside}

abbrev pub Holds : {A : Type 0} → (A → Type 0) → Judged A → Type 0
Holds P (fine a) = P a
Holds P (faulty v vs) = Unit {0}

pub within_holds : {A B : Type 0} (P : A → Type 0) (Q : B → Type 0) (j : Judged A) (rule : A → Judged B) → Holds P j → ((a : A) → P a → Holds Q (rule a)) → Holds Q (within j rule)
within_holds P Q (fine a) rule h f = f a h
within_holds P Q (faulty v vs) rule h f = tt

-- whatever the part resolves to
pub within_any : {A B : Type 0} (Q : B → Type 0) (j : Judged A) (rule : A → Judged B) → ((a : A) → Holds Q (rule a)) → Holds Q (within j rule)
within_any Q (fine a) rule f = f a
within_any Q (faulty v vs) rule f = tt

pub both_hold : {A B : Type 0} (P : A → Type 0) (Q : B → Type 0) (j : Judged A) (k : Judged B) → Holds P j → Holds Q k → Holds (λ (p : A × B). P p.0 × Q p.1) (both j k)
both_hold P Q (fine a) (fine b) h g = (h, g)
both_hold P Q (fine a) (faulty u us) h g = tt
both_hold P Q (faulty v vs) k h g = tt

pub unless_holds : {A : Type 0} (P : A → Type 0) (v : Option Violation) (a : A) → P a → Holds P (unless v a)
unless_holds P None a h = h
unless_holds P (Some v) a h = tt

pub beside_holds : {A : Type 0} (P : A → Type 0) (v : Option Violation) (j : Judged A) → Holds P j → Holds P (beside v j)
beside_holds P None j h = h
beside_holds P (Some v) j h = tt

pub any_holds : {A : Type 0} (j : Judged A) → Holds (λ (a : A). Unit {0}) j
any_holds (fine a) = tt
any_holds (faulty v vs) = tt

pub of_fine : {A : Type 0} (P : A → Type 0) (j : Judged A) (a : A) → Holds P j → j ≡ fine a → P a
of_fine P j a h e = subst (Holds P) e h
