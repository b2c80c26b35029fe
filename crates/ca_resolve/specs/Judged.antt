-- What a part of a text resolves to, or the violations in it, and which of them an answer tells.
use Rattle.std.specs.Prelude.{◌≡◌, ℕ, ◌<◌, ◌≤◌, ◌⊎◌, Bool, true, false, List, [], ◌∷◌, ◌++◌, Option, Some, None, Result, Ok, Err, ◌&&◌, nat_le}
use Rattle.std.specs.List.{Contains, AllByRecursion}
use Rattle.std.specs.declared.vec.Vec.{Vec}
use Rattle.std.specs.Global.{Global}
use Rattle.ca_tree.specs.declared.name.Place.{Place}
use Rattle.ca_resolve.specs.declared.codes.TheConstants.{FIRST_LIMIT, LAST_LIMIT}
use Rattle.ca_resolve.specs.declared.errors.CheckError.{CheckError}
use Rattle.ca_resolve.specs.declared.errors.CheckError.TheVariants.{Violation as Tells_violation, Limit as Tells_limit, Memory}

-- a broken rule by its code, and where it is broken
pub record Violation : Type 0 where
  pub at : Place
  pub code : ℕ

-- what a part resolves to, or the violations in it, of which there is at least one
pub data Judged (A : Type 0) : Type 0 where
  fine : A → Judged A
  faulty : Violation → List Violation → Judged A

abbrev pub violations : {A : Type 0} → Judged A → List Violation
violations (fine a) = []
violations (faulty v vs) = v ∷ vs

-- two parts beside each other: the violations of both
abbrev pub both : {A B : Type 0} → Judged A → Judged B → Judged (A × B)
both (fine a) (fine b) = fine (a, b)
both (fine a) (faulty u us) = faulty u us
both (faulty v vs) k = faulty v (vs ++ violations k)

-- a node inside which a violation stands gives none itself: its own rule counts only where all inside it is fine
abbrev pub within : {A B : Type 0} → Judged A → (A → Judged B) → Judged B
within (fine a) rule = rule a
within (faulty v vs) rule = faulty v vs

-- a rule that is broken here
abbrev pub broken : {A : Type 0} → Place → ℕ → Judged A
broken at code = faulty (record { at = at; code = code }) []

-- a violation where the test is passed
abbrev pub broken_if : Bool → Place → ℕ → Option Violation
broken_if true at code = Some (record { at = at; code = code })
broken_if false at code = None

-- a value where no rule is broken
abbrev pub unless : {A : Type 0} → Option Violation → A → Judged A
unless None a = fine a
unless (Some v) a = faulty v []

-- what was looked up, or a violation where nothing was found
abbrev pub found : {A : Type 0} → Option A → Place → ℕ → Judged A
found (Some a) at code = fine a
found None at code = broken at code

-- a limit that is passed counts beside all that stands inside
abbrev pub beside : {A : Type 0} → Option Violation → Judged A → Judged A
beside None inside = inside
beside (Some v) inside = faulty v (violations inside)

-- each of a list: all that they resolve to, in order, or the violations of all
abbrev pub each : {A : Type 0} → List (Judged A) → Judged (List A)
each [] = fine []
each (j ∷ js) = within (both j (each js)) (λ p. fine (p.0 ∷ p.1))

-- by place, line before column, and then by code
abbrev pub AtMost : Violation → Violation → Type 0
AtMost v w =
    (v.at.line < w.at.line)
    ⊎ ((v.at.line ≡ w.at.line) × ((v.at.column < w.at.column) ⊎ ((v.at.column ≡ w.at.column) × (v.code ≤ w.code))))

-- v is one of the violations, and no other comes before it
pub record IsLeast (v : Violation) (vs : List Violation) : Type 0 where
  pub one : Contains vs v
  pub least : AllByRecursion (AtMost v) vs

-- the codes of limits
abbrev pub is_limit : ℕ → Bool
is_limit code = nat_le FIRST_LIMIT code && nat_le code LAST_LIMIT

-- the violation that an error tells; out of memory tells none
abbrev pub told : CheckError → Option Violation
told (Tells_violation at code) = Some (record { at = at; code = code.0 })
told (Tells_limit at code) = Some (record { at = at; code = code.0 })
told Memory = None

-- a limit is told as one, and no other code is
abbrev pub HasItsKind : CheckError → Type 0
HasItsKind (Tells_violation at code) = is_limit code.0 ≡ false
HasItsKind (Tells_limit at code) = is_limit code.0 ≡ true
HasItsKind Memory = Unit {0}

abbrev pub IsLeastIfTold : Option Violation → List Violation → Type 0
IsLeastIfTold None vs = Unit {0}
IsLeastIfTold (Some v) vs = IsLeast v vs

-- an error tells the least of the violations; out of memory says nothing of them
abbrev pub Tells : CheckError → List Violation → Type 0
Tells e vs = HasItsKind e × IsLeastIfTold (told e) vs

-- an answer is right for what a part is judged: it is what the part resolves to, seen by `view`, or tells its least violation
abbrev pub Answers : {T A : Type 0} → (T → A) → Result T CheckError → Judged A → Type 0
Answers view (Ok t) j = j ≡ fine (view t)
Answers view (Err e) j = Tells e (violations j)

-- an answer is right for violations, if only these are asked for
abbrev pub Finds : {T : Type 0} → Result T CheckError → List Violation → Type 0
Finds (Ok t) vs = vs ≡ []
Finds (Err e) vs = Tells e vs

-- two answers beside each other: both values, or the least violation of both
abbrev pub Joins : {T U : Type 0} → Result T CheckError → Result U CheckError → Result (T × U) CheckError → Type 0
Joins a b (Ok p) = (a ≡ Ok p.0) × (b ≡ Ok p.1)
Joins a b (Err e) = (vs us : List Violation) → Finds a vs → Finds b us → Tells e (vs ++ us)

-- the values so far and one more, or the least violation of both
abbrev pub Extends : {T : Type 0} → Result (Vec T Global) CheckError → Result T CheckError → Result (Vec T Global) CheckError → Type 0
Extends a b (Ok w) = (v : Vec _ Global) × (x : _) × (a ≡ Ok v) × (b ≡ Ok x) × (w.items ≡ v.items ++ x ∷ [])
Extends a b (Err e) = (vs us : List Violation) → Finds a vs → Finds b us → Tells e (vs ++ us)
