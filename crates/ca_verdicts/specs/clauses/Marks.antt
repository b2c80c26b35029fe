-- Demands as marks under their keys: for each demand the number of its condition.
use Rattle.std.specs.Prelude.{◌≡◌, ◌⊎◌, ℕ, ◌+◌, map, Bool, true, false, cond, List, [], ◌∷◌, ◌++◌, Option, Some, None, slice_get}
use Rattle.std.specs.Ordering.{is_eq}
use Rattle.std.specs.Map.{lookup}
use Rattle.std.specs.BTreeMap.{is_at}
use Rattle.ca_sums.specs.Sums.{Sum, scale}
use Rattle.ca_sums.proofs.Products.{SameTotals}
use Rattle.ca_forms.specs.Plain.{PlainMonomial, PlainPolynomial}
use Rattle.ca_forms.specs.Lists.{products_of}
use Rattle.ca_norm.specs.Terms.{terms_of}
use Rattle.ca_forms.specs.Rules.{gathered}
use Rattle.ca_norm.specs.Forms.{expand, arguments_of}
use Rattle.ca_symbolic.specs.declared.demand.Demand.{Demand}
use Rattle.ca_symbolic.specs.declared.demand.Group.{Group}
use Rattle.ca_symbolic.specs.declared.running.Side.{Side}
use Rattle.ca_symbolic.specs.declared.running.Side.TheVariants as side
use Rattle.ca_symbolic.specs.Demanded.{kind_of, demands_of}
use Rattle.ca_verdicts.specs.declared.marks.Marks.{Marks}
use Rattle.ca_verdicts.specs.Keys.{Key, key_cmp}
use Rattle.ca_verdicts.specs.Counts.{LightOrderSame, count_at}

-- the key of a demand
abbrev pub key_at : Demand → Key
key_at d = record { kind = kind_of d.kind; parts = arguments_of (terms_of d.parts.items) }

-- one mark with this number, or none
abbrev pub mark_if : Bool → ℕ → Sum ℕ
mark_if true n = (n, 1) ∷ []
mark_if false n = []

-- the marks of demands that have the key, all with one number
abbrev pub marks_of : Key → ℕ → List Demand → Sum ℕ
marks_of k n [] = []
marks_of k n (d ∷ ds) = mark_if (is_eq (key_cmp k (key_at d))) n ++ marks_of k n ds

-- those of groups, each with the number of its group; the first of them has the number n
abbrev pub marks_in : Key → ℕ → List Group → Sum ℕ
marks_in k n [] = []
marks_in k n (g ∷ gs) = marks_of k n g.items.items ++ marks_in k (n + 1) gs

abbrev pub same_side : Side → Side → Bool
same_side side.First side.First = true
same_side side.Second side.Second = true
same_side _ _ = false

-- the marks of a side; none where there are none at all
abbrev pub marks_at : Side → Option Marks → Sum ℕ
marks_at s None = []
marks_at side.First (Some m) = m.first.items
marks_at side.Second (Some m) = m.second.items

-- those under a key
abbrev pub found : List (Key × Marks) → Key → Option Marks
found es k = lookup (is_at (key_cmp k)) es

-- marks where they are of the side
abbrev pub if_side : Side → Side → Sum ℕ → Sum ℕ
if_side s t ms = cond (same_side s t) ms []

-- the products of the condition with this number
abbrev pub products_at : List PlainPolynomial → ℕ → Sum PlainMonomial
products_at gs n = products_in (slice_get gs n)
  where
    products_in : Option PlainPolynomial → Sum PlainMonomial
    products_in None = []
    products_in (Some f) = products_of f

-- the sum of the conditions that the marks name
abbrev pub summed_up : List PlainPolynomial → Sum ℕ → Sum PlainMonomial
summed_up gs [] = []
summed_up gs (m ∷ ms) = scale m.1 (products_at gs m.0) ++ summed_up gs ms

-- the condition of a group
abbrev pub condition_of : Group → PlainPolynomial
condition_of g = gathered (expand g.guard)

-- both sides name conditions of the same sum
abbrev pub IsSettled : List PlainPolynomial → List PlainPolynomial → Marks → Type 0
IsSettled fs gs m = gathered (summed_up fs m.first.items) ≡ gathered (summed_up gs m.second.items)

-- the same is demanded under an entry's key: by the sums that its marks name, or by how often under each order
abbrev pub IsSame : List Group → List Group → Key × Marks → Type 0
IsSame ones twos e = IsSettled (map condition_of ones) (map condition_of twos) e.1 ⊎ LightOrderSame (count_at e.0 (demands_of ones)) (count_at e.0 (demands_of twos))

abbrev pub AreSame : List Group → List Group → List (Key × Marks) → Type 0
AreSame ones twos [] = Unit {0}
AreSame ones twos (e ∷ es) = IsSame ones twos e × AreSame ones twos es

abbrev pub AllSettled : List PlainPolynomial → List PlainPolynomial → List Marks → Type 0
AllSettled fs gs [] = Unit {0}
AllSettled fs gs (m ∷ ms) = IsSettled fs gs m × AllSettled fs gs ms

-- each entry of a table has the marks of both orders under its key
abbrev pub EachMarked : List Group → List Group → List (Key × Marks) → Type 0
EachMarked ones twos [] = Unit {0}
EachMarked ones twos (e ∷ es) = SameTotals e.1.first.items (marks_in e.0 0 ones) × SameTotals e.1.second.items (marks_in e.0 0 twos) × EachMarked ones twos es
