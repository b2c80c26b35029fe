-- What is answered of two terms.
use Rattle.std.specs.Prelude.{◌≡◌, ◌≢◌, ◌<◌, ◌≤◌, ℕ, List, Option, Some, None, length, take, slice_get, Contains}
use Rattle.ca_forms.specs.declared.form.Normal.{Normal}
use Rattle.ca_norm.specs.Terms.{PlainTerm}
use Rattle.ca_norm.specs.Forms.{norm}
use Rattle.ca_order.specs.declared.point.Point.{Point}
use Rattle.ca_order.specs.Under.{under}
use Rattle.ca_order.specs.Rankings.{ranked, rankings_of}
use Rattle.ca_order.specs.OrderSame.{points_of, OrderSame}
use Rattle.ca_order.specs.declared.answers.OrderAnswer.{OrderAnswer}
use Rattle.ca_order.specs.declared.answers.OrderAnswer.TheVariants as answer

-- the terms have one form under the order
abbrev pub SameUnder : List Point → PlainTerm → PlainTerm → List ℕ → Type 0
SameUnder ps t u ks = norm (under (ranked ps ks) t) ≡ norm (under (ranked ps ks) u)

-- the order at place n is the first of all under which two terms have different forms, and these are the forms
pub record FirstDiffers (ps : List Point) (t u : PlainTerm) (all : List (List ℕ)) (n : ℕ) (ks : List ℕ) (x y : Normal) : Type 0 where
  pub stands : slice_get all n ≡ Some ks
  pub same : (ls : List ℕ) → Contains (take n all) ls → SameUnder ps t u ls
  pub first : x ≡ norm (under (ranked ps ks) t)
  pub second : y ≡ norm (under (ranked ps ks) u)
  pub differ : x ≢ y

abbrev pub AllSame : List Point → PlainTerm → PlainTerm → List (List ℕ) → Type 0
AllSame ps t u all = (ls : List ℕ) → Contains all ls → SameUnder ps t u ls

-- at a place, where there is one
abbrev pub DiffersAt : List Point → PlainTerm → PlainTerm → List (List ℕ) → Option (ℕ × (Normal × Normal)) → Type 0
DiffersAt ps t u all None = AllSame ps t u all
DiffersAt ps t u all (Some d) = (ks : List ℕ) × FirstDiffers ps t u all d.0 ks d.1.0 d.1.1

abbrev pub Answers : PlainTerm → PlainTerm → OrderAnswer → Type 0
Answers t u answer.Same = OrderSame t u
Answers t u (answer.TooMany n) = (5 < n) × (n ≡ length (points_of t u))
Answers t u (answer.Differs r x y) =
    (length (points_of t u) ≤ 5) × (r.points.items ≡ points_of t u) × ((n : ℕ) × FirstDiffers (points_of t u) t u (rankings_of (points_of t u)) n r.ranks.items x y)

-- whether it is that they are the same
abbrev pub IsSame : OrderAnswer → Type 0
IsSame answer.Same = Unit {0}
IsSame a = ⊥
