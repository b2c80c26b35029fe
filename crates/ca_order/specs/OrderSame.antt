-- The points of two terms, and whether the terms have the same form under each order of these.
use Rattle.std.specs.Prelude.{◌≡◌, ℕ, ◌≤◌, Bool, true, false, cond, ◌&&◌, ◌||◌, nat_lt, nat_eq, int_lt, List, [], ◌∷◌, ◌++◌, length, Contains}
use Rattle.ca_forms.specs.declared.sort.Sort.{Sort}
use Rattle.ca_forms.specs.declared.sort.Sort.TheVariants.{Long}
use Rattle.ca_norm.specs.Terms.{PlainTerm, PlainTerms, number, truth, null, atom, add, sub, neg, mul, divide, remainder, less, less_equal, same, not, and, or, choose, read, read_at, result, select, put, add_at, fold, sweep, no_terms, term_and}
use Rattle.ca_norm.specs.Forms.{norm}
use Rattle.ca_order.specs.declared.point.Point.{Point}
use Rattle.ca_order.specs.declared.point.Point.TheVariants as point
use Rattle.ca_order.specs.Points.{same_point}
use Rattle.ca_order.specs.Under.{under}
use Rattle.ca_order.specs.Rankings.{ranked, IsRanking}

-- a side of a comparison that is a number
abbrev pub side : PlainTerm → List Point
side (number n) = point.Number n ∷ []
side t = []

abbrev pub atom_point : Sort → ℕ → ℕ → List Point
atom_point Long group n = point.Atom group n ∷ []
atom_point sort group n = []

-- the numbers that are sides of comparisons in a term, and its atoms that are numbers, as often as they stand there
abbrev mutual
  pub all_points : PlainTerm → List Point
  all_points (number n) = []
  all_points (truth b) = []
  all_points null = []
  all_points (atom sort group n) = atom_point sort group n
  all_points (add a b) = all_points a ++ all_points b
  all_points (sub a b) = all_points a ++ all_points b
  all_points (neg a) = all_points a
  all_points (mul a b) = all_points a ++ all_points b
  all_points (divide a n) = all_points a
  all_points (remainder a n) = all_points a
  all_points (less a b) = (side a ++ side b) ++ (all_points a ++ all_points b)
  all_points (less_equal a b) = (side a ++ side b) ++ (all_points a ++ all_points b)
  all_points (same a b) = (side a ++ side b) ++ (all_points a ++ all_points b)
  all_points (not a) = all_points a
  all_points (and a b) = all_points a ++ all_points b
  all_points (or a b) = all_points a ++ all_points b
  all_points (choose c a b) = all_points c ++ (all_points a ++ all_points b)
  all_points (read sort p c f) = all_points p
  all_points (read_at sort p c f i) = all_points p ++ all_points i
  all_points (result sort m p ts) = all_points p ++ points_of_all ts
  all_points (select a i) = all_points a ++ all_points i
  all_points (put a i x) = all_points a ++ (all_points i ++ all_points x)
  all_points (add_at a i x) = all_points a ++ (all_points i ++ all_points x)
  all_points (fold o a b) = all_points a ++ all_points b
  all_points (sweep a f t x) = all_points a ++ (all_points f ++ (all_points t ++ all_points x))

  pub points_of_all : PlainTerms → List Point
  points_of_all no_terms = []
  points_of_all (term_and t ts) = all_points t ++ points_of_all ts

-- numbers by value, and then atoms by group and number
abbrev pub comes_before : Point → Point → Bool
comes_before (point.Number m) (point.Number n) = int_lt m n
comes_before (point.Number m) (point.Atom h n) = true
comes_before (point.Atom g m) (point.Number n) = false
comes_before (point.Atom g m) (point.Atom h n) = nat_lt g h || (nat_eq g h && nat_lt m n)

-- one point more, in its place, unless it is there
abbrev pub with_point : Point → List Point → List Point
with_point p [] = p ∷ []
with_point p (q ∷ qs) = cond (comes_before p q) (p ∷ q ∷ qs) (cond (same_point p q) (q ∷ qs) (q ∷ with_point p qs))

abbrev pub in_order : List Point → List Point
in_order [] = []
in_order (p ∷ ps) = with_point p (in_order ps)

-- the points of two terms
abbrev pub points_of : PlainTerm → PlainTerm → List Point
points_of t u = in_order (all_points t ++ all_points u)

-- There are few points, and under each order of them both terms have one form.
pub record OrderSame (t u : PlainTerm) : Type 0 where
  pub few : length (points_of t u) ≤ 5
  pub same : (ks : List ℕ) → IsRanking (points_of t u) ks → norm (under (ranked (points_of t u) ks) t) ≡ norm (under (ranked (points_of t u) ks) u)

-- numbers come first and rise, and no point stands twice
abbrev pub PointsRise : List Point → Type 0
PointsRise [] = Unit {0}
PointsRise (p ∷ ps) = ((q : Point) → Contains ps q → comes_before p q ≡ true) × PointsRise ps
