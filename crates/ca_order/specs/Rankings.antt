-- The orders of points: ranks from 0 on, each used, in which numbers rise.
use Rattle.std.specs.Prelude.{◌≡◌, ℕ, zero, suc, ◌<◌, ℤ, Bool, true, false, ◌&&◌, ◌||◌, nat_lt, nat_eq, int_lt, List, [], ◌∷◌, ◌++◌, length, Contains}
use Rattle.std.specs.List.{filter}
use Rattle.ca_norm.specs.Meanings.{Valuation}
use Rattle.ca_order.specs.declared.point.Point.{Point}
use Rattle.ca_order.specs.declared.point.Point.TheVariants as point
use Rattle.ca_order.specs.declared.rankings.Ranking.{Ranking}
use Rattle.ca_order.specs.Points.{Ranked}
use Rattle.ca_order.specs.Under.{Meets}

-- points with their ranks
abbrev pub ranked : List Point → List ℕ → Ranked
ranked [] ks = []
ranked (p ∷ ps) [] = []
ranked (p ∷ ps) (k ∷ ks) = (p, k) ∷ ranked ps ks

-- the order that a ranking is
abbrev pub order_in : Ranking → Ranked
order_in r = ranked r.points.items r.ranks.items

-- each rank below one that is used is used
abbrev pub EachUsed : List ℕ → Type 0
EachUsed ks = (j k : ℕ) → Contains ks k → j < k → Contains ks j

-- numbers have ranks in their order
abbrev pub NumbersRise : Ranked → Type 0
NumbersRise r = (m n : ℤ) (j k : ℕ) → Contains r (point.Number m, j) → Contains r (point.Number n, k) → int_lt m n ≡ true → j < k

pub record IsRanking (ps : List Point) (ks : List ℕ) : Type 0 where
  pub long : length ks ≡ length ps
  pub used : EachUsed ks
  pub rise : NumbersRise (ranked ps ks)

-- the order of the points under a valuation
pub record IsRankingOf (v : Valuation) (ps : List Point) (ks : List ℕ) : Type 0 where
  pub ranking : IsRanking ps ks
  pub meets : Meets v (ranked ps ks)

-- All orders, one after the other

-- whether a rank stands in a list
abbrev pub stands : ℕ → List ℕ → Bool
stands k [] = false
stands k (j ∷ ks) = nat_eq k j || stands k ks

-- the rank before each is used
abbrev pub before_used : List ℕ → List ℕ → Bool
before_used all [] = true
before_used all (zero ∷ ks) = before_used all ks
before_used all (suc k ∷ ks) = stands k all && before_used all ks

-- a number that comes next has a greater rank
abbrev pub below_next : ℕ → List Point → List ℕ → Bool
below_next j (point.Number n ∷ ps) (k ∷ ks) = nat_lt j k
below_next j ps ks = true

-- the numbers in front rise
abbrev pub numbers_rise : List Point → List ℕ → Bool
numbers_rise (point.Number m ∷ ps) (j ∷ ks) = below_next j ps ks && numbers_rise ps ks
numbers_rise ps ks = true

abbrev pub is_ranking : List Point → List ℕ → Bool
is_ranking ps ks = before_used ks ks && numbers_rise ps ks

-- a rank before each list of some
abbrev pub each_behind : ℕ → List (List ℕ) → List (List ℕ)
each_behind k [] = []
each_behind k (l ∷ ls) = (k ∷ l) ∷ each_behind k ls

-- each rank below n before each list of some
abbrev pub all_before : ℕ → List (List ℕ) → List (List ℕ)
all_before zero ls = []
all_before (suc n) ls = all_before n ls ++ each_behind n ls

-- all lists of m ranks below n, as numbers are counted up
abbrev pub all_ranks : ℕ → ℕ → List (List ℕ)
all_ranks zero n = [] ∷ []
all_ranks (suc m) n = all_before n (all_ranks m n)

-- the orders of points, those of smaller ranks first
abbrev pub rankings_of : List Point → List (List ℕ)
rankings_of ps = filter (is_ranking ps) (all_ranks (length ps) (length ps))

-- the points of a ranking, and the rank of each in their order
abbrev pub points_and_ranks : Ranking → List Point × List ℕ
points_and_ranks r = (r.points.items, r.ranks.items)

-- none of a list stands in it twice
abbrev pub EachOnce : List (List ℕ) → Type 0
EachOnce [] = Unit {0}
EachOnce (l ∷ ls) = (¬ Contains ls l) × EachOnce ls
