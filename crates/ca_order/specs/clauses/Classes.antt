-- Whether two orders are of one class, as the code finds it.
use Rattle.std.specs.Prelude.{ℕ, zero, suc, Bool, true, false, nat_lt, nat_eq, ◌&&◌, List, [], ◌∷◌}
use Rattle.ca_order.specs.Alike.{rank_at}

abbrev pub alike : Bool → Bool → Bool
alike true b = b
alike false true = false
alike false false = true

abbrev pub same_order_at : List ℕ → List ℕ → ℕ → ℕ → Bool
same_order_at ks ls i j =
    alike (nat_lt (rank_at ks i) (rank_at ks j)) (nat_lt (rank_at ls i) (rank_at ls j)) &&
    alike (nat_lt (rank_at ks j) (rank_at ks i)) (nat_lt (rank_at ls j) (rank_at ls i))

abbrev pub joined_alike_at : List ℕ → List ℕ → ℕ → ℕ → Bool
joined_alike_at ks ls i j = alike (nat_eq (rank_at ks i) (rank_at ks j)) (nat_eq (rank_at ls i) (rank_at ls j))

-- at each pair of places of a list
abbrev pub pairs_alike : List ℕ → List ℕ → List (ℕ × ℕ) → Bool
pairs_alike ks ls [] = true
pairs_alike ks ls (x ∷ xs) = same_order_at ks ls x.0 x.1 && pairs_alike ks ls xs

-- at each place below n
abbrev pub row_alike : List ℕ → List ℕ → ℕ → ℕ → Bool
row_alike ks ls i zero = true
row_alike ks ls i (suc n) = joined_alike_at ks ls i n && row_alike ks ls i n

abbrev pub joins_alike : List ℕ → List ℕ → ℕ → ℕ → Bool
joins_alike ks ls n zero = true
joins_alike ks ls n (suc i) = row_alike ks ls i n && joins_alike ks ls n i

-- the second order is of the class of the first, under which two terms compare the pairs
abbrev pub one_class : ℕ → List ℕ → List ℕ → List (ℕ × ℕ) → Bool
one_class n ks ls q = joins_alike ks ls n n && pairs_alike ks ls q
