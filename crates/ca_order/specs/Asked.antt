-- The places of points that a term compares under an order.
use Rattle.std.specs.Prelude.{ℕ, zero, Bool, false, cond, ◌&&◌, ◌||◌, nat_eq, List, [], ◌∷◌, ◌++◌, Option, Some, None, Contains}
use Rattle.std.specs.Ordering.{is_eq}
use Rattle.ca_forms.specs.declared.sort.Sort.{Sort}
use Rattle.ca_forms.specs.declared.sort.Sort.TheVariants.{Long}
use Rattle.ca_forms.specs.Plain.{PlainPolynomial}
use Rattle.ca_forms.specs.Compare.{polynomial_cmp}
use Rattle.ca_norm.specs.Terms.{PlainTerm, PlainTerms, number, truth, null, atom, add, sub, neg, mul, divide, remainder, less, less_equal, same, not, and, or, choose, read, read_at, result, select, put, add_at, fold, sweep, no_terms, term_and, sort_of}
use Rattle.ca_order.specs.Points.{Ranked, form_of}
use Rattle.ca_order.specs.Alike.{form_under, next}

-- the place of the first point that has a form
abbrev pub place_in : Ranked → PlainPolynomial → Option ℕ
place_in [] f = None
place_in (x ∷ xs) f = cond (is_eq (polynomial_cmp f (form_of x.0))) (Some zero) (next (place_in xs f))

abbrev pub has_pair : ℕ → ℕ → List (ℕ × ℕ) → Bool
has_pair i j [] = false
has_pair i j (x ∷ xs) = (nat_eq i x.0 && nat_eq j x.1) || has_pair i j xs

-- a pair of places more, unless it is there
abbrev pub with_pair : Option ℕ → Option ℕ → List (ℕ × ℕ) → List (ℕ × ℕ)
with_pair (Some i) (Some j) q = cond (has_pair i j q) q (q ++ (i, j) ∷ [])
with_pair i j q = q

abbrev pub with_sides : Ranked → PlainTerm → PlainTerm → List (ℕ × ℕ) → List (ℕ × ℕ)
with_sides r a b q = with_pair (place_in r (form_under r a)) (place_in r (form_under r b)) q

abbrev pub with_equal : Ranked → Sort → PlainTerm → PlainTerm → List (ℕ × ℕ) → List (ℕ × ℕ)
with_equal r Long a b q = with_sides r a b q
with_equal r sort a b q = q

-- the pairs that a term compares, behind others
abbrev mutual
  pub asked : Ranked → PlainTerm → List (ℕ × ℕ) → List (ℕ × ℕ)
  asked r (number n) q = q
  asked r (truth b) q = q
  asked r null q = q
  asked r (atom sort group n) q = q
  asked r (add a b) q = asked r b (asked r a q)
  asked r (sub a b) q = asked r b (asked r a q)
  asked r (neg a) q = asked r a q
  asked r (mul a b) q = asked r b (asked r a q)
  asked r (divide a n) q = asked r a q
  asked r (remainder a n) q = asked r a q
  asked r (less a b) q = with_sides r a b (asked r b (asked r a q))
  asked r (less_equal a b) q = with_sides r a b (asked r b (asked r a q))
  asked r (same a b) q = with_equal r (sort_of a) a b (asked r b (asked r a q))
  asked r (not a) q = asked r a q
  asked r (and a b) q = asked r b (asked r a q)
  asked r (or a b) q = asked r b (asked r a q)
  asked r (choose c a b) q = asked r b (asked r a (asked r c q))
  asked r (read sort p c f) q = asked r p q
  asked r (read_at sort p c f i) q = asked r i (asked r p q)
  asked r (result sort m p ts) q = all_asked r ts (asked r p q)
  asked r (select a i) q = asked r i (asked r a q)
  asked r (put a i x) q = asked r x (asked r i (asked r a q))
  asked r (add_at a i x) q = asked r x (asked r i (asked r a q))
  asked r (fold o a b) q = asked r b (asked r a q)
  asked r (sweep a f t x) q = asked r x (asked r t (asked r f (asked r a q)))

  pub all_asked : Ranked → PlainTerms → List (ℕ × ℕ) → List (ℕ × ℕ)
  all_asked r no_terms q = q
  all_asked r (term_and t ts) q = all_asked r ts (asked r t q)

-- two places stand in a list of pairs, where there are two
abbrev pub Stands : List (ℕ × ℕ) → Option ℕ → Option ℕ → Type 0
Stands q (Some i) (Some j) = Contains q (i, j)
Stands q i j = Unit {0}
