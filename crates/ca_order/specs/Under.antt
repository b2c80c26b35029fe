-- A term under an order of points: each atom that is a number is the first point of its rank, and then, from inside to
-- outside, each comparison of two points is the truth value of their ranks.
use Rattle.std.specs.Prelude.{◌≡◌, ℕ, Bool, cond, nat_lt, nat_eq, int_lt, [], ◌∷◌, Option, Some, None, Contains}
use Rattle.std.specs.Ordering.{is_eq}
use Rattle.ca_meaning.specs.Operators.{same_int, not_of}
use Rattle.ca_forms.specs.declared.sort.Sort.{Sort}
use Rattle.ca_forms.specs.declared.sort.Sort.TheVariants.{Long}
use Rattle.ca_forms.specs.Plain.{PlainPolynomial}
use Rattle.ca_forms.specs.Compare.{polynomial_cmp}
use Rattle.ca_forms.specs.Rules.{gathered}
use Rattle.ca_norm.specs.Terms.{PlainTerm, PlainTerms, number, truth, null, atom, add, sub, neg, mul, divide, remainder, less, less_equal, same, not, and, or, choose, read, read_at, result, select, put, add_at, fold, sweep, no_terms, term_and, sort_of}
use Rattle.ca_norm.specs.Forms.{expand}
use Rattle.ca_norm.specs.Meanings.{Valuation}
use Rattle.ca_order.specs.declared.point.Point.{Point}
use Rattle.ca_order.specs.declared.point.Point.TheVariants as point
use Rattle.ca_order.specs.Points.{point_term, form_of, value_of, same_point, FitsPoint, Ranked}

-- the rank of a point
abbrev pub rank_of : Ranked → Point → Option ℕ
rank_of [] p = None
rank_of (x ∷ xs) p = cond (same_point p x.0) (Some x.1) (rank_of xs p)

-- the first point of a rank, and else p
abbrev pub first_of_rank : Ranked → Point → ℕ → Point
first_of_rank [] p k = p
first_of_rank (x ∷ xs) p k = cond (nat_eq x.1 k) x.0 (first_of_rank xs p k)

abbrev pub first_like : Ranked → Point → Option ℕ → Point
first_like r p None = p
first_like r p (Some k) = first_of_rank r p k

-- the first point of the rank of p; p where it has no rank
abbrev pub leader : Ranked → Point → Point
leader r p = first_like r p (rank_of r p)

-- the rank of the point that has the form
abbrev pub rank_of_form : Ranked → PlainPolynomial → Option ℕ
rank_of_form [] f = None
rank_of_form (x ∷ xs) f = cond (is_eq (polynomial_cmp f (form_of x.0))) (Some x.1) (rank_of_form xs f)

-- the truth value of two ranks, where there are two
abbrev pub decided : Option ℕ → Option ℕ → (ℕ → ℕ → Bool) → PlainTerm → PlainTerm
decided (Some m) (Some n) test t = truth (test m n)
decided j k test t = t

abbrev pub rank_of_term : Ranked → PlainTerm → Option ℕ
rank_of_term r t = rank_of_form r (gathered (expand t))

abbrev pub atom_under : Ranked → Sort → ℕ → ℕ → PlainTerm
atom_under r Long group n = point_term (leader r (point.Atom group n))
atom_under r sort group n = atom sort group n

abbrev pub not_more : ℕ → ℕ → Bool
not_more m n = not_of (nat_lt n m)

abbrev pub same_under : Ranked → Sort → PlainTerm → PlainTerm → PlainTerm
same_under r Long a b = decided (rank_of_term r a) (rank_of_term r b) nat_eq (same a b)
same_under r sort a b = same a b

abbrev mutual
  pub under : Ranked → PlainTerm → PlainTerm
  under r (number n) = number n
  under r (truth b) = truth b
  under r null = null
  under r (atom sort group n) = atom_under r sort group n
  under r (add a b) = add (under r a) (under r b)
  under r (sub a b) = sub (under r a) (under r b)
  under r (neg a) = neg (under r a)
  under r (mul a b) = mul (under r a) (under r b)
  under r (divide a n) = divide (under r a) n
  under r (remainder a n) = remainder (under r a) n
  under r (less a b) = decided (rank_of_term r (under r a)) (rank_of_term r (under r b)) nat_lt (less (under r a) (under r b))
  under r (less_equal a b) = decided (rank_of_term r (under r a)) (rank_of_term r (under r b)) not_more (less_equal (under r a) (under r b))
  under r (same a b) = same_under r (sort_of a) (under r a) (under r b)
  under r (not a) = not (under r a)
  under r (and a b) = and (under r a) (under r b)
  under r (or a b) = or (under r a) (under r b)
  under r (choose c a b) = choose (under r c) (under r a) (under r b)
  under r (read sort p c f) = read sort (under r p) c f
  under r (read_at sort p c f i) = read_at sort (under r p) c f (under r i)
  under r (result sort m p ts) = result sort m (under r p) (all_under r ts)
  under r (select a i) = select (under r a) (under r i)
  under r (put a i x) = put (under r a) (under r i) (under r x)
  under r (add_at a i x) = add_at (under r a) (under r i) (under r x)
  under r (fold o a b) = fold o (under r a) (under r b)
  under r (sweep a f t x) = sweep (under r a) (under r f) (under r t) (under r x)

  pub all_under : Ranked → PlainTerms → PlainTerms
  all_under r no_terms = no_terms
  all_under r (term_and t ts) = term_and (under r t) (all_under r ts)

-- the ranks of two points are in the order of their values
pub record Agree (v : Valuation) (x y : Point × ℕ) : Type 0 where
  pub less : nat_lt x.1 y.1 ≡ int_lt (value_of v x.0) (value_of v y.0)
  pub same : nat_eq x.1 y.1 ≡ same_int (value_of v x.0) (value_of v y.0)

-- the valuation meets the order
abbrev pub Meets : Valuation → Ranked → Type 0
Meets v r = (x y : Point × ℕ) → Contains r x → Contains r y → Agree v x y

-- numbers of 64 bits alone
abbrev pub AreFit : Ranked → Type 0
AreFit r = (x : Point × ℕ) → Contains r x → FitsPoint x.0
