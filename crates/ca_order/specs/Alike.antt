-- Orders that are alike for a term.
use Rattle.std.specs.Prelude.{◌≡◌, ℕ, zero, suc, ◌<◌, Bool, cond, nat_lt, nat_eq, List, [], ◌∷◌, length, Option, Some, None}
use Rattle.std.specs.Ordering.{is_eq}
use Rattle.ca_forms.specs.declared.sort.Sort.{Sort}
use Rattle.ca_forms.specs.declared.sort.Sort.TheVariants.{Long}
use Rattle.ca_forms.specs.Plain.{PlainPolynomial}
use Rattle.ca_forms.specs.Compare.{polynomial_cmp}
use Rattle.ca_forms.specs.Rules.{gathered}
use Rattle.ca_norm.specs.Terms.{PlainTerm, PlainTerms, number, truth, null, atom, add, sub, neg, mul, divide, remainder, less, less_equal, same, not, and, or, choose, read, read_at, result, select, put, add_at, fold, sweep, no_terms, term_and, sort_of}
use Rattle.ca_norm.specs.Forms.{expand}
use Rattle.ca_order.specs.declared.point.Point.{Point}
use Rattle.ca_order.specs.Points.{Ranked, form_of}
use Rattle.ca_order.specs.Rankings.{ranked}
use Rattle.ca_order.specs.Under.{leader, rank_of_form, under}

-- how two ranks compare, where there are two
abbrev pub compared : Option ℕ → Option ℕ → Option (Bool × Bool × Bool)
compared (Some m) (Some n) = Some (nat_lt m n, nat_eq m n, nat_lt n m)
compared j k = None

-- how the points that have two forms compare
abbrev pub outcome : Ranked → PlainPolynomial → PlainPolynomial → Option (Bool × Bool × Bool)
outcome r f g = compared (rank_of_form r f) (rank_of_form r g)

abbrev pub form_under : Ranked → PlainTerm → PlainPolynomial
form_under r t = gathered (expand (under r t))

abbrev pub of_numbers : Sort → Type 0 → Type 0
of_numbers Long P = P
of_numbers s P = Unit {0}

-- it holds of the forms of the sides of each comparison of numbers in a term under an order
abbrev mutual
  pub Each : (PlainPolynomial → PlainPolynomial → Type 0) → Ranked → PlainTerm → Type 0
  Each P r (number n) = Unit {0}
  Each P r (truth b) = Unit {0}
  Each P r null = Unit {0}
  Each P r (atom sort group n) = Unit {0}
  Each P r (add a b) = Each P r a × Each P r b
  Each P r (sub a b) = Each P r a × Each P r b
  Each P r (neg a) = Each P r a
  Each P r (mul a b) = Each P r a × Each P r b
  Each P r (divide a n) = Each P r a
  Each P r (remainder a n) = Each P r a
  Each P r (less a b) = Each P r a × Each P r b × P (form_under r a) (form_under r b)
  Each P r (less_equal a b) = Each P r a × Each P r b × P (form_under r a) (form_under r b)
  Each P r (same a b) = Each P r a × Each P r b × of_numbers (sort_of a) (P (form_under r a) (form_under r b))
  Each P r (not a) = Each P r a
  Each P r (and a b) = Each P r a × Each P r b
  Each P r (or a b) = Each P r a × Each P r b
  Each P r (choose c a b) = Each P r c × Each P r a × Each P r b
  Each P r (read sort p c f) = Each P r p
  Each P r (read_at sort p c f i) = Each P r p × Each P r i
  Each P r (result sort m p ts) = Each P r p × EachOf P r ts
  Each P r (select a i) = Each P r a × Each P r i
  Each P r (put a i x) = Each P r a × Each P r i × Each P r x
  Each P r (add_at a i x) = Each P r a × Each P r i × Each P r x
  Each P r (fold o a b) = Each P r a × Each P r b
  Each P r (sweep a f t x) = Each P r a × Each P r f × Each P r t × Each P r x

  pub EachOf : (PlainPolynomial → PlainPolynomial → Type 0) → Ranked → PlainTerms → Type 0
  EachOf P r no_terms = Unit {0}
  EachOf P r (term_and t ts) = Each P r t × EachOf P r ts

abbrev pub AlikeMakeTheSame : Type 0
AlikeMakeTheSame =
    (r s : Ranked) (t : PlainTerm) → ((p : Point) → leader r p ≡ leader s p) →
    Each (λ f g. outcome r f g ≡ outcome s f g) r t → under r t ≡ under s t

-- the place of the first point that has a form
abbrev pub next : Option ℕ → Option ℕ
next None = None
next (Some i) = Some (suc i)

abbrev pub place_of_form : List Point → PlainPolynomial → Option ℕ
place_of_form [] f = None
place_of_form (p ∷ ps) f = cond (is_eq (polynomial_cmp f (form_of p))) (Some zero) (next (place_of_form ps f))

-- the rank at a place
abbrev pub rank_at : List ℕ → ℕ → ℕ
rank_at [] i = 0
rank_at (k ∷ ks) zero = k
rank_at (k ∷ ks) (suc i) = rank_at ks i

-- ranks are equal at the same places
abbrev pub JoinTheSame : ℕ → List ℕ → List ℕ → Type 0
JoinTheSame n ks ls = (i j : ℕ) → i < n → j < n → nat_eq (rank_at ks i) (rank_at ks j) ≡ nat_eq (rank_at ls i) (rank_at ls j)

-- ranks are in the same order at two places
abbrev pub SameOrderAt : List ℕ → List ℕ → Option ℕ → Option ℕ → Type 0
SameOrderAt ks ls (Some i) (Some j) = (nat_lt (rank_at ks i) (rank_at ks j) ≡ nat_lt (rank_at ls i) (rank_at ls j)) × (nat_lt (rank_at ks j) (rank_at ks i) ≡ nat_lt (rank_at ls j) (rank_at ls i))
SameOrderAt ks ls i j = Unit {0}

abbrev pub JoinedAlike : Type 0
JoinedAlike =
    (ps : List Point) (ks ls : List ℕ) (t : PlainTerm) → length ks ≡ length ps → length ls ≡ length ps → JoinTheSame (length ps) ks ls →
    Each (λ f g. SameOrderAt ks ls (place_of_form ps f) (place_of_form ps g)) (ranked ps ks) t →
    under (ranked ps ks) t ≡ under (ranked ps ls) t
