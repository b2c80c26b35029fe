-- Under an order that a valuation meets, a term means what it means, and it keeps its sort.
use Rattle.std.proofs.Common.{◌≡◌, ℕ, suc, ℤ, Bool, true, false, cond, List, [], ◌∷◌, Option, Some, None, refl, sym, ap, ap₂, ◌∙◌, arith, subst, eqb, Less, Equal}
use Rattle.std.specs.Prelude.{nat_lt, nat_eq, Contains, ◌&&◌}
use Rattle.std.specs.Ordering.{is_eq}
use Rattle.ca_tree.specs.declared.tree.BinaryOp.TheVariants as op
use Rattle.ca_tree.specs.declared.tree.UnaryOp.TheVariants as sign
use Rattle.ca_model.specs.declared.value.Value.{Value as Datum}
use Rattle.ca_model.specs.declared.value.Value.TheVariants as datum
use Rattle.ca_meaning.specs.Operators.{same_int, not_of, signed}
use Rattle.ca_forms.specs.declared.sort.Sort.{Sort}
use Rattle.ca_forms.specs.declared.sort.Sort.TheVariants.{Long, Bool as Truth, Pointer, LongArray}
use Rattle.ca_forms.specs.declared.form.Normal.TheVariants as normal
use Rattle.ca_forms.specs.Plain.{PlainPolynomial, number_form}
use Rattle.ca_forms.specs.Compare.{polynomial_cmp}
use Rattle.ca_forms.specs.Rules.{gathered}
use Rattle.ca_forms.proofs.Exact.{polynomial_same}
use Rattle.ca_norm.specs.Terms.{PlainTerm, PlainTerms, number, truth, null, atom, add, sub, neg, mul, divide, remainder, less, less_equal, same, not, and, or, choose, read, read_at, result, select, put, add_at, fold, sweep, no_terms, term_and, sort_of, item_sort, IsScalar, IsArray, IsOf, AreSorted}
use Rattle.ca_norm.specs.Forms.{expand, norm, form_at}
use Rattle.ca_norm.specs.Meanings.{Valuation, IsOfSort, operate, binary_of, chosen, number_of, between, mean, item_mean, means}
use Rattle.ca_norm.proofs.Values.{same_forms, sort_is}
use Rattle.ca_order.specs.declared.point.Point.{Point}
use Rattle.ca_order.specs.declared.point.Point.TheVariants as point
use Rattle.ca_order.specs.Points.{point_term, form_of, value_of, same_point, FitsPoint, Ranked}
use Rattle.ca_order.specs.Under.{rank_of, first_of_rank, first_like, leader, rank_of_form, decided, rank_of_term, atom_under, not_more, same_under, under, all_under, Meets, AreFit}
use Rattle.ca_norm.proofs.Operations.{same_int_true}
use Rattle.ca_folds.proofs.Laws.{same_number as nat_eq_true}
use Rattle.ca_folds.proofs.Rising.{eq_true as tied}
use Rattle.ca_forms.proofs.Made.{equal as nat_eq_itself}

pub here : {A : Type 0} (x : A) (xs : List A) → Contains (x ∷ xs) x
here x xs = (0, omega arith, refl)

pub there : {A : Type 0} (x y : A) (xs : List A) → Contains xs y → Contains (x ∷ xs) y
there x y xs h = let lt = h.1 in (suc h.0, omega arith, h.2)

pub of_own_sort : (s : Sort) (t : PlainTerm) → IsOf s t → IsOf (sort_of t) t
of_own_sort s t i = subst (λ z. IsOf z t) (sym (sort_is s t i)) i

pub both_true : (a b : Bool) → a && b ≡ true → (a ≡ true) × (b ≡ true)
both_true true b e = (refl, e)
both_true false b e = cc

pub point_is : (p q : Point) → same_point p q ≡ true → p ≡ q
point_is (point.Number m) (point.Number n) e = ap point.Number (same_int_true m n e)
point_is (point.Atom g m) (point.Atom h n) e = let parts = both_true (eqb g h) (eqb m n) e in ap₂ point.Atom (nat_eq_true g h parts.0) (nat_eq_true m n parts.1)
point_is (point.Number m) (point.Atom h n) e = cc
point_is (point.Atom g m) (point.Number n) e = cc

-- a point and its rank
data HasRank (r : Ranked) (p : Point) : Option ℕ → Type 0 where
  unranked : HasRank r p None
  ranked : (x : Point × ℕ) → Contains r x → p ≡ x.0 → HasRank r p (Some x.1)

rank_if : (x : Point × ℕ) (xs : Ranked) (p : Point) (b : Bool) (o : Option ℕ) → same_point p x.0 ≡ b → HasRank xs p o → HasRank (x ∷ xs) p (cond b (Some x.1) o)
rank_if x xs p true o e h = ranked x (here x xs) (point_is p x.0 e)
rank_if x xs p false None e h = unranked
rank_if x xs p false (Some _) e (ranked y at is) = ranked y (there x y xs at) is

has_rank : (r : Ranked) (p : Point) → HasRank r p (rank_of r p)
has_rank [] p = unranked
has_rank (x ∷ xs) p = rank_if x xs p (same_point p x.0) (rank_of xs p) refl (has_rank xs p)

-- the first point of a rank
data IsFirst (r : Ranked) (p : Point) (k : ℕ) : Point → Type 0 where
  itself : IsFirst r p k p
  that : (x : Point × ℕ) → Contains r x → x.1 ≡ k → IsFirst r p k x.0

first_more : (x : Point × ℕ) (xs : Ranked) (p : Point) (k : ℕ) (q : Point) → IsFirst xs p k q → IsFirst (x ∷ xs) p k q
first_more x xs p k _ itself = itself
first_more x xs p k _ (that y at is) = that y (there x y xs at) is

first_if : (x : Point × ℕ) (xs : Ranked) (p : Point) (k : ℕ) (b : Bool) (q : Point) → nat_eq x.1 k ≡ b → IsFirst xs p k q → IsFirst (x ∷ xs) p k (cond b x.0 q)
first_if x xs p k true q e h = that x (here x xs) (nat_eq_true x.1 k e)
first_if x xs p k false q e h = first_more x xs p k q h

is_first : (r : Ranked) (p : Point) (k : ℕ) → IsFirst r p k (first_of_rank r p k)
is_first [] p k = itself
is_first (x ∷ xs) p k = first_if x xs p k (nat_eq x.1 k) (first_of_rank xs p k) refl (is_first xs p k)

-- the point of a form, and its rank
data FormRank (r : Ranked) (f : PlainPolynomial) : Option ℕ → Type 0 where
  no_point : FormRank r f None
  of_point : (x : Point × ℕ) → Contains r x → f ≡ form_of x.0 → FormRank r f (Some x.1)

form_if : (x : Point × ℕ) (xs : Ranked) (f : PlainPolynomial) (b : Bool) (o : Option ℕ) → is_eq (polynomial_cmp f (form_of x.0)) ≡ b → FormRank xs f o → FormRank (x ∷ xs) f (cond b (Some x.1) o)
form_if x xs f true o e h = of_point x (here x xs) (polynomial_same f (form_of x.0) (tied _ e))
form_if x xs f false None e h = no_point
form_if x xs f false (Some _) e (of_point y at is) = of_point y (there x y xs at) is

form_rank : (r : Ranked) (f : PlainPolynomial) → FormRank r f (rank_of_form r f)
form_rank [] f = no_point
form_rank (x ∷ xs) f = form_if x xs f (is_eq (polynomial_cmp f (form_of x.0))) (rank_of_form xs f) refl (form_rank xs f)

pub point_sorted : (p : Point) → FitsPoint p → IsOf Long (point_term p)
point_sorted (point.Number n) h = (refl, h)
point_sorted (point.Atom g n) h = refl

pub point_norm : (p : Point) → norm (point_term p) ≡ normal.Scalar (number_form (form_of p))
point_norm (point.Number n) = refl
point_norm (point.Atom g n) = refl

pub long_is : (d : Datum) → IsOfSort Long d → d ≡ datum.Long (number_of d)
long_is (datum.Long n) h = refl
long_is (datum.Bool b) h = absurd h
long_is datum.Null h = absurd h
long_is (datum.Ref n) h = absurd h

module _ (r : Ranked) (fit : AreFit r) where
  leader_fits : (p : Point) → FitsPoint p → FitsPoint (leader r p)
  leader_fits p h = by (rank_of r p)
    where
      first : (k : ℕ) (q : Point) → IsFirst r p k q → FitsPoint q
      first k _ itself = h
      first k _ (that x at is) = fit x at

      by : (o : Option ℕ) → FitsPoint (first_like r p o)
      by None = h
      by (Some k) = first k (first_of_rank r p k) (is_first r p k)

  atom_sorted : (s t : Sort) (g n : ℕ) → t ≡ s → IsOf s (atom_under r t g n)
  atom_sorted s Long g n e = subst (λ z. IsOf z (atom_under r Long g n)) e (point_sorted (leader r (point.Atom g n)) (leader_fits (point.Atom g n) tt))
  atom_sorted s t g n e = e

  decided_sorted : (j k : Option ℕ) (test : ℕ → ℕ → Bool) (t : PlainTerm) → IsOf Truth t → IsOf Truth (decided j k test t)
  decided_sorted (Some m) (Some n) test t i = refl
  decided_sorted (Some m) None test t i = i
  decided_sorted None k test t i = i

  same_sorted : (s : Sort) (a b : PlainTerm) → IsScalar s → IsOf s a → IsOf s b → IsOf Truth (same_under r s a b)
  same_sorted s a b w i j = by s w i j
    where
      plain : (z : Sort) → IsScalar z → IsOf z a → IsOf z b → IsOf Truth (same a b)
      plain z x k l =
          let e = sort_is z a k in
          (refl, subst IsScalar (sym e) x, subst (λ y. IsOf y a) (sym e) k, subst (λ y. IsOf y b) (sym e) l)

      by : (z : Sort) → IsScalar z → IsOf z a → IsOf z b → IsOf Truth (same_under r z a b)
      by Long x k l = decided_sorted (rank_of_term r a) (rank_of_term r b) nat_eq (same a b) (plain Long x k l)
      by z x k l = plain z x k l

  mutual
    pub sorted : (s : Sort) (t : PlainTerm) → IsOf s t → IsOf s (under r t)
    sorted s (number n) i = i
    sorted s (truth b) i = i
    sorted s null i = i
    sorted s (atom t g n) i = atom_sorted s t g n i
    sorted s (add a b) i = (i.0, sorted Long a i.1, sorted Long b i.2)
    sorted s (sub a b) i = (i.0, sorted Long a i.1, sorted Long b i.2)
    sorted s (neg a) i = (i.0, sorted Long a i.1)
    sorted s (mul a b) i = (i.0, sorted Long a i.1, sorted Long b i.2)
    sorted s (divide a n) i = (i.0, sorted Long a i.1, i.2, i.3)
    sorted s (remainder a n) i = (i.0, sorted Long a i.1, i.2, i.3)
    sorted s (less a b) i = subst (λ z. IsOf z (under r (less a b))) (sym i.0) (decided_sorted _ _ nat_lt (less (under r a) (under r b)) (refl, sorted Long a i.1, sorted Long b i.2))
    sorted s (less_equal a b) i = subst (λ z. IsOf z (under r (less_equal a b))) (sym i.0) (decided_sorted _ _ not_more (less_equal (under r a) (under r b)) (refl, sorted Long a i.1, sorted Long b i.2))
    sorted s (same a b) i = subst (λ z. IsOf z (under r (same a b))) (sym i.0) (same_sorted (sort_of a) (under r a) (under r b) i.1 (sorted (sort_of a) a i.2) (sorted (sort_of a) b i.3))
    sorted s (not a) i = (i.0, sorted Truth a i.1)
    sorted s (and a b) i = (i.0, sorted Truth a i.1, sorted Truth b i.2)
    sorted s (or a b) i = (i.0, sorted Truth a i.1, sorted Truth b i.2)
    sorted s (choose c a b) i = (sorted Truth c i.0, sorted s a i.1, sorted s b i.2)
    sorted s (read t p c f) i = (i.0, i.1, sorted Pointer p i.2)
    sorted s (read_at t p c f j) i = (i.0, i.1, sorted Pointer p i.2, sorted Long j i.3)
    sorted s (result t m p ts) i = (i.0, i.1, sorted Pointer p i.2, all_sorted ts i.3)
    sorted s (select a j) i =
        let x : IsOf (sort_of a) (under r a) = sorted (sort_of a) a i.2 in
        let e : sort_of (under r a) ≡ sort_of a = sort_is (sort_of a) (under r a) x in
        (subst IsArray (sym e) i.0, i.1 ∙ ap item_sort (sym e), subst (λ z. IsOf z (under r a)) (sym e) x, sorted Long j i.3)
    sorted s (put a j x) i = (i.0, sorted s a i.1, sorted Long j i.2, sorted (item_sort s) x i.3)
    sorted s (add_at a j x) i = (i.0, sorted LongArray a i.1, sorted Long j i.2, sorted Long x i.3)
    sorted s (fold o a b) i = (i.0, sorted Long a i.1, sorted Long b i.2)
    sorted s (sweep a f t x) i = (i.0, sorted LongArray a i.1, sorted Long f i.2, sorted Long t i.3, sorted Long x i.4)

    all_sorted : (ts : PlainTerms) → AreSorted ts → AreSorted (all_under r ts)
    all_sorted no_terms i = tt
    all_sorted (term_and t ts) i =
        let x : IsOf (sort_of t) (under r t) = sorted (sort_of t) t i.1 in
        let e : sort_of (under r t) ≡ sort_of t = sort_is (sort_of t) (under r t) x in
        (subst IsScalar (sym e) i.0, subst (λ z. IsOf z (under r t)) (sym e) x, all_sorted ts i.2)

  module _ (v : Valuation) (meets : Meets v r) where
    point_means : (p : Point) → mean v (point_term p) ≡ datum.Long (value_of v p)
    point_means (point.Number n) = refl
    point_means (point.Atom g n) = long_is (v.value Long g n) (v.sorted Long g n)

    leader_value : (p : Point) → value_of v (leader r p) ≡ value_of v p
    leader_value p = by (rank_of r p) (has_rank r p)
      where
        first : (x : Point × ℕ) → Contains r x → p ≡ x.0 → (q : Point) → IsFirst r p x.1 q → value_of v q ≡ value_of v p
        first x at is _ itself = refl
        first x at is _ (that y near alike) =
            same_int_true (value_of v y.0) (value_of v p) (ap (λ z. same_int (value_of v y.0) (value_of v z)) is ∙ sym (meets y x near at).same ∙ nat_eq_itself y.1 x.1 alike)

        by : (o : Option ℕ) → HasRank r p o → value_of v (first_like r p o) ≡ value_of v p
        by None h = refl
        by (Some _) (ranked x at is) = first x at is (first_of_rank r p x.1) (is_first r p x.1)

    atom_means : (s : Sort) (g n : ℕ) → mean v (atom_under r s g n) ≡ v.value s g n
    atom_means Long g n = point_means (leader r (point.Atom g n)) ∙ ap datum.Long (leader_value (point.Atom g n)) ∙ sym (point_means (point.Atom g n))
    atom_means s g n = refl

    -- a side that has the form of a point means its number
    side_means : (a : PlainTerm) (p : Point) → IsOf Long a → gathered (expand a) ≡ form_of p → FitsPoint p → mean v a ≡ datum.Long (value_of v p)
    side_means a p i e h =
        let form : norm a ≡ norm (point_term p) = ap (λ s. form_at s a) (sort_is Long a i) ∙ ap (λ f. normal.Scalar (number_form f)) e ∙ sym (point_norm p) in
        same_forms v a (point_term p) (of_own_sort Long a i) (of_own_sort Long (point_term p) (point_sorted p h)) form ∙ point_means p

    module _ (a b : PlainTerm) (i : IsOf Long a) (l : IsOf Long b) where
      less_means : (j k : Option ℕ) → FormRank r (gathered (expand a)) j → FormRank r (gathered (expand b)) k → mean v (decided j k nat_lt (less a b)) ≡ operate op.Less (mean v a) (mean v b)
      less_means (Some _) (Some _) (of_point x at is) (of_point y near alike) =
          ap datum.Bool (meets x y at near).less ∙ sym (ap₂ (operate op.Less) (side_means a x.0 i is (fit x at)) (side_means b y.0 l alike (fit y near)))
      less_means (Some m) None g h = refl
      less_means None k g h = refl

      not_more_means : (j k : Option ℕ) → FormRank r (gathered (expand a)) j → FormRank r (gathered (expand b)) k → mean v (decided j k not_more (less_equal a b)) ≡ operate op.LessEqual (mean v a) (mean v b)
      not_more_means (Some _) (Some _) (of_point x at is) (of_point y near alike) =
          ap (λ z. datum.Bool (not_of z)) (meets y x near at).less ∙ sym (ap₂ (operate op.LessEqual) (side_means a x.0 i is (fit x at)) (side_means b y.0 l alike (fit y near)))
      not_more_means (Some m) None g h = refl
      not_more_means None k g h = refl

      equal_means : (j k : Option ℕ) → FormRank r (gathered (expand a)) j → FormRank r (gathered (expand b)) k → mean v (decided j k nat_eq (same a b)) ≡ operate op.Equal (mean v a) (mean v b)
      equal_means (Some _) (Some _) (of_point x at is) (of_point y near alike) =
          ap datum.Bool (meets x y at near).same ∙ sym (ap₂ (operate op.Equal) (side_means a x.0 i is (fit x at)) (side_means b y.0 l alike (fit y near)))
      equal_means (Some m) None g h = refl
      equal_means None k g h = refl

    same_means : (s : Sort) (a b : PlainTerm) → IsOf s a → IsOf s b → mean v (same_under r s a b) ≡ operate op.Equal (mean v a) (mean v b)
    same_means Long a b i j = equal_means a b i j _ _ (form_rank r (gathered (expand a))) (form_rank r (gathered (expand b)))
    same_means s a b i j = refl

    mutual
      pub under_means : (s : Sort) (t : PlainTerm) → IsOf s t → mean v (under r t) ≡ mean v t
      under_means s (number n) i = refl
      under_means s (truth b) i = refl
      under_means s null i = refl
      under_means s (atom t g n) i = atom_means t g n
      under_means s (add a b) i = ap₂ (operate op.Plus) (under_means Long a i.1) (under_means Long b i.2)
      under_means s (sub a b) i = ap₂ (operate op.Minus) (under_means Long a i.1) (under_means Long b i.2)
      under_means s (neg a) i = ap (signed sign.Minus) (under_means Long a i.1)
      under_means s (mul a b) i = ap₂ (operate op.Times) (under_means Long a i.1) (under_means Long b i.2)
      under_means s (divide a n) i = ap (λ z. operate op.Divide z (datum.Long n)) (under_means Long a i.1)
      under_means s (remainder a n) i = ap (λ z. operate op.Remainder z (datum.Long n)) (under_means Long a i.1)
      under_means s (less a b) i =
          less_means (under r a) (under r b) (sorted Long a i.1) (sorted Long b i.2) _ _ (form_rank r (gathered (expand (under r a)))) (form_rank r (gathered (expand (under r b))))
          ∙ ap₂ (operate op.Less) (under_means Long a i.1) (under_means Long b i.2)
      under_means s (less_equal a b) i =
          not_more_means (under r a) (under r b) (sorted Long a i.1) (sorted Long b i.2) _ _ (form_rank r (gathered (expand (under r a)))) (form_rank r (gathered (expand (under r b))))
          ∙ ap₂ (operate op.LessEqual) (under_means Long a i.1) (under_means Long b i.2)
      under_means s (same a b) i =
          same_means (sort_of a) (under r a) (under r b) (sorted (sort_of a) a i.2) (sorted (sort_of a) b i.3)
          ∙ ap₂ (operate op.Equal) (under_means (sort_of a) a i.2) (under_means (sort_of a) b i.3)
      under_means s (not a) i = ap (signed sign.Not) (under_means Truth a i.1)
      under_means s (and a b) i = ap₂ (operate op.And) (under_means Truth a i.1) (under_means Truth b i.2)
      under_means s (or a b) i = ap₂ (operate op.Or) (under_means Truth a i.1) (under_means Truth b i.2)
      under_means s (choose c a b) i = ap (λ z. chosen z (mean v (under r a)) (mean v (under r b))) (under_means Truth c i.0) ∙ ap₂ (chosen (mean v c)) (under_means s a i.1) (under_means s b i.2)
      under_means s (read t p c f) i = ap (λ z. v.read t z c f) (under_means Pointer p i.2)
      under_means s (read_at t p c f j) i = ap₂ (λ y z. v.read_at t y c f z) (under_means Pointer p i.2) (under_means Long j i.3)
      under_means s (result t m p ts) i = ap₂ (v.result t m) (under_means Pointer p i.2) (all_mean ts i.3)
      under_means s (select a j) i = ap (λ z. item_mean v (under r a) (number_of z)) (under_means Long j i.3) ∙ items_mean (sort_of a) a (number_of (mean v j)) i.0 i.2
      under_means s (put a j x) i = refl
      under_means s (add_at a j x) i = refl
      under_means s (sweep a f t x) i = refl
      under_means s (fold o a b) i = ap₂ (operate (binary_of o)) (under_means Long a i.1) (under_means Long b i.2)

      all_mean : (ts : PlainTerms) → AreSorted ts → means v (all_under r ts) ≡ means v ts
      all_mean no_terms i = refl
      all_mean (term_and t ts) i = ap₂ (λ x xs. x ∷ xs) (under_means (sort_of t) t i.1) (all_mean ts i.2)

      pub items_mean : (s : Sort) (t : PlainTerm) (k : ℤ) → IsArray s → IsOf s t → item_mean v (under r t) k ≡ item_mean v t k
      items_mean s (atom Long g n) k w i = absurd (subst IsArray (sym i) w)
      items_mean s (atom t g n) k w i = refl
      items_mean s (less a b) k w i = absurd (subst IsArray i.0 w)
      items_mean s (less_equal a b) k w i = absurd (subst IsArray i.0 w)
      items_mean s (same a b) k w i = absurd (subst IsArray i.0 w)
      items_mean s (choose c a b) k w i = ap (λ z. chosen z (item_mean v (under r a) k) (item_mean v (under r b) k)) (under_means Truth c i.0) ∙ ap₂ (chosen (mean v c)) (items_mean s a k w i.1) (items_mean s b k w i.2)
      items_mean s (put a j x) k w i =
          ap (λ z. cond (same_int (number_of z) k) (mean v (under r x)) (item_mean v (under r a) k)) (under_means Long j i.2) ∙ ap₂ (cond (same_int (number_of (mean v j)) k)) (under_means (item_sort s) x i.3) (items_mean s a k w i.1)
      items_mean s (add_at a j x) k w i =
          ap (λ z. cond (same_int (number_of z) k) (operate op.Plus (item_mean v (under r a) k) (mean v (under r x))) (item_mean v (under r a) k)) (under_means Long j i.2)
          ∙ ap₂ (λ y z. cond (same_int (number_of (mean v j)) k) (operate op.Plus y z) y) (items_mean LongArray a k tt i.1) (under_means Long x i.3)
      items_mean s (sweep a f t x) k w i =
          ap₂ (λ y z. cond (between (number_of y) (number_of z) k) (operate op.Plus (item_mean v (under r a) k) (mean v (under r x))) (item_mean v (under r a) k)) (under_means Long f i.2) (under_means Long t i.3)
          ∙ ap₂ (λ y z. cond (between (number_of (mean v f)) (number_of (mean v t)) k) (operate op.Plus y z) y) (items_mean LongArray a k tt i.1) (under_means Long x i.4)
      items_mean s t k w i = refl
