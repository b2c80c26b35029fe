-- Points put in order one by one are all of them in order.
use Rattle.std.proofs.Common.{◌≡◌, ◌+◌, ◌<◌, arith, length, map, drop, slice_index_or, ℕ, ℤ, Bool, true, false, cond, List, [], ◌∷◌, ◌++◌, refl, sym, ap, ◌∙◌, eqb}
use Rattle.std.specs.Prelude.{nat_lt, int_lt, ◌||◌, ◌&&◌}
use Rattle.ca_forms.specs.declared.sort.Sort.{Sort}
use Rattle.ca_forms.specs.declared.sort.Sort.TheVariants.{Long}
use Rattle.ca_norm.specs.Terms.{PlainTerm, PlainTerms, number, truth, null, atom, add, sub, neg, mul, divide, remainder, less, less_equal, same, not, and, or, choose, read, read_at, result, select, put, add_at, fold, sweep, no_terms, term_and, shape, terms_of}
use Rattle.ca_order.specs.declared.point.Point.{Point}
use Rattle.ca_order.specs.OrderSame.{side, atom_point, all_points, points_of_all, with_point, in_order, points_of}
use Rattle.std.specs.Ordering.{match_ordering, ordering_then}
use Rattle.std.proofs.Common.{Less, Equal, Greater}
use Rattle.std.specs.BTreeSet.{insert_key}
use Rattle.std.proofs.lemmas.List.{at_drop_more}
use Rattle.ca_meaning.specs.Operators.{same_int}
use Rattle.ca_norm.specs.declared.term.Term.{Term}
use Rattle.ca_order.specs.declared.point.Point.TheVariants as point
use Rattle.ca_order.specs.contracts.point.PointOrd.TheImpl as point_ord
use Rattle.ca_order.specs.Points.{same_point}
use Rattle.ca_order.specs.OrderSame.{comes_before}
use Rattle.ca_order.specs.clauses.Added.{added_side, added_atom, added, added_all}
use Rattle.ca_norm.proofs.Operations.{same_int_true as int_is, same_int_itself as int_itself}

abbrev onto : List Point → List Point → List Point
onto [] q = q
onto (p ∷ ps) q = with_point p (onto ps q)

onto_two : (xs ys q : List Point) → onto xs (onto ys q) ≡ onto (xs ++ ys) q
onto_two [] ys q = refl
onto_two (x ∷ xs) ys q = ap (with_point x) (onto_two xs ys q)

onto_order : (xs : List Point) → onto xs [] ≡ in_order xs
onto_order [] = refl
onto_order (x ∷ xs) = ap (with_point x) (onto_order xs)

side_onto : (t : PlainTerm) (q : List Point) → added_side t q ≡ onto (side t) q
side_onto (number n) q = refl
side_onto t q = refl

atom_onto : (s : Sort) (g n : ℕ) (q : List Point) → added_atom s g n q ≡ onto (atom_point s g n) q
atom_onto Long g n q = refl
atom_onto s g n q = refl

-- one part and then another
two : (F G : List Point → List Point) (xs ys : List Point) → ((q : List Point) → F q ≡ onto xs q) → ((q : List Point) → G q ≡ onto ys q) → (q : List Point) → F (G q) ≡ onto (xs ++ ys) q
two F G xs ys f g q = ap F (g q) ∙ f (onto ys q) ∙ onto_two xs ys q

mutual
  put_onto : (t : PlainTerm) (q : List Point) → added t q ≡ onto (all_points t) q
  put_onto (atom s g n) q = atom_onto s g n q
  put_onto (add a b) q = two (added a) (added b) (all_points a) (all_points b) (λ z. put_onto a z) (λ z. put_onto b z) q
  put_onto (sub a b) q = two (added a) (added b) (all_points a) (all_points b) (λ z. put_onto a z) (λ z. put_onto b z) q
  put_onto (neg a) q = put_onto a q
  put_onto (mul a b) q = two (added a) (added b) (all_points a) (all_points b) (λ z. put_onto a z) (λ z. put_onto b z) q
  put_onto (divide a n) q = put_onto a q
  put_onto (remainder a n) q = put_onto a q
  put_onto (less a b) q = two (λ z. added_side a (added_side b z)) (λ z. added a (added b z)) (side a ++ side b) (all_points a ++ all_points b) (two (added_side a) (added_side b) (side a) (side b) (side_onto a) (side_onto b)) (two (added a) (added b) (all_points a) (all_points b) (λ z. put_onto a z) (λ z. put_onto b z)) q
  put_onto (less_equal a b) q = two (λ z. added_side a (added_side b z)) (λ z. added a (added b z)) (side a ++ side b) (all_points a ++ all_points b) (two (added_side a) (added_side b) (side a) (side b) (side_onto a) (side_onto b)) (two (added a) (added b) (all_points a) (all_points b) (λ z. put_onto a z) (λ z. put_onto b z)) q
  put_onto (same a b) q = two (λ z. added_side a (added_side b z)) (λ z. added a (added b z)) (side a ++ side b) (all_points a ++ all_points b) (two (added_side a) (added_side b) (side a) (side b) (side_onto a) (side_onto b)) (two (added a) (added b) (all_points a) (all_points b) (λ z. put_onto a z) (λ z. put_onto b z)) q
  put_onto (not a) q = put_onto a q
  put_onto (and a b) q = two (added a) (added b) (all_points a) (all_points b) (λ z. put_onto a z) (λ z. put_onto b z) q
  put_onto (or a b) q = two (added a) (added b) (all_points a) (all_points b) (λ z. put_onto a z) (λ z. put_onto b z) q
  put_onto (choose c a b) q = two (added c) (λ z. added a (added b z)) (all_points c) (all_points a ++ all_points b) (λ z. put_onto c z) (two (added a) (added b) (all_points a) (all_points b) (λ z. put_onto a z) (λ z. put_onto b z)) q
  put_onto (read s p c f) q = put_onto p q
  put_onto (read_at s p c f i) q = two (added p) (added i) (all_points p) (all_points i) (λ z. put_onto p z) (λ z. put_onto i z) q
  put_onto (result s m p ts) q = two (added p) (added_all ts) (all_points p) (points_of_all ts) (λ z. put_onto p z) (λ z. put_all ts z) q
  put_onto (select a i) q = two (added a) (added i) (all_points a) (all_points i) (λ z. put_onto a z) (λ z. put_onto i z) q
  put_onto (put a i x) q = two (added a) (λ z. added i (added x z)) (all_points a) (all_points i ++ all_points x) (λ z. put_onto a z) (two (added i) (added x) (all_points i) (all_points x) (λ z. put_onto i z) (λ z. put_onto x z)) q
  put_onto (add_at a i x) q = two (added a) (λ z. added i (added x z)) (all_points a) (all_points i ++ all_points x) (λ z. put_onto a z) (two (added i) (added x) (all_points i) (all_points x) (λ z. put_onto i z) (λ z. put_onto x z)) q
  put_onto (fold o a b) q = two (added a) (added b) (all_points a) (all_points b) (λ z. put_onto a z) (λ z. put_onto b z) q
  put_onto (sweep a f t x) q =
      two (added a) (λ z. added f (added t (added x z))) (all_points a) (all_points f ++ (all_points t ++ all_points x)) (λ z. put_onto a z)
      (two (added f) (λ z. added t (added x z)) (all_points f) (all_points t ++ all_points x) (λ z. put_onto f z) (two (added t) (added x) (all_points t) (all_points x) (λ z. put_onto t z) (λ z. put_onto x z))) q
  put_onto (number n) q = refl
  put_onto (truth b) q = refl
  put_onto null q = refl

  put_all : (ts : PlainTerms) (q : List Point) → added_all ts q ≡ onto (points_of_all ts) q
  put_all no_terms q = refl
  put_all (term_and t ts) q = two (added t) (added_all ts) (all_points t) (points_of_all ts) (λ z. put_onto t z) (λ z. put_all ts z) q

pub points_are : (t u : PlainTerm) → added t (added u []) ≡ points_of t u
points_are t u = two (added t) (added u) (all_points t) (all_points u) (put_onto t) (put_onto u) [] ∙ onto_order (all_points t ++ all_points u)

-- a point is put into a set as into a list
abbrev neither : Bool → Bool → Bool
neither true d = false
neither false true = false
neither false false = true

int_same : (m n : ℤ) → same_int m n ≡ neither (int_lt m n) (int_lt n m)
int_same m n = by (int_lt m n) (int_lt n m) (same_int m n) refl refl refl
  where
    not_less : (z : ℤ) → int_lt z z ≡ false
    not_less z = grind arith

    one : int_lt m n ≡ false → int_lt n m ≡ false → m ≡ n
    one e f = grind arith

    by : (b d e : Bool) → int_lt m n ≡ b → int_lt n m ≡ d → same_int m n ≡ e → e ≡ neither b d
    by true d true e f k = absurd (let z : int_lt m n ≡ false = ap (λ x. int_lt x n) (int_is m n k) ∙ not_less n in cc)
    by true d false e f k = refl
    by false true true e f k = absurd (let z : int_lt n m ≡ false = ap (λ x. int_lt n x) (int_is m n k) ∙ not_less n in cc)
    by false true false e f k = refl
    by false false true e f k = refl
    by false false false e f k = absurd (let z : same_int m n ≡ true = ap (λ x. same_int x n) (one e f) ∙ int_itself n in cc)

cmp_is : (p q : Point) {X : Type 0} (a b c : X) → match_ordering (point_ord.cmp-value.it p q) a b c ≡ cond (comes_before p q) a (cond (same_point p q) b c)
cmp_is (point.Number m) (point.Number n) {X} a b c = by (int_lt m n) (int_lt n m) ∙ ap (λ e. cond (int_lt m n) a (cond e b c)) (sym (int_same m n))
  where
    by : (x y : Bool) → match_ordering (cond x Less (cond y Greater Equal)) a b c ≡ cond x a (cond (neither x y) b c)
    by true y = refl
    by false true = refl
    by false false = refl
cmp_is (point.Number m) (point.Atom h n) a b c = refl
cmp_is (point.Atom g m) (point.Number n) a b c = refl
cmp_is (point.Atom g m) (point.Atom h n) {X} a b c =
    by (nat_lt g h) (eqb g h) (nat_lt m n) (eqb m n)
  where
    by : (x y z w : Bool) → match_ordering (ordering_then (cond x Less (cond y Equal Greater)) (cond z Less (cond w Equal Greater))) a b c ≡ cond (x || (y && z)) a (cond (y && w) b c)
    by true y z w = refl
    by false true true w = refl
    by false true false true = refl
    by false true false false = refl
    by false false z w = refl

pub put_in : (p : Point) (qs : List Point) → insert_key point_ord.cmp-value.it qs p ≡ with_point p qs
put_in p [] = refl
put_in p (q ∷ qs) = cmp_is p q (p ∷ q ∷ qs) (q ∷ qs) (q ∷ insert_key point_ord.cmp-value.it qs p) ∙ ap (λ z. cond (comes_before p q) (p ∷ q ∷ qs) (cond (same_point p q) (q ∷ qs) (q ∷ z))) (put_in p qs)

-- the arguments of a call, the last first
pub one_before : (ts : List Term) (i : ℕ) (q : List Point) (x : Term) → i < length ts → x ≡ slice_index_or ts i x → added (shape x) (added_all (terms_of (map shape (drop (i + 1) ts))) q) ≡ added_all (terms_of (map shape (drop i ts))) q
one_before ts i q x l e = sym (at_drop_more (λ zs. added_all (terms_of (map shape zs)) q) ts i x l ∙ ap (λ z. added_all (terms_of (map shape (z ∷ drop (i + 1) ts))) q) (sym e))
