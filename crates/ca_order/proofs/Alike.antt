-- Orders that are alike for a term make the same of it.
use Rattle.std.proofs.Common.{◌≡◌, ℕ, zero, suc, ◌<◌, Bool, true, false, cond, List, [], ◌∷◌, length, refl, sym, ap, ap₂, ◌∙◌, arith}
use Rattle.std.specs.Prelude.{nat_lt, nat_eq, Option, Some, None}
use Rattle.std.specs.Ordering.{is_eq}
use Rattle.ca_meaning.specs.Operators.{not_of}
use Rattle.ca_forms.specs.declared.sort.Sort.{Sort}
use Rattle.ca_forms.specs.declared.sort.Sort.TheVariants.{Long}
use Rattle.ca_forms.specs.Plain.{PlainPolynomial}
use Rattle.ca_forms.specs.Compare.{polynomial_cmp}
use Rattle.ca_forms.specs.Rules.{gathered}
use Rattle.ca_norm.specs.Terms.{PlainTerm, PlainTerms, number, truth, null, atom, add, sub, neg, mul, divide, remainder, less, less_equal, same, not, and, or, choose, read, read_at, result, select, put, add_at, fold, sweep, no_terms, term_and, sort_of}
use Rattle.ca_norm.specs.Forms.{expand}
use Rattle.ca_order.specs.declared.point.Point.{Point}
use Rattle.ca_order.specs.declared.point.Point.TheVariants as point
use Rattle.ca_order.specs.Points.{Ranked, form_of, point_term, same_point}
use Rattle.ca_order.specs.Rankings.{ranked}
use Rattle.ca_order.specs.Under.{leader, first_like, first_of_rank, rank_of, rank_of_form, rank_of_term, decided, not_more, atom_under, same_under, under, all_under}
use Rattle.ca_order.specs.Alike.{compared, outcome, form_under, of_numbers, Each, EachOf, next, place_of_form, rank_at, JoinTheSame, SameOrderAt}

-- a decision, from how two ranks compare
abbrev decide : (Bool × Bool × Bool → Bool) → Option (Bool × Bool × Bool) → PlainTerm → PlainTerm
decide test (Some w) t = truth (test w)
decide test None t = t

less_decided : (j k : Option ℕ) (t : PlainTerm) → decided j k nat_lt t ≡ decide (λ w. w.0) (compared j k) t
less_decided (Some m) (Some n) t = refl
less_decided (Some m) None t = refl
less_decided None k t = refl

same_decided : (j k : Option ℕ) (t : PlainTerm) → decided j k nat_eq t ≡ decide (λ w. w.1) (compared j k) t
same_decided (Some m) (Some n) t = refl
same_decided (Some m) None t = refl
same_decided None k t = refl

not_more_decided : (j k : Option ℕ) (t : PlainTerm) → decided j k not_more t ≡ decide (λ w. not_of w.2) (compared j k) t
not_more_decided (Some m) (Some n) t = refl
not_more_decided (Some m) None t = refl
not_more_decided None k t = refl

module _ (r s : Ranked) (lead : (p : Point) → leader r p ≡ leader s p) where
  abbrev P : PlainPolynomial → PlainPolynomial → Type 0
  P f g = outcome r f g ≡ outcome s f g

  atoms_same : (k : Sort) (g n : ℕ) → atom_under r k g n ≡ atom_under s k g n
  atoms_same Long g n = ap point_term (lead (point.Atom g n))
  atoms_same k g n = refl

  abbrev rank : Ranked → PlainTerm → Option ℕ
  rank z a = rank_of_term z a

  less_same : (a b x y : PlainTerm) → a ≡ x → b ≡ y → P (gathered (expand a)) (gathered (expand b)) → decided (rank r a) (rank r b) nat_lt (less a b) ≡ decided (rank s x) (rank s y) nat_lt (less x y)
  less_same a b x y e f h =
      less_decided (rank r a) (rank r b) (less a b) ∙ ap (λ z. decide (λ w. w.0) z (less a b)) h ∙ sym (less_decided (rank s a) (rank s b) (less a b))
      ∙ ap₂ (λ u v. decided (rank s u) (rank s v) nat_lt (less u v)) e f

  less_equal_same : (a b x y : PlainTerm) → a ≡ x → b ≡ y → P (gathered (expand a)) (gathered (expand b)) → decided (rank r a) (rank r b) not_more (less_equal a b) ≡ decided (rank s x) (rank s y) not_more (less_equal x y)
  less_equal_same a b x y e f h =
      not_more_decided (rank r a) (rank r b) (less_equal a b) ∙ ap (λ z. decide (λ w. not_of w.2) z (less_equal a b)) h ∙ sym (not_more_decided (rank s a) (rank s b) (less_equal a b))
      ∙ ap₂ (λ u v. decided (rank s u) (rank s v) not_more (less_equal u v)) e f

  equal_same : (k : Sort) (a b x y : PlainTerm) → a ≡ x → b ≡ y → of_numbers k (P (gathered (expand a)) (gathered (expand b))) → same_under r k a b ≡ same_under s k x y
  equal_same Long a b x y e f h =
      same_decided (rank r a) (rank r b) (same a b) ∙ ap (λ z. decide (λ w. w.1) z (same a b)) h ∙ sym (same_decided (rank s a) (rank s b) (same a b))
      ∙ ap₂ (λ u v. decided (rank s u) (rank s v) nat_eq (same u v)) e f
  equal_same k a b x y e f h = ap₂ same e f

  mutual
    makes_same : (t : PlainTerm) → Each P r t → under r t ≡ under s t
    makes_same (atom k g n) h = atoms_same k g n
    makes_same (add a b) h = ap₂ add (makes_same a h.0) (makes_same b h.1)
    makes_same (sub a b) h = ap₂ sub (makes_same a h.0) (makes_same b h.1)
    makes_same (neg a) h = ap neg (makes_same a h)
    makes_same (mul a b) h = ap₂ mul (makes_same a h.0) (makes_same b h.1)
    makes_same (divide a n) h = ap (λ z. divide z n) (makes_same a h)
    makes_same (remainder a n) h = ap (λ z. remainder z n) (makes_same a h)
    makes_same (less a b) h = less_same (under r a) (under r b) (under s a) (under s b) (makes_same a h.0) (makes_same b h.1) h.2
    makes_same (less_equal a b) h = less_equal_same (under r a) (under r b) (under s a) (under s b) (makes_same a h.0) (makes_same b h.1) h.2
    makes_same (same a b) h = equal_same (sort_of a) (under r a) (under r b) (under s a) (under s b) (makes_same a h.0) (makes_same b h.1) h.2
    makes_same (not a) h = ap not (makes_same a h)
    makes_same (and a b) h = ap₂ and (makes_same a h.0) (makes_same b h.1)
    makes_same (or a b) h = ap₂ or (makes_same a h.0) (makes_same b h.1)
    makes_same (choose c a b) h = ap (λ z. choose z (under r a) (under r b)) (makes_same c h.0) ∙ ap₂ (choose (under s c)) (makes_same a h.1) (makes_same b h.2)
    makes_same (read k p c f) h = ap (λ z. read k z c f) (makes_same p h)
    makes_same (read_at k p c f i) h = ap₂ (λ y z. read_at k y c f z) (makes_same p h.0) (makes_same i h.1)
    makes_same (result k m p ts) h = ap₂ (result k m) (makes_same p h.0) (all_same ts h.1)
    makes_same (select a i) h = ap₂ select (makes_same a h.0) (makes_same i h.1)
    makes_same (put a i x) h = ap (λ z. put z (under r i) (under r x)) (makes_same a h.0) ∙ ap₂ (put (under s a)) (makes_same i h.1) (makes_same x h.2)
    makes_same (add_at a i x) h = ap (λ z. add_at z (under r i) (under r x)) (makes_same a h.0) ∙ ap₂ (add_at (under s a)) (makes_same i h.1) (makes_same x h.2)
    makes_same (fold o a b) h = ap₂ (fold o) (makes_same a h.0) (makes_same b h.1)
    makes_same (sweep a f t x) h =
        ap₂ (λ y z. sweep y z (under r t) (under r x)) (makes_same a h.0) (makes_same f h.1) ∙ ap₂ (sweep (under s a) (under s f)) (makes_same t h.2) (makes_same x h.3)
    makes_same (number n) h = refl
    makes_same (truth b) h = refl
    makes_same null h = refl

    all_same : (ts : PlainTerms) → EachOf P r ts → all_under r ts ≡ all_under s ts
    all_same no_terms h = refl
    all_same (term_and t ts) h = ap₂ term_and (makes_same t h.0) (all_same ts h.1)

pub alike_orders : (r s : Ranked) (t : PlainTerm) → ((p : Point) → leader r p ≡ leader s p) → Each (λ f g. outcome r f g ≡ outcome s f g) r t → under r t ≡ under s t
alike_orders r s t lead h = makes_same r s lead t h

-- What holds of each

module _ (P Q : PlainPolynomial → PlainPolynomial → Type 0) (more : (f g : PlainPolynomial) → P f g → Q f g) (r : Ranked) where
  numbers_more : (k : Sort) (f g : PlainPolynomial) → of_numbers k (P f g) → of_numbers k (Q f g)
  numbers_more Long f g h = more f g h
  numbers_more k f g h = tt

  mutual
    pub each_more : (t : PlainTerm) → Each P r t → Each Q r t
    each_more (add a b) h = (each_more a h.0, each_more b h.1)
    each_more (sub a b) h = (each_more a h.0, each_more b h.1)
    each_more (neg a) h = each_more a h
    each_more (mul a b) h = (each_more a h.0, each_more b h.1)
    each_more (divide a n) h = each_more a h
    each_more (remainder a n) h = each_more a h
    each_more (less a b) h = (each_more a h.0, each_more b h.1, more (form_under r a) (form_under r b) h.2)
    each_more (less_equal a b) h = (each_more a h.0, each_more b h.1, more (form_under r a) (form_under r b) h.2)
    each_more (same a b) h = (each_more a h.0, each_more b h.1, numbers_more (sort_of a) (form_under r a) (form_under r b) h.2)
    each_more (not a) h = each_more a h
    each_more (and a b) h = (each_more a h.0, each_more b h.1)
    each_more (or a b) h = (each_more a h.0, each_more b h.1)
    each_more (choose c a b) h = (each_more c h.0, each_more a h.1, each_more b h.2)
    each_more (read k p c f) h = each_more p h
    each_more (read_at k p c f i) h = (each_more p h.0, each_more i h.1)
    each_more (result k m p ts) h = (each_more p h.0, all_more ts h.1)
    each_more (select a i) h = (each_more a h.0, each_more i h.1)
    each_more (put a i x) h = (each_more a h.0, each_more i h.1, each_more x h.2)
    each_more (add_at a i x) h = (each_more a h.0, each_more i h.1, each_more x h.2)
    each_more (fold o a b) h = (each_more a h.0, each_more b h.1)
    each_more (sweep a f t x) h = (each_more a h.0, each_more f h.1, each_more t h.2, each_more x h.3)
    each_more (atom k g n) h = tt
    each_more (number n) h = tt
    each_more (truth b) h = tt
    each_more null h = tt

    all_more : (ts : PlainTerms) → EachOf P r ts → EachOf Q r ts
    all_more no_terms h = tt
    all_more (term_and t ts) h = (each_more t h.0, all_more ts h.1)

-- Ranks at places

abbrev at_place : List ℕ → Option ℕ → Option ℕ
at_place ks None = None
at_place ks (Some i) = Some (rank_at ks i)

-- the rank of a form is the rank at its place
at_next : (k : ℕ) (ks : List ℕ) (o : Option ℕ) → at_place (k ∷ ks) (next o) ≡ at_place ks o
at_next k ks None = refl
at_next k ks (Some i) = refl

form_rank : (ps : List Point) (ks : List ℕ) (f : PlainPolynomial) → length ks ≡ length ps → rank_of_form (ranked ps ks) f ≡ at_place ks (place_of_form ps f)
form_rank [] ks f e = refl
form_rank (p ∷ ps) [] f e = absurd (omega (arith, e))
form_rank (p ∷ ps) (k ∷ ks) f e = by (is_eq (polynomial_cmp f (form_of p))) (form_rank ps ks f (omega (arith, e)) ∙ sym (at_next k ks (place_of_form ps f)))
  where
    by : (b : Bool) → rank_of_form (ranked ps ks) f ≡ at_place (k ∷ ks) (next (place_of_form ps f)) → cond b (Some k) (rank_of_form (ranked ps ks) f) ≡ at_place (k ∷ ks) (cond b (Some zero) (next (place_of_form ps f)))
    by true h = refl
    by false h = h

-- the place of a form is below the number of points
abbrev Below : ℕ → Option ℕ → Type 0
Below n None = Unit {0}
Below n (Some i) = i < n

below_next : (n : ℕ) (o : Option ℕ) → Below n o → Below (suc n) (next o)
below_next n None h = tt
below_next n (Some i) h = omega (arith, h)

place_below : (ps : List Point) (f : PlainPolynomial) → Below (length ps) (place_of_form ps f)
place_below [] f = tt
place_below (p ∷ ps) f = by (is_eq (polynomial_cmp f (form_of p))) (below_next (length ps) (place_of_form ps f) (place_below ps f))
  where
    by : (b : Bool) → Below (suc (length ps)) (next (place_of_form ps f)) → Below (suc (length ps)) (cond b (Some zero) (next (place_of_form ps f)))
    by true h = omega arith
    by false h = h

module _ (ks ls : List ℕ) (n : ℕ) (join : JoinTheSame n ks ls) where
  same_outcome : (i j : Option ℕ) → Below n i → Below n j → SameOrderAt ks ls i j → compared (at_place ks i) (at_place ks j) ≡ compared (at_place ls i) (at_place ls j)
  same_outcome None j b c h = refl
  same_outcome (Some i) None b c h = refl
  same_outcome (Some i) (Some j) b c h =
      ap (λ (x : Bool). Some (x, nat_eq (rank_at ks i) (rank_at ks j), nat_lt (rank_at ks j) (rank_at ks i))) h.0
      ∙ ap (λ (x : Bool). Some (nat_lt (rank_at ls i) (rank_at ls j), x, nat_lt (rank_at ks j) (rank_at ks i))) (join i j b c)
      ∙ ap (λ (x : Bool). Some (nat_lt (rank_at ls i) (rank_at ls j), nat_eq (rank_at ls i) (rank_at ls j), x)) h.1

-- First points

-- the place of a point
abbrev place_of : List Point → Point → Option ℕ
place_of [] p = None
place_of (q ∷ qs) p = cond (same_point p q) (Some zero) (next (place_of qs p))

point_rank : (ps : List Point) (ks : List ℕ) (p : Point) → length ks ≡ length ps → rank_of (ranked ps ks) p ≡ at_place ks (place_of ps p)
point_rank [] ks p e = refl
point_rank (q ∷ ps) [] p e = absurd (omega (arith, e))
point_rank (q ∷ ps) (k ∷ ks) p e = by (same_point p q) (point_rank ps ks p (omega (arith, e)) ∙ sym (at_next k ks (place_of ps p)))
  where
    by : (b : Bool) → rank_of (ranked ps ks) p ≡ at_place (k ∷ ks) (next (place_of ps p)) → cond b (Some k) (rank_of (ranked ps ks) p) ≡ at_place (k ∷ ks) (cond b (Some zero) (next (place_of ps p)))
    by true h = refl
    by false h = h

point_below : (ps : List Point) (p : Point) → Below (length ps) (place_of ps p)
point_below [] p = tt
point_below (q ∷ ps) p = by (same_point p q) (below_next (length ps) (place_of ps p) (point_below ps p))
  where
    by : (b : Bool) → Below (suc (length ps)) (next (place_of ps p)) → Below (suc (length ps)) (cond b (Some zero) (next (place_of ps p)))
    by true h = omega arith
    by false h = h

-- the first point of the rank, where two lists of ranks meet their rank at the same places
first_same : (ps : List Point) (ks ls : List ℕ) (p : Point) (k l : ℕ) → length ks ≡ length ps → length ls ≡ length ps →
    ((i : ℕ) → i < length ps → nat_eq (rank_at ks i) k ≡ nat_eq (rank_at ls i) l) → first_of_rank (ranked ps ks) p k ≡ first_of_rank (ranked ps ls) p l
first_same [] ks ls p k l d e h = refl
first_same (q ∷ ps) [] ls p k l d e h = absurd (omega (arith, d))
first_same (q ∷ ps) (i ∷ ks) [] p k l d e h = absurd (omega (arith, e))
first_same (q ∷ ps) (i ∷ ks) (j ∷ ls) p k l d e h =
    ap (λ b. cond b q (first_of_rank (ranked ps ks) p k)) (h 0 (omega arith))
    ∙ ap (λ z. cond (nat_eq j l) q z) (first_same ps ks ls p k l (omega (arith, d)) (omega (arith, e)) (λ m b. h (suc m) (omega (arith, b))))

leaders_same : (ps : List Point) (ks ls : List ℕ) → length ks ≡ length ps → length ls ≡ length ps → JoinTheSame (length ps) ks ls → (p : Point) → leader (ranked ps ks) p ≡ leader (ranked ps ls) p
leaders_same ps ks ls d e join p =
    ap (first_like (ranked ps ks) p) (point_rank ps ks p d) ∙ by (place_of ps p) (point_below ps p) ∙ sym (ap (first_like (ranked ps ls) p) (point_rank ps ls p e))
  where
    by : (o : Option ℕ) → Below (length ps) o → first_like (ranked ps ks) p (at_place ks o) ≡ first_like (ranked ps ls) p (at_place ls o)
    by None b = refl
    by (Some i) b = first_same ps ks ls p (rank_at ks i) (rank_at ls i) d e (λ j c. join j i c b)

pub joined_alike : (ps : List Point) (ks ls : List ℕ) (t : PlainTerm) → length ks ≡ length ps → length ls ≡ length ps → JoinTheSame (length ps) ks ls →
    Each (λ f g. SameOrderAt ks ls (place_of_form ps f) (place_of_form ps g)) (ranked ps ks) t → under (ranked ps ks) t ≡ under (ranked ps ls) t
joined_alike ps ks ls t d e join h =
    alike_orders (ranked ps ks) (ranked ps ls) t (leaders_same ps ks ls d e join)
    (each_more (λ f g. SameOrderAt ks ls (place_of_form ps f) (place_of_form ps g)) (λ f g. outcome (ranked ps ks) f g ≡ outcome (ranked ps ls) f g)
    (λ f g w. ap₂ compared (form_rank ps ks f d) (form_rank ps ks g d)
    ∙ same_outcome ks ls (length ps) join (place_of_form ps f) (place_of_form ps g) (place_below ps f) (place_below ps g) w
    ∙ sym (ap₂ compared (form_rank ps ls f e) (form_rank ps ls g e)))
    (ranked ps ks) t h)
