-- A value that is raised or lowered to two points is the same under each order, whichever comes first.
use Rattle.std.proofs.Common.{inl, inr, ◌⊎◌, ◌≡◌, ℕ, ◌≤◌, Bool, true, false, cond, List, [], ◌∷◌, ◌++◌, length, refl, sym, ap, ◌∙◌, arith, subst}
use Rattle.std.specs.Prelude.{Contains, nat_lt, max, min}
use Rattle.std.proofs.lemmas.Bool.Decides.{nat_tests}
use Rattle.std.proofs.lemmas.List.Elements.{Contains-append_left, Contains-append_right, Contains-append_cases}
use Rattle.ca_lists.proofs.Members.{has_first, has_further, first_or_behind}
use Rattle.ca_meaning.specs.Operators.{not_of}
use Rattle.ca_forms.specs.declared.sort.Sort.TheVariants.{Long}
use Rattle.ca_forms.specs.declared.form.Normal.TheVariants as normal
use Rattle.ca_forms.specs.Plain.{number_form}
use Rattle.ca_forms.specs.Rules.{gathered}
use Rattle.ca_norm.specs.Terms.{PlainTerm, choose, less, less_equal, sort_of}
use Rattle.ca_norm.specs.Forms.{expand, norm, form_at}
use Rattle.ca_order.specs.declared.point.Point.{Point}
use Rattle.ca_order.specs.declared.point.Point.TheVariants as point
use Rattle.ca_order.specs.Points.{point_term, FitsPoint}
use Rattle.ca_order.specs.Under.{under, not_more}
use Rattle.ca_order.specs.Rankings.{ranked, IsRanking}
use Rattle.ca_order.specs.OrderSame.{side, all_points, points_of, OrderSame}
use Rattle.ca_order.specs.Raised.{below, raised, lowered}
use Rattle.ca_order.proofs.Known.{Rising, order_rises, order_there, order_back, few_points}
use Rattle.ca_order.proofs.Sorts.{sort_kept, point_sort}
use Rattle.ca_order.proofs.Steps.{AllFitted, point_entry, Is, form_at_rank, point_has, chosen_has, less_known, less_equal_known}

greater : (j k : ℕ) → cond (nat_lt j k) k j ≡ max j k
greater j k = grind (arith, nat_tests)

greater_or_same : (j k : ℕ) → cond (not_of (nat_lt k j)) k j ≡ max j k
greater_or_same j k = by (nat_lt k j) refl
  where
    low : nat_lt k j ≡ true → j ≡ max j k
    low e = grind (arith, nat_tests)

    high : nat_lt k j ≡ false → k ≡ max j k
    high e = grind (arith, nat_tests)

    by : (b : Bool) → nat_lt k j ≡ b → cond (not_of b) k j ≡ max j k
    by true e = low e
    by false e = high e

smaller : (j k : ℕ) → cond (nat_lt k j) k j ≡ min j k
smaller j k = grind (arith, nat_tests)

smaller_or_same : (j k : ℕ) → cond (not_of (nat_lt j k)) k j ≡ min j k
smaller_or_same j k = by (nat_lt j k) refl
  where
    low : nat_lt j k ≡ true → j ≡ min j k
    low e = grind (arith, nat_tests)

    high : nat_lt j k ≡ false → k ≡ min j k
    high e = grind (arith, nat_tests)

    by : (b : Bool) → nat_lt j k ≡ b → cond (not_of b) k j ≡ min j k
    by true e = low e
    by false e = high e

max_turned : (a b c : ℕ) → max (max a b) c ≡ max (max a c) b
max_turned a b c = omega arith

min_turned : (a b c : ℕ) → min (min a b) c ≡ min (min a c) b
min_turned a b c = omega arith

-- Points of such terms

abbrev Among : List Point → List Point → Type 0
Among ps xs = (q : Point) → Contains xs q → Contains ps q

joined : (ps xs ys : List Point) → Among ps xs → Among ps ys → Among ps (xs ++ ys)
joined ps xs ys f g = λ q h. by q (Contains-append_cases xs ys q h)
  where
    by : (q : Point) → Contains xs q ⊎ Contains ys q → Contains ps q
    by q (inl i) = f q i
    by q (inr i) = g q i

no_points : (ps : List Point) → Among ps []
no_points ps = λ q h. let l = h.1 in absurd (omega arith)

one_point : (ps : List Point) (p : Point) → Contains ps p → Among ps (p ∷ [])
one_point ps p h = λ q g. by q (first_or_behind p q [] g)
  where
    by : (q : Point) → (p ≡ q) ⊎ Contains [] q → Contains ps q
    by q (inl e) = subst (Contains ps) e h
    by q (inr i) = let l = i.1 in absurd (omega arith)

side_among : (ps : List Point) (p : Point) → Contains ps p → Among ps (side (point_term p))
side_among ps (point.Number n) h = one_point ps (point.Number n) h
side_among ps (point.Atom g n) h = no_points ps

own_among : (ps : List Point) (p : Point) → Contains ps p → Among ps (all_points (point_term p))
own_among ps (point.Number n) h = no_points ps
own_among ps (point.Atom g n) h = one_point ps (point.Atom g n) h

-- what stands in a point's term or as a side
own_there : (p : Point) → Contains (side (point_term p) ++ all_points (point_term p)) p
own_there (point.Number n) = has_first (point.Number n) []
own_there (point.Atom g n) = has_first (point.Atom g n) []

abbrev compared : PlainTerm → PlainTerm → List Point
compared a b = (side a ++ side b) ++ (all_points a ++ all_points b)

below_points : (s : Bool) (a b : PlainTerm) → all_points (below s a b) ≡ compared a b
below_points true a b = refl
below_points false a b = refl

compared_among : (ps : List Point) (a b : PlainTerm) → Among ps (side a) → Among ps (side b) → Among ps (all_points a) → Among ps (all_points b) → Among ps (compared a b)
compared_among ps a b f g h i = joined ps (side a ++ side b) (all_points a ++ all_points b) (joined ps (side a) (side b) f g) (joined ps (all_points a) (all_points b) h i)

first_there : (a b : PlainTerm) (q : Point) → Contains (side a ++ all_points a) q → Contains (compared a b) q
first_there a b q h = by (Contains-append_cases (side a) (all_points a) q h)
  where
    by : Contains (side a) q ⊎ Contains (all_points a) q → Contains (compared a b) q
    by (inl g) = Contains-append_left (side a ++ side b) (all_points a ++ all_points b) q (Contains-append_left (side a) (side b) q g)
    by (inr g) = Contains-append_right (side a ++ side b) (all_points a ++ all_points b) q (Contains-append_left (all_points a) (all_points b) q g)

second_there : (a b : PlainTerm) (q : Point) → Contains (side b ++ all_points b) q → Contains (compared a b) q
second_there a b q h = by (Contains-append_cases (side b) (all_points b) q h)
  where
    by : Contains (side b) q ⊎ Contains (all_points b) q → Contains (compared a b) q
    by (inl g) = Contains-append_left (side a ++ side b) (all_points a ++ all_points b) q (Contains-append_right (side a) (side b) q g)
    by (inr g) = Contains-append_right (side a ++ side b) (all_points a ++ all_points b) q (Contains-append_right (all_points a) (all_points b) q g)

-- the condition is one of the two ways round
module _ (cond_of : Bool → PlainTerm → PlainTerm → PlainTerm) (pick : ℕ → ℕ → ℕ)
    (turned : (a b c : ℕ) → pick (pick a b) c ≡ pick (pick a c) b)
    (same_points : (s : Bool) (t e : PlainTerm) (ps : List Point) → Among ps (side t) → Among ps (side e) → Among ps (all_points t) → Among ps (all_points e) → Among ps (all_points (cond_of s t e)))
    (told : (s : Bool) (t e : PlainTerm) (q : Point) → Contains (side t ++ all_points t) q → Contains (all_points (cond_of s t e)) q)
    (told_other : (s : Bool) (t e : PlainTerm) (q : Point) → Contains (side e ++ all_points e) q → Contains (all_points (cond_of s t e)) q)
    (picked : (ps : List Point) (ks : List ℕ) (rises : Rising ps) (fit : AllFitted ps) (is : IsRanking ps ks) (s : Bool) (t e : PlainTerm) (j k : ℕ) → Is ps ks rises fit is t j → Is ps ks rises fit is e k → Is ps ks rises fit is (choose (cond_of s t e) e t) (pick j k)) where
  abbrev step : Bool → PlainTerm → PlainTerm → PlainTerm
  step s t e = choose (cond_of s t e) e t

  module _ (one other : Bool) (f e d : Point) (ff : FitsPoint f) (fe : FitsPoint e) (fd : FitsPoint d) where
    abbrev t : PlainTerm
    t = step other (step one (point_term f) (point_term e)) (point_term d)

    abbrev u : PlainTerm
    u = step one (step other (point_term f) (point_term d)) (point_term e)

    abbrev three : List Point
    three = f ∷ e ∷ d ∷ []

    has_f : Contains three f
    has_f = has_first f (e ∷ d ∷ [])

    has_e : Contains three e
    has_e = has_further f e (e ∷ d ∷ []) (has_first e (d ∷ []))

    has_d : Contains three d
    has_d = has_further f d (e ∷ d ∷ []) (has_further e d (d ∷ []) (has_first d []))

    step_among : (s : Bool) (a : PlainTerm) (p : Point) → Contains three p → Among three (side a) → Among three (all_points a) → Among three (all_points (step s a (point_term p)))
    step_among s a p h g i =
        joined three (all_points (cond_of s a (point_term p))) (all_points (point_term p) ++ all_points a)
        (same_points s a (point_term p) three g (side_among three p h) i (own_among three p h))
        (joined three (all_points (point_term p)) (all_points a) (own_among three p h) i)

    all_among : Among three (all_points t ++ all_points u)
    all_among =
        joined three (all_points t) (all_points u)
        (step_among other (step one (point_term f) (point_term e)) d has_d (no_points three) (step_among one (point_term f) e has_e (side_among three f has_f) (own_among three f has_f)))
        (step_among one (step other (point_term f) (point_term d)) e has_e (no_points three) (step_among other (point_term f) d has_d (side_among three f has_f) (own_among three f has_f)))

    abbrev ps : List Point
    ps = points_of t u

    rises : Rising ps
    rises = order_rises (all_points t ++ all_points u)

    pub three_points : length ps ≤ 3
    three_points = few_points ps three rises (λ q h. all_among q (order_back (all_points t ++ all_points u) q h))

    few : length ps ≤ 5
    few = omega (arith, three_points)

    fit : AllFitted ps
    fit p h = by (first_or_behind f p (e ∷ d ∷ []) (all_among p (order_back (all_points t ++ all_points u) p h)))
      where
        last : (d ≡ p) ⊎ Contains [] p → FitsPoint p
        last (inl i) = subst FitsPoint i fd
        last (inr i) = let l = i.1 in absurd (omega arith)

        next : (e ≡ p) ⊎ Contains (d ∷ []) p → FitsPoint p
        next (inl i) = subst FitsPoint i fe
        next (inr i) = last (first_or_behind d p [] i)

        by : (f ≡ p) ⊎ Contains (e ∷ d ∷ []) p → FitsPoint p
        by (inl i) = subst FitsPoint i ff
        by (inr i) = next (first_or_behind e p (d ∷ []) i)

    cond_there : (s : Bool) (a b : PlainTerm) (q : Point) → Contains (all_points (cond_of s a b)) q → Contains (all_points (step s a b)) q
    cond_there s a b q h = Contains-append_left (all_points (cond_of s a b)) (all_points b ++ all_points a) q h

    base_there : (s : Bool) (a b : PlainTerm) (q : Point) → Contains (all_points a) q → Contains (all_points (step s a b)) q
    base_there s a b q h = Contains-append_right (all_points (cond_of s a b)) (all_points b ++ all_points a) q (Contains-append_right (all_points b) (all_points a) q h)

    in_t : (q : Point) → Contains (all_points t) q → Contains ps q
    in_t q h = order_there (all_points t ++ all_points u) q (Contains-append_left (all_points t) (all_points u) q h)

    f_there : Contains ps f
    f_there = in_t f (base_there other (step one (point_term f) (point_term e)) (point_term d) f (cond_there one (point_term f) (point_term e) f (told one (point_term f) (point_term e) f (own_there f))))

    e_there : Contains ps e
    e_there = in_t e (base_there other (step one (point_term f) (point_term e)) (point_term d) e (cond_there one (point_term f) (point_term e) e (told_other one (point_term f) (point_term e) e (own_there e))))

    d_there : Contains ps d
    d_there = in_t d (cond_there other (step one (point_term f) (point_term e)) (point_term d) d (told_other other (step one (point_term f) (point_term e)) (point_term d) d (own_there d)))

    long_norm : (r : List (Point × ℕ)) (a : PlainTerm) → sort_of a ≡ Long → norm (under r a) ≡ normal.Scalar (number_form (gathered (expand (under r a))))
    long_norm r a i = ap (λ s. form_at s (under r a)) (sort_kept r a ∙ i)

    same : (ks : List ℕ) → IsRanking ps ks → norm (under (ranked ps ks) t) ≡ norm (under (ranked ps ks) u)
    same ks is =
        let i = point_entry ps ks f is.long f_there in
        let j = point_entry ps ks e is.long e_there in
        let k = point_entry ps ks d is.long d_there in
        let at_f = point_has ps ks rises fit is f i.rank i.there in
        let at_e = point_has ps ks rises fit is e j.rank j.there in
        let at_d = point_has ps ks rises fit is d k.rank k.there in
        let first = picked ps ks rises fit is other (step one (point_term f) (point_term e)) (point_term d) _ _ (picked ps ks rises fit is one (point_term f) (point_term e) _ _ at_f at_e) at_d in
        let second = picked ps ks rises fit is one (step other (point_term f) (point_term d)) (point_term e) _ _ (picked ps ks rises fit is other (point_term f) (point_term d) _ _ at_f at_d) at_e in
        long_norm (ranked ps ks) t (point_sort d)
        ∙ ap (λ z. normal.Scalar (number_form z)) (first.form ∙ ap (form_at_rank ps ks rises fit is) (turned i.rank j.rank k.rank) ∙ sym second.form)
        ∙ sym (long_norm (ranked ps ks) u (point_sort e))

    pub either_way : OrderSame t u
    either_way = record { few = few; same = same }

raised_picked : (ps : List Point) (ks : List ℕ) (rises : Rising ps) (fit : AllFitted ps) (is : IsRanking ps ks) (s : Bool) (t e : PlainTerm) (j k : ℕ) → Is ps ks rises fit is t j → Is ps ks rises fit is e k → Is ps ks rises fit is (raised s t e) (max j k)
raised_picked ps ks rises fit is true t e j k f g = subst (Is ps ks rises fit is (raised true t e)) (greater j k) (chosen_has ps ks rises fit is (less t e) e t (nat_lt j k) k j (less_known ps ks rises fit is t e j k f g) g f)
raised_picked ps ks rises fit is false t e j k f g = subst (Is ps ks rises fit is (raised false t e)) (greater_or_same j k) (chosen_has ps ks rises fit is (less_equal t e) e t (not_more j k) k j (less_equal_known ps ks rises fit is t e j k f g) g f)

lowered_picked : (ps : List Point) (ks : List ℕ) (rises : Rising ps) (fit : AllFitted ps) (is : IsRanking ps ks) (s : Bool) (t e : PlainTerm) (j k : ℕ) → Is ps ks rises fit is t j → Is ps ks rises fit is e k → Is ps ks rises fit is (lowered s t e) (min j k)
lowered_picked ps ks rises fit is true t e j k f g = subst (Is ps ks rises fit is (lowered true t e)) (smaller j k) (chosen_has ps ks rises fit is (less e t) e t (nat_lt k j) k j (less_known ps ks rises fit is e t k j g f) g f)
lowered_picked ps ks rises fit is false t e j k f g = subst (Is ps ks rises fit is (lowered false t e)) (smaller_or_same j k) (chosen_has ps ks rises fit is (less_equal e t) e t (not_more k j) k j (less_equal_known ps ks rises fit is e t k j g f) g f)

pub raised_either_way : (one other : Bool) (f e d : Point) → FitsPoint f → FitsPoint e → FitsPoint d → OrderSame (raised other (raised one (point_term f) (point_term e)) (point_term d)) (raised one (raised other (point_term f) (point_term d)) (point_term e))
raised_either_way =
    either_way below max max_turned
    (λ s t e ps f g h i. subst (Among ps) (sym (below_points s t e)) (compared_among ps t e f g h i))
    (λ s t e q h. subst (λ z. Contains z q) (sym (below_points s t e)) (first_there t e q h))
    (λ s t e q h. subst (λ z. Contains z q) (sym (below_points s t e)) (second_there t e q h))
    raised_picked

pub lowered_either_way : (one other : Bool) (f e d : Point) → FitsPoint f → FitsPoint e → FitsPoint d → OrderSame (lowered other (lowered one (point_term f) (point_term e)) (point_term d)) (lowered one (lowered other (point_term f) (point_term d)) (point_term e))
lowered_either_way =
    either_way (λ s t e. below s e t) min min_turned
    (λ s t e ps f g h i. subst (Among ps) (sym (below_points s e t)) (compared_among ps e t g f i h))
    (λ s t e q h. subst (λ z. Contains z q) (sym (below_points s e t)) (second_there e t q h))
    (λ s t e q h. subst (λ z. Contains z q) (sym (below_points s e t)) (first_there e t q h))
    lowered_picked
