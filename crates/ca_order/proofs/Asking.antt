-- What a term compares under an order stands in the list of what it asks.
use Rattle.std.proofs.Common.{◌≡◌, ℕ, zero, Bool, true, false, cond, List, [], ◌∷◌, ◌++◌, length, refl, sym, ap, ap₂, ◌∙◌, arith, subst}
use Rattle.std.specs.Prelude.{nat_eq, Option, Some, None, Contains, ◌&&◌, ◌||◌}
use Rattle.std.specs.Ordering.{is_eq}
use Rattle.std.proofs.lemmas.Bool.Decides.{nat_tests}
use Rattle.std.proofs.lemmas.List.Elements.{Contains-append_left, Contains-append_right}
use Rattle.ca_lists.proofs.Members.{has_first, has_further}
use Rattle.ca_forms.specs.declared.sort.Sort.{Sort}
use Rattle.ca_forms.specs.declared.sort.Sort.TheVariants.{Long}
use Rattle.ca_forms.specs.Plain.{PlainPolynomial}
use Rattle.ca_forms.specs.Compare.{polynomial_cmp}
use Rattle.ca_norm.specs.Terms.{PlainTerm, PlainTerms, number, truth, null, atom, add, sub, neg, mul, divide, remainder, less, less_equal, same, not, and, or, choose, read, read_at, result, select, put, add_at, fold, sweep, no_terms, term_and, sort_of}
use Rattle.ca_norm.specs.Forms.{norm}
use Rattle.ca_order.specs.declared.point.Point.{Point}
use Rattle.ca_order.specs.Points.{Ranked, form_of}
use Rattle.ca_order.specs.Rankings.{ranked}
use Rattle.ca_order.specs.Under.{under}
use Rattle.ca_order.specs.Alike.{form_under, of_numbers, Each, EachOf, next, place_of_form, JoinTheSame, SameOrderAt}
use Rattle.ca_order.specs.Asked.{place_in, has_pair, with_pair, with_sides, with_equal, asked, all_asked, Stands}
use Rattle.ca_order.proofs.Alike.{each_more, joined_alike}

abbrev Grows : List (ℕ × ℕ) → List (ℕ × ℕ) → Type 0
Grows q s = (x : ℕ × ℕ) → Contains q x → Contains s x

pair_there : (i j : ℕ) (q : List (ℕ × ℕ)) → has_pair i j q ≡ true → Contains q (i, j)
pair_there i j [] e = cc
pair_there i j (x ∷ xs) e = by (nat_eq i x.0) (nat_eq j x.1) refl refl e (λ f. has_further x (i, j) xs (pair_there i j xs f))
  where
    equal : (a b : ℕ) → nat_eq a b ≡ true → a ≡ b
    equal a b h = grind (arith, nat_tests)

    same : nat_eq i x.0 ≡ true → nat_eq j x.1 ≡ true → Contains (x ∷ xs) (i, j)
    same f g = subst (Contains (x ∷ xs)) (ap₂ (λ (a b : ℕ). (a, b)) (sym (equal i x.0 f)) (sym (equal j x.1 g))) (has_first x xs)

    by : (b d : Bool) → nat_eq i x.0 ≡ b → nat_eq j x.1 ≡ d → (b && d) || has_pair i j xs ≡ true → (has_pair i j xs ≡ true → Contains (x ∷ xs) (i, j)) → Contains (x ∷ xs) (i, j)
    by true true f g h more = same f g
    by true false f g h more = more h
    by false d f g h more = more h

pair_grows : (i j : Option ℕ) (q : List (ℕ × ℕ)) → Grows q (with_pair i j q)
pair_grows None j q x h = h
pair_grows (Some i) None q x h = h
pair_grows (Some i) (Some j) q x h = by (has_pair i j q)
  where
    by : (b : Bool) → Contains (cond b q (q ++ (i, j) ∷ [])) x
    by true = h
    by false = Contains-append_left q ((i, j) ∷ []) x h

pair_stands : (i j : Option ℕ) (q : List (ℕ × ℕ)) → Stands (with_pair i j q) i j
pair_stands None j q = tt
pair_stands (Some i) None q = tt
pair_stands (Some i) (Some j) q = by (has_pair i j q) refl
  where
    by : (b : Bool) → has_pair i j q ≡ b → Contains (cond b q (q ++ (i, j) ∷ [])) (i, j)
    by true e = pair_there i j q e
    by false e = Contains-append_right q ((i, j) ∷ []) (i, j) (has_first (i, j) [])

stands_more : (q s : List (ℕ × ℕ)) → Grows q s → (i j : Option ℕ) → Stands q i j → Stands s i j
stands_more q s g None j h = tt
stands_more q s g (Some i) None h = tt
stands_more q s g (Some i) (Some j) h = g (i, j) h

module _ (r : Ranked) where
  abbrev In : List (ℕ × ℕ) → PlainPolynomial → PlainPolynomial → Type 0
  In q f g = Stands q (place_in r f) (place_in r g)

  more : (q s : List (ℕ × ℕ)) → Grows q s → (t : PlainTerm) → Each (In q) r t → Each (In s) r t
  more q s g t h = each_more (In q) (In s) (λ x y w. stands_more q s g (place_in r x) (place_in r y) w) r t h

  equal_grows : (k : Sort) (a b : PlainTerm) (q : List (ℕ × ℕ)) → Grows q (with_equal r k a b q)
  equal_grows Long a b q = pair_grows (place_in r (form_under r a)) (place_in r (form_under r b)) q
  equal_grows k a b q = λ x h. h

  equal_stands : (k : Sort) (a b : PlainTerm) (q : List (ℕ × ℕ)) → of_numbers k (In (with_equal r k a b q) (form_under r a) (form_under r b))
  equal_stands Long a b q = pair_stands (place_in r (form_under r a)) (place_in r (form_under r b)) q
  equal_stands k a b q = tt

  mutual
    grows : (t : PlainTerm) (q : List (ℕ × ℕ)) → Grows q (asked r t q)
    grows (add a b) q = λ x h. grows b (asked r a q) x (grows a q x h)
    grows (sub a b) q = λ x h. grows b (asked r a q) x (grows a q x h)
    grows (neg a) q = grows a q
    grows (mul a b) q = λ x h. grows b (asked r a q) x (grows a q x h)
    grows (divide a n) q = grows a q
    grows (remainder a n) q = grows a q
    grows (less a b) q = λ x h. pair_grows (place_in r (form_under r a)) (place_in r (form_under r b)) (asked r b (asked r a q)) x (grows b (asked r a q) x (grows a q x h))
    grows (less_equal a b) q = λ x h. pair_grows (place_in r (form_under r a)) (place_in r (form_under r b)) (asked r b (asked r a q)) x (grows b (asked r a q) x (grows a q x h))
    grows (same a b) q = λ x h. equal_grows (sort_of a) a b (asked r b (asked r a q)) x (grows b (asked r a q) x (grows a q x h))
    grows (not a) q = grows a q
    grows (and a b) q = λ x h. grows b (asked r a q) x (grows a q x h)
    grows (or a b) q = λ x h. grows b (asked r a q) x (grows a q x h)
    grows (choose c a b) q = λ x h. grows b (asked r a (asked r c q)) x (grows a (asked r c q) x (grows c q x h))
    grows (read k p c f) q = grows p q
    grows (read_at k p c f i) q = λ x h. grows i (asked r p q) x (grows p q x h)
    grows (result k m p ts) q = λ x h. all_grow ts (asked r p q) x (grows p q x h)
    grows (select a i) q = λ x h. grows i (asked r a q) x (grows a q x h)
    grows (put a i v) q = λ x h. grows v (asked r i (asked r a q)) x (grows i (asked r a q) x (grows a q x h))
    grows (add_at a i v) q = λ x h. grows v (asked r i (asked r a q)) x (grows i (asked r a q) x (grows a q x h))
    grows (fold o a b) q = λ x h. grows b (asked r a q) x (grows a q x h)
    grows (sweep a f t v) q = λ x h. grows v (asked r t (asked r f (asked r a q))) x (grows t (asked r f (asked r a q)) x (grows f (asked r a q) x (grows a q x h)))
    grows (number n) q = λ x h. h
    grows (truth b) q = λ x h. h
    grows null q = λ x h. h
    grows (atom k g n) q = λ x h. h

    all_grow : (ts : PlainTerms) (q : List (ℕ × ℕ)) → Grows q (all_asked r ts q)
    all_grow no_terms q = λ x h. h
    all_grow (term_and t ts) q = λ x h. all_grow ts (asked r t q) x (grows t q x h)

  two : (a b : PlainTerm) (q : List (ℕ × ℕ)) → Each (In (asked r a q)) r a → Each (In (asked r b (asked r a q))) r b → Each (In (asked r b (asked r a q))) r a × Each (In (asked r b (asked r a q))) r b
  two a b q h k = (more (asked r a q) (asked r b (asked r a q)) (grows b (asked r a q)) a h, k)

  three : (a b c : PlainTerm) (q : List (ℕ × ℕ)) → Each (In (asked r a q)) r a → Each (In (asked r b (asked r a q))) r b → Each (In (asked r c (asked r b (asked r a q)))) r c →
      Each (In (asked r c (asked r b (asked r a q)))) r a × Each (In (asked r c (asked r b (asked r a q)))) r b × Each (In (asked r c (asked r b (asked r a q)))) r c
  three a b c q h k l =
      let s = asked r b (asked r a q) in
      let w = two a b q h k in
      (more s (asked r c s) (grows c s) a w.0, more s (asked r c s) (grows c s) b w.1, l)

  four : (a b c d : PlainTerm) (q : List (ℕ × ℕ)) → Each (In (asked r a q)) r a → Each (In (asked r b (asked r a q))) r b → Each (In (asked r c (asked r b (asked r a q)))) r c →
      Each (In (asked r d (asked r c (asked r b (asked r a q))))) r d →
      Each (In (asked r d (asked r c (asked r b (asked r a q))))) r a × Each (In (asked r d (asked r c (asked r b (asked r a q))))) r b ×
      Each (In (asked r d (asked r c (asked r b (asked r a q))))) r c × Each (In (asked r d (asked r c (asked r b (asked r a q))))) r d
  four a b c d q h k l m =
      let s = asked r c (asked r b (asked r a q)) in
      let w = three a b c q h k l in
      (more s (asked r d s) (grows d s) a w.0, more s (asked r d s) (grows d s) b w.1, more s (asked r d s) (grows d s) c w.2, m)

  mutual
    each_in : (t : PlainTerm) (q : List (ℕ × ℕ)) → Each (In (asked r t q)) r t
    each_in (add a b) q = two a b q (each_in a q) (each_in b (asked r a q))
    each_in (sub a b) q = two a b q (each_in a q) (each_in b (asked r a q))
    each_in (neg a) q = each_in a q
    each_in (mul a b) q = two a b q (each_in a q) (each_in b (asked r a q))
    each_in (divide a n) q = each_in a q
    each_in (remainder a n) q = each_in a q
    each_in (less a b) q =
        let s = asked r b (asked r a q) in
        let g = pair_grows (place_in r (form_under r a)) (place_in r (form_under r b)) s in
        let w = two a b q (each_in a q) (each_in b (asked r a q)) in
        (more s (with_sides r a b s) g a w.0, more s (with_sides r a b s) g b w.1, pair_stands (place_in r (form_under r a)) (place_in r (form_under r b)) s)
    each_in (less_equal a b) q =
        let s = asked r b (asked r a q) in
        let g = pair_grows (place_in r (form_under r a)) (place_in r (form_under r b)) s in
        let w = two a b q (each_in a q) (each_in b (asked r a q)) in
        (more s (with_sides r a b s) g a w.0, more s (with_sides r a b s) g b w.1, pair_stands (place_in r (form_under r a)) (place_in r (form_under r b)) s)
    each_in (same a b) q =
        let s = asked r b (asked r a q) in
        let g = equal_grows (sort_of a) a b s in
        let w = two a b q (each_in a q) (each_in b (asked r a q)) in
        (more s (with_equal r (sort_of a) a b s) g a w.0, more s (with_equal r (sort_of a) a b s) g b w.1, equal_stands (sort_of a) a b s)
    each_in (not a) q = each_in a q
    each_in (and a b) q = two a b q (each_in a q) (each_in b (asked r a q))
    each_in (or a b) q = two a b q (each_in a q) (each_in b (asked r a q))
    each_in (choose c a b) q = three c a b q (each_in c q) (each_in a (asked r c q)) (each_in b (asked r a (asked r c q)))
    each_in (read k p c f) q = each_in p q
    each_in (read_at k p c f i) q = two p i q (each_in p q) (each_in i (asked r p q))
    each_in (result k m p ts) q = (more (asked r p q) (all_asked r ts (asked r p q)) (all_grow ts (asked r p q)) p (each_in p q), each_of ts (asked r p q))
    each_in (select a i) q = two a i q (each_in a q) (each_in i (asked r a q))
    each_in (put a i v) q = three a i v q (each_in a q) (each_in i (asked r a q)) (each_in v (asked r i (asked r a q)))
    each_in (add_at a i v) q = three a i v q (each_in a q) (each_in i (asked r a q)) (each_in v (asked r i (asked r a q)))
    each_in (fold o a b) q = two a b q (each_in a q) (each_in b (asked r a q))
    each_in (sweep a f t v) q = four a f t v q (each_in a q) (each_in f (asked r a q)) (each_in t (asked r f (asked r a q))) (each_in v (asked r t (asked r f (asked r a q))))
    each_in (number n) q = tt
    each_in (truth b) q = tt
    each_in null q = tt
    each_in (atom k g n) q = tt

    each_of : (ts : PlainTerms) (q : List (ℕ × ℕ)) → EachOf (In (all_asked r ts q)) r ts
    each_of no_terms q = tt
    each_of (term_and t ts) q = (more (asked r t q) (all_asked r ts (asked r t q)) (all_grow ts (asked r t q)) t (each_in t q), each_of ts (asked r t q))

-- Orders of one class

place_same : (ps : List Point) (ks : List ℕ) (f : PlainPolynomial) → length ks ≡ length ps → place_in (ranked ps ks) f ≡ place_of_form ps f
place_same [] ks f e = refl
place_same (p ∷ ps) [] f e = absurd (omega (arith, e))
place_same (p ∷ ps) (k ∷ ks) f e = ap (λ z. cond (is_eq (polynomial_cmp f (form_of p))) (Some zero) (next z)) (place_same ps ks f (omega (arith, e)))

-- ranks are in the same order at each pair of places of a list
abbrev pub AlikeAt : List ℕ → List ℕ → List (ℕ × ℕ) → Type 0
AlikeAt ks ls q = (i j : ℕ) → Contains q (i, j) → SameOrderAt ks ls (Some i) (Some j)

alike_in : (ks ls : List ℕ) (q : List (ℕ × ℕ)) → AlikeAt ks ls q → (i j : Option ℕ) → Stands q i j → SameOrderAt ks ls i j
alike_in ks ls q a None j h = tt
alike_in ks ls q a (Some i) None h = tt
alike_in ks ls q a (Some i) (Some j) h = a i j h

one_term : (ps : List Point) (ks ls : List ℕ) (t : PlainTerm) (q s : List (ℕ × ℕ)) → length ks ≡ length ps → length ls ≡ length ps → JoinTheSame (length ps) ks ls → AlikeAt ks ls s →
    Grows (asked (ranked ps ks) t q) s → under (ranked ps ks) t ≡ under (ranked ps ls) t
one_term ps ks ls t q s d e join a g =
    joined_alike ps ks ls t d e join
    (each_more (In (ranked ps ks) (asked (ranked ps ks) t q)) (λ f g. SameOrderAt ks ls (place_of_form ps f) (place_of_form ps g))
    (λ f h w. subst (λ z. SameOrderAt ks ls z (place_of_form ps h)) (place_same ps ks f d) (subst (λ z. SameOrderAt ks ls (place_in (ranked ps ks) f) z) (place_same ps ks h d)
    (alike_in ks ls s a (place_in (ranked ps ks) f) (place_in (ranked ps ks) h) (stands_more (asked (ranked ps ks) t q) s g (place_in (ranked ps ks) f) (place_in (ranked ps ks) h) w))))
    (ranked ps ks) t (each_in (ranked ps ks) t q))

-- where two terms have one form under an order, they have one under each of its class
pub class_same : (ps : List Point) (ks ls : List ℕ) (t u : PlainTerm) → length ks ≡ length ps → length ls ≡ length ps → JoinTheSame (length ps) ks ls →
    AlikeAt ks ls (asked (ranked ps ks) u (asked (ranked ps ks) t [])) →
    norm (under (ranked ps ks) t) ≡ norm (under (ranked ps ks) u) → norm (under (ranked ps ls) t) ≡ norm (under (ranked ps ls) u)
class_same ps ks ls t u d e join a h =
    let s = asked (ranked ps ks) u (asked (ranked ps ks) t []) in
    ap norm (sym (one_term ps ks ls t [] s d e join a (grows (ranked ps ks) u (asked (ranked ps ks) t [])))) ∙ h
    ∙ ap norm (one_term ps ks ls u (asked (ranked ps ks) t []) s d e join a (λ x w. w))
