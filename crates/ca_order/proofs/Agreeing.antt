-- Terms that are the same under each order of their points mean the same.
use Rattle.std.proofs.Common.{inl, inr, ◌≡◌, ℕ, Bool, true, false, cond, List, [], ◌∷◌, ◌++◌, map, sym, ◌∙◌, arith, subst}
use Rattle.std.specs.Prelude.{Contains, ◌⊎◌}
use Rattle.ca_lists.proofs.Members.{first_or_behind}
use Rattle.ca_forms.specs.declared.sort.Sort.{Sort}
use Rattle.ca_forms.specs.declared.sort.Sort.TheVariants.{Long, Bool as Truth, Pointer, LongArray}
use Rattle.ca_norm.specs.Terms.{PlainTerm, PlainTerms, number, truth, null, atom, add, sub, neg, mul, divide, remainder, less, less_equal, same, not, and, or, choose, read, read_at, result, select, put, add_at, fold, sweep, no_terms, term_and, sort_of, item_sort, IsOf, AreSorted}
use Rattle.ca_norm.specs.Meanings.{Valuation, mean}
use Rattle.ca_norm.proofs.Values.{same_forms}
use Rattle.ca_order.specs.declared.point.Point.{Point}
use Rattle.ca_order.specs.Points.{FitsPoint, Ranked, same_point}
use Rattle.ca_order.specs.Under.{AreFit, under}
use Rattle.ca_order.specs.Rankings.{ranked}
use Rattle.ca_order.specs.OrderSame.{side, atom_point, all_points, points_of_all, comes_before, with_point, in_order, points_of, OrderSame}
use Rattle.ca_order.proofs.Meant.{sorted, under_means, of_own_sort}
use Rattle.ca_order.proofs.Existing.{exists, rank}

abbrev AllFit : List Point → Type 0
AllFit [] = Unit {0}
AllFit (p ∷ ps) = FitsPoint p × AllFit ps

both_fit : (ps qs : List Point) → AllFit ps → AllFit qs → AllFit (ps ++ qs)
both_fit [] qs f g = g
both_fit (p ∷ ps) qs f g = (f.0, both_fit ps qs f.1 g)

side_fit : (s : Sort) (t : PlainTerm) → IsOf s t → AllFit (side t)
side_fit s (number n) i = (i.1, tt)
side_fit s t i = tt

atom_fit : (s : Sort) (g n : ℕ) → AllFit (atom_point s g n)
atom_fit Long g n = (tt, tt)
atom_fit s g n = tt

sides_fit : (s : Sort) (a b : PlainTerm) → IsOf s a → IsOf s b → AllFit (all_points a) → AllFit (all_points b) → AllFit ((side a ++ side b) ++ (all_points a ++ all_points b))
sides_fit s a b i j f g = both_fit (side a ++ side b) (all_points a ++ all_points b) (both_fit (side a) (side b) (side_fit s a i) (side_fit s b j)) (both_fit (all_points a) (all_points b) f g)

mutual
  fit : (s : Sort) (t : PlainTerm) → IsOf s t → AllFit (all_points t)
  fit s (number n) i = tt
  fit s (truth b) i = tt
  fit s null i = tt
  fit s (atom t g n) i = atom_fit t g n
  fit s (add a b) i = both_fit _ _ (fit Long a i.1) (fit Long b i.2)
  fit s (sub a b) i = both_fit _ _ (fit Long a i.1) (fit Long b i.2)
  fit s (neg a) i = fit Long a i.1
  fit s (mul a b) i = both_fit _ _ (fit Long a i.1) (fit Long b i.2)
  fit s (divide a n) i = fit Long a i.1
  fit s (remainder a n) i = fit Long a i.1
  fit s (less a b) i = sides_fit Long a b i.1 i.2 (fit Long a i.1) (fit Long b i.2)
  fit s (less_equal a b) i = sides_fit Long a b i.1 i.2 (fit Long a i.1) (fit Long b i.2)
  fit s (same a b) i = sides_fit (sort_of a) a b i.2 i.3 (fit (sort_of a) a i.2) (fit (sort_of a) b i.3)
  fit s (not a) i = fit Truth a i.1
  fit s (and a b) i = both_fit _ _ (fit Truth a i.1) (fit Truth b i.2)
  fit s (or a b) i = both_fit _ _ (fit Truth a i.1) (fit Truth b i.2)
  fit s (choose c a b) i = both_fit _ _ (fit Truth c i.0) (both_fit _ _ (fit s a i.1) (fit s b i.2))
  fit s (read t p c f) i = fit Pointer p i.2
  fit s (read_at t p c f j) i = both_fit _ _ (fit Pointer p i.2) (fit Long j i.3)
  fit s (result t m p ts) i = both_fit _ _ (fit Pointer p i.2) (all_fit ts i.3)
  fit s (select a j) i = both_fit _ _ (fit (sort_of a) a i.2) (fit Long j i.3)
  fit s (put a j x) i = both_fit _ _ (fit s a i.1) (both_fit _ _ (fit Long j i.2) (fit (item_sort s) x i.3))
  fit s (add_at a j x) i = both_fit _ _ (fit LongArray a i.1) (both_fit _ _ (fit Long j i.2) (fit Long x i.3))
  fit s (fold o a b) i = both_fit _ _ (fit Long a i.1) (fit Long b i.2)
  fit s (sweep a f t x) i = both_fit _ _ (fit LongArray a i.1) (both_fit _ _ (fit Long f i.2) (both_fit _ _ (fit Long t i.3) (fit Long x i.4)))

  all_fit : (ts : PlainTerms) → AreSorted ts → AllFit (points_of_all ts)
  all_fit no_terms i = tt
  all_fit (term_and t ts) i = both_fit _ _ (fit (sort_of t) t i.1) (all_fit ts i.2)

with_fit : (p : Point) (qs : List Point) → FitsPoint p → AllFit qs → AllFit (with_point p qs)
with_fit p [] f g = (f, tt)
with_fit p (q ∷ qs) f g = by (comes_before p q) (same_point p q) (with_fit p qs f g.1)
  where
    by : (a b : Bool) → AllFit (with_point p qs) → AllFit (cond a (p ∷ q ∷ qs) (cond b (q ∷ qs) (q ∷ with_point p qs)))
    by true b h = (f, g)
    by false true h = g
    by false false h = (g.0, h)

order_fit : (ps : List Point) → AllFit ps → AllFit (in_order ps)
order_fit [] f = tt
order_fit (p ∷ ps) f = with_fit p (in_order ps) f.0 (order_fit ps f.1)

ranked_fit : (ps : List Point) (ks : List ℕ) → AllFit ps → AreFit (ranked ps ks)
ranked_fit [] ks f = λ x h. let l = h.1 in absurd (omega arith)
ranked_fit (p ∷ ps) [] f = λ x h. let l = h.1 in absurd (omega arith)
ranked_fit (p ∷ ps) (k ∷ ks) f = λ x h. by x (first_or_behind (p, k) x (ranked ps ks) h) (ranked_fit ps ks f.1 x)
  where
    by : (x : Point × ℕ) → ((p, k) ≡ x) ⊎ Contains (ranked ps ks) x → (Contains (ranked ps ks) x → FitsPoint x.0) → FitsPoint x.0
    by x (inl e) more = subst (λ (z : Point × ℕ). FitsPoint z.0) e f.0
    by x (inr g) more = more g

pub order_same_means : (v : Valuation) (s : Sort) (t u : PlainTerm) → IsOf s t → IsOf s u → OrderSame t u → mean v t ≡ mean v u
order_same_means v s t u i j h =
    let ps : List Point = points_of t u in
    let ks : List ℕ = map (rank v ps) ps in
    let q = exists v ps in
    let r : Ranked = ranked ps ks in
    let f : AreFit r = ranked_fit ps ks (order_fit (all_points t ++ all_points u) (both_fit (all_points t) (all_points u) (fit s t i) (fit s u j))) in
    sym (under_means r f v q.meets s t i)
    ∙ same_forms v (under r t) (under r u) (of_own_sort s (under r t) (sorted r f s t i)) (of_own_sort s (under r u) (sorted r f s u j)) (h.same ks q.ranking)
    ∙ under_means r f v q.meets s u j
