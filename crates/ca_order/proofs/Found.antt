-- The first of the orders under which two terms differ.
use Rattle.std.proofs.Common.{inl, inr, ◌⊎◌, ◌≡◌, ℕ, zero, suc, ◌+◌, ◌<◌, ◌≤◌, List, [], ◌∷◌, ◌++◌, length, map, take, Some, None, refl, sym, ap, ◌∙◌, arith, subst, slice_index_or, Global, Vec}
use Rattle.std.specs.Prelude.{Contains, slice_get}
use Rattle.ca_lists.proofs.Members.{has_first, has_further, first_or_behind}
use Rattle.ca_norm.specs.Terms.{PlainTerm}
use Rattle.ca_order.specs.declared.point.Point.{Point}
use Rattle.ca_order.specs.Rankings.{IsRanking, rankings_of}
use Rattle.ca_order.specs.OrderSame.{all_points, points_of, OrderSame, PointsRise}
use Rattle.ca_order.proofs.Known.{Rising, order_rises}
use Rattle.ca_order.proofs.Listed.{rankings_are_all}
use Rattle.ca_order.specs.Answers.{SameUnder, AllSame, FirstDiffers, DiffersAt}
use Rattle.ca_forms.specs.declared.form.Normal.{Normal}
use Rattle.std.proofs.lemmas.Option.{slice_get_within, same_Some}
use Rattle.std.proofs.lemmas.List.Elements.{Contains-append_cases}

abbrev pub items : Vec ℕ Global → List ℕ
items v = v.items

pub stands_at : (xs : List (Vec ℕ Global)) (i : ℕ) (x : Vec ℕ Global) → i < length xs → x ≡ slice_index_or xs i x → slice_get (map items xs) i ≡ Some x.items
stands_at [] i x l e = absurd (omega (arith, l))
stands_at (y ∷ xs) zero x l e = ap (λ (z : Vec ℕ Global). Some z.items) (sym e)
stands_at (y ∷ xs) (suc i) x l e = stands_at xs i x (omega (arith, l)) e

pub item_in : (xs : List (Vec ℕ Global)) (i : ℕ) (x : Vec ℕ Global) → i < length xs → x ≡ slice_index_or xs i x → Contains (map items xs) x.items
item_in [] i x l e = absurd (omega (arith, l))
item_in (y ∷ xs) zero x l e = subst (Contains (y.items ∷ map items xs)) (ap items (sym e)) (has_first y.items (map items xs))
item_in (y ∷ xs) (suc i) x l e = has_further y.items x.items (map items xs) (item_in xs i x (omega (arith, l)) e)

one_more : (xs : List (Vec ℕ Global)) (i : ℕ) (x : Vec ℕ Global) → i < length xs → x ≡ slice_index_or xs i x → take (suc i) (map items xs) ≡ take i (map items xs) ++ x.items ∷ []
one_more [] i x l e = absurd (omega (arith, l))
one_more (y ∷ xs) zero x l e = ap (λ (z : Vec ℕ Global). z.items ∷ []) (sym e)
one_more (y ∷ xs) (suc i) x l e = ap (λ zs. y.items ∷ zs) (one_more xs i x (omega (arith, l)) e)

pub same_more : (ps : List Point) (t u : PlainTerm) (xs : List (Vec ℕ Global)) (i : ℕ) (x : Vec ℕ Global) → i < length xs → x ≡ slice_index_or xs i x → AllSame ps t u (take i (map items xs)) → SameUnder ps t u x.items → AllSame ps t u (take (i + 1) (map items xs))
same_more ps t u xs i x l e h k =
    subst (AllSame ps t u) (sym (ap (λ n. take n (map items xs)) (let z : i + 1 ≡ suc i = omega arith in z) ∙ one_more xs i x l e)) (λ ls g. by ls (Contains-append_cases (take i (map items xs)) (x.items ∷ []) ls g))
  where
    nothing : (ls : List ℕ) → Contains [] ls → SameUnder ps t u ls
    nothing ls g = let m = g.1 in absurd (omega arith)

    last : (ls : List ℕ) → (x.items ≡ ls) ⊎ Contains [] ls → SameUnder ps t u ls
    last ls (inl f) = subst (SameUnder ps t u) f k
    last ls (inr g) = nothing ls g

    by : (ls : List ℕ) → Contains (take i (map items xs)) ls ⊎ Contains (x.items ∷ []) ls → SameUnder ps t u ls
    by ls (inl g) = h ls g
    by ls (inr g) = last ls (first_or_behind x.items ls [] g)

take_over : {A : Type 0} (xs : List A) (i : ℕ) → length xs ≤ i → take i xs ≡ xs
take_over [] zero l = refl
take_over [] (suc i) l = refl
take_over (x ∷ xs) zero l = absurd (omega (arith, l))
take_over (x ∷ xs) (suc i) l = ap (λ zs. x ∷ zs) (take_over xs i (omega (arith, l)))

map_long : (xs : List (Vec ℕ Global)) → length (map items xs) ≡ length xs
map_long [] = refl
map_long (x ∷ xs) = ap suc (map_long xs)

pub same_end : (ps : List Point) (t u : PlainTerm) (xs : List (Vec ℕ Global)) (i : ℕ) → length xs ≤ i → AllSame ps t u (take i (map items xs)) → AllSame ps t u (map items xs)
same_end ps t u xs i l h = subst (AllSame ps t u) (take_over (map items xs) i (omega (arith, l, map_long xs))) h

pub rises : (ps : List Point) → Rising ps → PointsRise ps
rises [] r = tt
rises (p ∷ ps) r = (r.0, rises ps r.1)

-- each order has a rank for each point
pub all_long : (ps : List Point) (t u : PlainTerm) (all : List (List ℕ)) → ps ≡ points_of t u → all ≡ rankings_of ps → (ks : List ℕ) → Contains all ks → length ks ≡ length ps
all_long ps t u all e f ks h =
    let is : IsRanking (points_of t u) ks = (rankings_are_all (points_of t u) (rises (points_of t u) (order_rises (all_points t ++ all_points u))) ks).1 (subst (λ z. Contains z ks) (f ∙ ap rankings_of e) h) in
    is.long ∙ ap length (sym e)

pub all_are_same : (t u : PlainTerm) → length (points_of t u) ≤ 5 → AllSame (points_of t u) t u (rankings_of (points_of t u)) → OrderSame t u
all_are_same t u l h = record {
  few = l;
  same = λ ks is. h ks ((rankings_are_all (points_of t u) (rises (points_of t u) (order_rises (all_points t ++ all_points u))) ks).0 is);
}

order_is : (xs : List (Vec ℕ Global)) (n : ℕ) (v : Vec ℕ Global) (ks : List ℕ) → v ≡ slice_index_or xs n v → slice_get (map items xs) n ≡ Some ks → ks ≡ v.items
order_is xs n v ks e h =
    let l : n < length (map items xs) = slice_get_within (map items xs) n ks h in
    same_Some ks v.items (sym h ∙ stands_at xs n v (omega (arith, l, map_long xs)) e)

pub differs_is : (ps : List Point) (t u : PlainTerm) (xs : List (Vec ℕ Global)) (n : ℕ) (v : Vec ℕ Global) (x y : Normal) → ps ≡ points_of t u → map items xs ≡ rankings_of ps → v ≡ slice_index_or xs n v → DiffersAt ps t u (map items xs) (Some (n, (x, y))) → FirstDiffers (points_of t u) t u (rankings_of (points_of t u)) n v.items x y
differs_is ps t u xs n v x y e f g d =
    subst (λ z. FirstDiffers z t u (rankings_of z) n v.items x y) e
    (subst (λ all. FirstDiffers ps t u all n v.items x y) f
    (subst (λ ks. FirstDiffers ps t u (map items xs) n ks x y) (order_is xs n v d.0 g d.1.stands) d.1))

pub same_is : (ps : List Point) (t u : PlainTerm) (xs : List (Vec ℕ Global)) → ps ≡ points_of t u → map items xs ≡ rankings_of ps → length ps ≤ 5 → DiffersAt ps t u (map items xs) None → OrderSame t u
same_is ps t u xs e f l h =
    all_are_same t u (subst (λ z. length z ≤ 5) e l) (subst (λ z. AllSame z t u (rankings_of z)) e (subst (AllSame ps t u) f h))
