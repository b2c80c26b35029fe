-- Lists of ranks, and what is told of them one by one.
use Rattle.std.proofs.Common.{◌≡◌, ℕ, zero, suc, ◌+◌, ◌<◌, ◌≤◌, Bool, true, false, cond, List, [], ◌∷◌, ◌++◌, length, map, drop, take, refl, sym, ap, ap₂, ◌∙◌, arith, slice_index_or, Global, Vec}
use Rattle.std.specs.Prelude.{Result, Ok, Err, IfOk, IsOkAnd}
use Rattle.std.specs.List.{filter}
use Rattle.std.proofs.lemmas.List.{map-append, append_assoc, drop_all}
use Rattle.ca_order.specs.declared.point.Point.{Point}
use Rattle.ca_order.specs.declared.point.Point.TheVariants as point
use Rattle.ca_order.specs.declared.rankings.Ranking.{Ranking}
use Rattle.ca_order.specs.Rankings.{numbers_rise, each_behind, points_and_ranks}

abbrev pub items : Vec ℕ Global → List ℕ
items v = v.items

rise_none : (ps : List Point) → numbers_rise ps [] ≡ true
rise_none [] = refl
rise_none (point.Number n ∷ ps) = refl
rise_none (point.Atom g n ∷ ps) = refl

pub no_ranks : (ps : List Point) (ks : List ℕ) (i : ℕ) → length ks ≤ i → numbers_rise ps (drop i ks) ≡ true
no_ranks ps ks i l = ap (numbers_rise ps) (drop_all i ks l) ∙ rise_none ps

rise_all : (ks : List ℕ) → numbers_rise [] ks ≡ true
rise_all ks = refl

pub no_points : (ps : List Point) (ks : List ℕ) (i : ℕ) → length ps ≤ i → numbers_rise (drop i ps) ks ≡ true
no_points ps ks i l = ap (λ z. numbers_rise z ks) (drop_all i ps l) ∙ rise_all ks

each_append : (k : ℕ) (xs : List (List ℕ)) (y : List ℕ) → each_behind k (xs ++ y ∷ []) ≡ each_behind k xs ++ (k ∷ y) ∷ []
each_append k [] y = refl
each_append k (x ∷ xs) y = ap (λ zs. (k ∷ x) ∷ zs) (each_append k xs y)

take_more : (xs : List (Vec ℕ Global)) (i : ℕ) (x : Vec ℕ Global) → i < length xs → x ≡ slice_index_or xs i x → map items (take (i + 1) xs) ≡ map items (take i xs) ++ x.items ∷ []
take_more xs i x l e = ap (λ n. map items (take n xs)) (let z : i + 1 ≡ suc i = omega arith in z) ∙ by xs i l e
  where
    by : (xs : List (Vec ℕ Global)) (i : ℕ) → i < length xs → x ≡ slice_index_or xs i x → map items (take (suc i) xs) ≡ map items (take i xs) ++ x.items ∷ []
    by [] i l e = absurd (omega (arith, l))
    by (y ∷ xs) zero l e = ap (λ (z : Vec ℕ Global). z.items ∷ []) (sym e)
    by (y ∷ xs) (suc i) l e = ap (λ zs. y.items ∷ zs) (by xs i (omega (arith, l)) e)

put_items : {E : Type 0} (r : Result (Vec ℕ Global) E) (u : List ℕ) (old new : List (Vec ℕ Global)) → IsOkAnd r (λ x. new ≡ old ++ x ∷ []) → IfOk r (λ v. v.items ≡ u) → map items new ≡ map items old ++ u ∷ []
put_items (Ok v) u old new e f = ap (map items) e ∙ map-append items old (v ∷ []) ∙ ap (λ z. map items old ++ z ∷ []) f
put_items (Err x) u old new e f = absurd e

pub one_behind : {E : Type 0} (r : Result (Vec ℕ Global) E) (k i : ℕ) (x : Vec ℕ Global) (xs first old new : List (Vec ℕ Global)) → i < length xs → x ≡ slice_index_or xs i x →
    IsOkAnd r (λ y. new ≡ old ++ y ∷ []) → IfOk r (λ v. v.items ≡ k ∷ x.items) → map items old ≡ map items first ++ each_behind k (map items (take i xs)) →
    map items new ≡ map items first ++ each_behind k (map items (take (i + 1) xs))
one_behind r k i x xs first old new l e h f g =
    put_items r (k ∷ x.items) old new h f ∙ ap (λ z. z ++ (k ∷ x.items) ∷ []) g
    ∙ append_assoc (map items first) (each_behind k (map items (take i xs))) ((k ∷ x.items) ∷ [])
    ∙ ap (λ z. map items first ++ z) (sym (each_append k (map items (take i xs)) x.items) ∙ ap (each_behind k) (sym (take_more xs i x l e)))

filter_append : (p : List ℕ → Bool) (xs : List (List ℕ)) (y : List ℕ) → filter p (xs ++ y ∷ []) ≡ filter p xs ++ cond (p y) (y ∷ []) []
filter_append p [] y = by (p y)
  where
    by : (b : Bool) → cond b (y ∷ []) [] ≡ [] ++ cond b (y ∷ []) []
    by true = refl
    by false = refl
filter_append p (x ∷ xs) y = by (p x) (filter_append p xs y)
  where
    by : (b : Bool) → filter p (xs ++ y ∷ []) ≡ filter p xs ++ cond (p y) (y ∷ []) [] → cond b (x ∷ filter p (xs ++ y ∷ [])) (filter p (xs ++ y ∷ [])) ≡ cond b (x ∷ filter p xs) (filter p xs) ++ cond (p y) (y ∷ []) []
    by true h = ap (λ zs. x ∷ zs) h
    by false h = h

pub one_kept : (p : List ℕ → Bool) (i : ℕ) (x : Vec ℕ Global) (xs : List (Vec ℕ Global)) → i < length xs → x ≡ slice_index_or xs i x →
    filter p (map items (take (i + 1) xs)) ≡ filter p (map items (take i xs)) ++ cond (p x.items) (x.items ∷ []) []
one_kept p i x xs l e = ap (filter p) (take_more xs i x l e) ∙ filter_append p (map items (take i xs)) x.items

pub kept_more : {E : Type 0} (r : Result (Vec ℕ Global) E) (p : List ℕ → Bool) (i : ℕ) (x : Vec ℕ Global) (xs old new : List (Vec ℕ Global)) → i < length xs → x ≡ slice_index_or xs i x →
    p x.items ≡ true → IsOkAnd r (λ y. new ≡ old ++ y ∷ []) → IfOk r (λ v. v.items ≡ x.items) → map items old ≡ filter p (map items (take i xs)) →
    map items new ≡ filter p (map items (take (i + 1) xs))
kept_more r p i x xs old new l e t h f g =
    put_items r x.items old new h f ∙ ap (λ z. z ++ x.items ∷ []) g ∙ sym (one_kept p i x xs l e ∙ ap (λ b. filter p (map items (take i xs)) ++ cond b (x.items ∷ []) []) t)

-- points with each of some lists of ranks
abbrev pub with_ranks : List Point → List ℕ → List Point × List ℕ
with_ranks ps ks = (ps, ks)

-- one order more
pub one_ranking : {E : Type 0} (r : Result Ranking E) (ps : List Point) (i : ℕ) (x : Vec ℕ Global) (xs : List (Vec ℕ Global)) (old new : List Ranking) → i < length xs → x ≡ slice_index_or xs i x →
    IsOkAnd r (λ y. new ≡ old ++ y ∷ []) → IfOk r (λ y. y.points.items ≡ ps) → IfOk r (λ y. y.ranks.items ≡ x.items) → map points_and_ranks old ≡ map (with_ranks ps) (map items (take i xs)) →
    map points_and_ranks new ≡ map (with_ranks ps) (map items (take (i + 1) xs))
one_ranking (Ok y) ps i x xs old new l e h f k g =
    ap (map points_and_ranks) h ∙ map-append points_and_ranks old (y ∷ []) ∙ ap₂ (λ (a b : List (List Point × List ℕ)). a ++ b) g (ap₂ (λ (a : List Point) (b : List ℕ). (a, b) ∷ []) f k)
    ∙ sym (map-append (with_ranks ps) (map items (take i xs)) (x.items ∷ [])) ∙ ap (map (with_ranks ps)) (sym (take_more xs i x l e))
one_ranking (Err y) ps i x xs old new l e h f k g = absurd h
