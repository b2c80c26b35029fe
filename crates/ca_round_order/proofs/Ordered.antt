-- The order of a log is the stable order of its entries by clock and object.
use Rattle.std.proofs.Common.{◌≡◌, ℕ, ◌<◌, ◌≤◌, ◌⊎◌, inl, inr, Bool, true, false, true≢false, ◌&&◌, ◌||◌, cond, nat_lt, nat_eq, List, [], ◌∷◌, filter, map, refl, ap, sym, subst, ◌∙◌, arith}
use Rattle.std.specs.Cmp.{IsStrictWeakOrder}
use Rattle.std.specs.Ordering.{is_lt, ordering_then, nat_cmp}
use Rattle.std.specs.declared.cmp.Ordering.TheVariants.{Less, Equal, Greater}
use Rattle.std.specs.List.Sorted.{ties}
use Rattle.ca_logs.specs.declared.log.Entry.{Entry}
use Rattle.ca_logs.specs.LogOrder.{number_of, comes_before, put_in, ordered}
use Rattle.ca_logs.proofs.Comparing.{less_true, less_false, by_bool}
use Rattle.ca_round_order.specs.declared.order.Timed.{Timed}
use Rattle.ca_round_order.specs.Timed.{timed_of, earlier, IsOrdered}
use Rattle.ca_round_order.proofs.Stable.{cond_true, cond_false, first_not, second_not, NoneBefore, no_more, not_before, Up, up_none, up, from_sorted, unique, up_map, filter_map}

-- ---- what comes before, on numbers

abbrev less : ℕ → ℕ → ℕ → ℕ → Bool
less c d m n = nat_lt c d || (nat_eq c d && nat_lt m n)

one_way_on : (c d m n : ℕ) → less c d m n ≡ true → less d c n m ≡ false
one_way_on c d m n e = by_bool (less d c n m ≡ false) (less d c n m) (λ t. absurd (clash (less_true c d m n e) (less_true d c n m t))) (λ f. f)
  where
    clash : (c < d) ⊎ ((c ≡ d) × (m < n)) → (d < c) ⊎ ((d ≡ c) × (n < m)) → ⊥
    clash (inl a) (inl b) = absurd (omega (arith, a, b))
    clash (inl a) (inr b) = absurd (let q = b.0 in omega (arith, a, q))
    clash (inr a) (inl b) = absurd (let q = a.0 in omega (arith, b, q))
    clash (inr a) (inr b) = absurd (let q = a.1 in let r = b.1 in omega (arith, q, r))

chain_on : (a b c k l m : ℕ) → less a b k l ≡ false → less b c l m ≡ false → less a c k m ≡ false
chain_on a b c k l m e f = by_bool (less a c k m ≡ false) (less a c k m) (λ t. absurd (clash (less_true a c k m t) (less_false a b k l e) (less_false b c l m f))) (λ q. q)
  where
    clash : (a < c) ⊎ ((a ≡ c) × (k < m)) → (b < a) ⊎ ((b ≡ a) × (l ≤ k)) → (c < b) ⊎ ((c ≡ b) × (m ≤ l)) → ⊥
    clash (inl x) (inl y) (inl z) = absurd (omega (arith, x, y, z))
    clash (inl x) (inl y) (inr z) = absurd (let q = z.0 in omega (arith, x, y, q))
    clash (inl x) (inr y) (inl z) = absurd (let q = y.0 in omega (arith, x, z, q))
    clash (inl x) (inr y) (inr z) = absurd (let q = y.0 in let r = z.0 in omega (arith, x, q, r))
    clash (inr x) (inl y) (inl z) = absurd (let q = x.0 in omega (arith, y, z, q))
    clash (inr x) (inl y) (inr z) = absurd (let q = x.0 in let r = z.0 in omega (arith, y, q, r))
    clash (inr x) (inr y) (inl z) = absurd (let q = x.0 in let r = y.0 in omega (arith, z, q, r))
    clash (inr x) (inr y) (inr z) = absurd (let q = x.1 in let r = y.1 in let s = z.1 in omega (arith, q, r, s))

by_clock : IsStrictWeakOrder comes_before
by_clock = record {
  one_way = λ a b e. one_way_on a.clock b.clock (number_of a) (number_of b) e;
  chain = λ a b c e f. chain_on a.clock b.clock c.clock (number_of a) (number_of b) (number_of c) e f;
}

-- the comparison of keys is the same
compared : (c d m n : ℕ) → is_lt (ordering_then (nat_cmp c d) (nat_cmp m n)) ≡ less c d m n
compared c d m n = from (nat_lt c d) (nat_eq c d) (nat_lt m n) (nat_eq m n)
  where
    from : (x y z w : Bool) → is_lt (ordering_then (cond x Less (cond y Equal Greater)) (cond z Less (cond w Equal Greater))) ≡ x || (y && z)
    from true y z w = refl
    from false true true w = refl
    from false true false true = refl
    from false true false false = refl
    from false false z w = refl

by_key : IsStrictWeakOrder earlier
by_key = record {
  one_way = λ a b e. compared b.clock a.clock b.number a.number ∙ one_way_on a.clock b.clock a.number b.number (sym (compared a.clock b.clock a.number b.number) ∙ e);
  chain = λ a b c e f. compared a.clock c.clock a.number c.number ∙ chain_on a.clock b.clock c.clock a.number b.number c.number (sym (compared a.clock b.clock a.number b.number) ∙ e) (sym (compared b.clock c.clock b.number c.number) ∙ f);
}

-- ---- the order of a log

put_none : (x e : Entry) (xs : List Entry) → comes_before e x ≡ false → NoneBefore comes_before x xs → NoneBefore comes_before x (put_in e xs)
put_none x e [] b no_more = not_before e [] b no_more
put_none x e (y ∷ ys) b (not_before y2 ys2 c more) = from (comes_before y e) (put_none x e ys b more)
  where
    from : (t : Bool) → NoneBefore comes_before x (put_in e ys) → NoneBefore comes_before x (cond t (y ∷ put_in e ys) (e ∷ y ∷ ys))
    from true r = not_before y (put_in e ys) c r
    from false r = not_before e (y ∷ ys) b (not_before y ys c more)

behind_too : (e x : Entry) (xs : List Entry) → comes_before x e ≡ false → NoneBefore comes_before x xs → NoneBefore comes_before e xs
behind_too e x [] b no_more = no_more
behind_too e x (y ∷ ys) b (not_before y2 ys2 c more) = not_before y ys (by_clock.chain y x e c b) (behind_too e x ys b more)

put_up : (e : Entry) (xs : List Entry) → Up comes_before xs → Up comes_before (put_in e xs)
put_up e [] up_none = up e [] no_more up_none
put_up e (x ∷ xs) (up x2 xs2 b more) =
    by_bool (Up comes_before (put_in e (x ∷ xs))) (comes_before x e)
    (λ t. subst (λ l. Up comes_before l) (sym (cond_true (comes_before x e) (x ∷ put_in e xs) (e ∷ x ∷ xs) t)) (up x (put_in e xs) (put_none x e xs (by_clock.one_way x e t) b) (put_up e xs more)))
    (λ f. subst (λ l. Up comes_before l) (sym (cond_false (comes_before x e) (x ∷ put_in e xs) (e ∷ x ∷ xs) f)) (up e (x ∷ xs) (not_before x xs f (behind_too e x xs f b)) (up x xs b more)))

ordered_up : (es : List Entry) → Up comes_before (ordered es)
ordered_up [] = up_none
ordered_up (e ∷ es) = put_up e (ordered es) (ordered_up es)

-- a test that never holds of two of which one comes before the other passes the same entries in the same order
module _ (q : Entry → Bool) (alike : (a b : Entry) → q a ≡ true → q b ≡ true → comes_before a b ≡ false) where
  put_passes : (e : Entry) (xs : List Entry) → filter q (put_in e xs) ≡ filter q (e ∷ xs)
  put_passes e [] = refl
  put_passes e (x ∷ xs) =
      by_bool (filter q (put_in e (x ∷ xs)) ≡ filter q (e ∷ x ∷ xs)) (comes_before x e)
      (λ t. ap (λ (l : List Entry). filter q l) (cond_true (comes_before x e) (x ∷ put_in e xs) (e ∷ x ∷ xs) t) ∙ (ap (λ (l : List Entry). cond (q x) (x ∷ l) l) (put_passes e xs) ∙ turned (q x) (q e) (filter q xs) (λ a b. true≢false (sym t ∙ alike x e a b))))
      (λ f. ap (λ (l : List Entry). filter q l) (cond_false (comes_before x e) (x ∷ put_in e xs) (e ∷ x ∷ xs) f))
    where
      turned : (a b : Bool) (l : List Entry) → (a ≡ true → b ≡ true → ⊥) → cond a (x ∷ cond b (e ∷ l) l) (cond b (e ∷ l) l) ≡ cond b (e ∷ cond a (x ∷ l) l) (cond a (x ∷ l) l)
      turned true true l never = absurd (never refl refl)
      turned true false l never = refl
      turned false true l never = refl
      turned false false l never = refl

  ordered_passes : (es : List Entry) → filter q (ordered es) ≡ filter q es
  ordered_passes [] = refl
  ordered_passes (e ∷ es) = put_passes e (ordered es) ∙ ap (λ (l : List Entry). cond (q e) (e ∷ l) l) (ordered_passes es)

-- so what a stable sort gives is the order of the log
pub sorted_is : (es : List Entry) (before ts : List Timed) → before ≡ map timed_of es → IsOrdered before ts → ts ≡ map timed_of (ordered es)
sorted_is es before ts is o =
    unique earlier by_key ts (map timed_of (ordered es)) (from_sorted earlier by_key ts o.sorted)
    (up_map timed_of comes_before earlier (λ a b. compared a.clock b.clock (number_of a) (number_of b)) (ordered es) (ordered_up es))
    (λ x. o.stable x ∙ (ap (λ (l : List Timed). filter (ties earlier x) l) is ∙ (filter_map timed_of (ties earlier x) es
    ∙ (ap (λ (l : List Entry). map timed_of l) (sym (ordered_passes (λ a. ties earlier x (timed_of a)) (alike x) es)) ∙ sym (filter_map timed_of (ties earlier x) (ordered es))))))
  where
    alike : (x : Timed) (a b : Entry) → ties earlier x (timed_of a) ≡ true → ties earlier x (timed_of b) ≡ true → comes_before a b ≡ false
    alike x a b p q =
        sym (compared a.clock b.clock (number_of a) (number_of b)) ∙ by_key.chain (timed_of a) x (timed_of b) (second_not (earlier x (timed_of a)) (earlier (timed_of a) x) p) (first_not (earlier x (timed_of b)) (earlier (timed_of b) x) q)
