-- Tables, their items, and the slots that hold them.
use Rattle.std.proofs.Common.{◌≡◌, ℕ, zero, suc, ◌+◌, ◌<◌, ◌≤◌, Bool, true, false, List, [], ◌∷◌, length, Some, None, ℤ, pos, refl, sym, ap, ap₂, ◌∙◌, arith, slice_set}
use Rattle.std.specs.Prelude.{slice_get, cond, nat_eq, int_lt}
use Rattle.std.proofs.lemmas.Bool.Decides.{nat_tests}
use Rattle.std.proofs.lemmas.Int.{ints}
use Rattle.ca_model.specs.declared.value.Value.{Value as Datum}
use Rattle.ca_model.specs.declared.value.Slot.{Slot}
use Rattle.ca_model.specs.declared.value.Slot.TheVariants.{Many}
use Rattle.ca_model.specs.Slots.{one_in, put_slot}
use Rattle.ca_meaning.specs.Operators.{not_of, both}
use Rattle.ca_meaning.specs.Expressions.{value_at}
use Rattle.ca_tree.specs.declared.tree.BinaryOp.TheVariants.{Plus}
use Rattle.ca_sweep.specs.Means.{Table, items_from, between, swept_by, operate}

-- Items

pub item_there : (t : Table) (k n i : ℕ) → i < n → slice_get (items_from t k n) i ≡ Some (t (pos (k + i)))
item_there t k zero i l = absurd (omega (arith, l))
item_there t k (suc n) zero l = ap (λ z. Some (t (pos z))) (let e : k ≡ k + zero = omega arith in e)
item_there t k (suc n) (suc i) l = item_there t (suc k) n i (omega (arith, l)) ∙ ap (λ z. Some (t (pos z))) (let e : suc k + i ≡ k + suc i = omega arith in e)

pub item_gone : (t : Table) (k n i : ℕ) → n ≤ i → slice_get (items_from t k n) i ≡ None
item_gone t k zero i l = refl
item_gone t k (suc n) zero l = absurd (omega (arith, l))
item_gone t k (suc n) (suc i) l = item_gone t (suc k) n i (omega (arith, l))

-- the table u is t but for d at the index i
pub record Changed (t u : Table) (i : ℕ) (d : Datum) : Type 0 where
  pub here : u (pos i) ≡ d
  pub other : (n : ℕ) → nat_eq i n ≡ false → u (pos n) ≡ t (pos n)

other_below : (i n : ℕ) → n < i → nat_eq i n ≡ false
other_below i n l = grind (arith, nat_tests)

other_above : (i n : ℕ) → i < n → nat_eq i n ≡ false
other_above i n l = grind (arith, nat_tests)

items_above : (t u : Table) (d : Datum) (i : ℕ) → Changed t u i d → (k n : ℕ) → i < k → items_from t k n ≡ items_from u k n
items_above t u d i c k zero l = refl
items_above t u d i c k (suc n) l = ap₂ (λ x xs. x ∷ xs) (sym (c.other k (other_above i k l))) (items_above t u d i c (suc k) n (omega (arith, l)))

pub items_set : (t u : Table) (d : Datum) (k n i : ℕ) → Changed t u (k + i) d → slice_set (items_from t k n) i d ≡ items_from u k n
items_set t u d k zero i c = refl
items_set t u d k (suc n) zero c =
    ap₂ (λ x xs. x ∷ xs) (sym (ap (λ z. u (pos z)) (let e : k ≡ k + zero = omega arith in e) ∙ c.here)) (items_above t u d (k + zero) c (suc k) n (omega arith))
items_set t u d k (suc n) (suc i) c =
    let e : k + suc i ≡ suc k + i = omega arith in
    ap₂ (λ x xs. x ∷ xs) (sym (c.other k (other_below (k + suc i) k (omega arith))))
    (items_set t u d (suc k) n i (record { here = ap (λ z. u (pos z)) (sym e) ∙ c.here; other = λ n h. c.other n (ap (λ z. nat_eq z n) e ∙ h) }))

-- Slots

pub set_itself : {A : Type 0} (xs : List A) (i : ℕ) (x : A) → slice_get xs i ≡ Some x → xs ≡ slice_set xs i x
set_itself [] i x e = refl
set_itself (z ∷ xs) zero x e = let same : z ≡ x = cc in ap (λ r. r ∷ xs) same
set_itself (z ∷ xs) (suc i) x e = ap (λ r. z ∷ r) (set_itself xs i x e)

pub value_set : (ls : List Datum) (i : ℕ) (d : Datum) → i < length ls → value_at (slice_set ls i d) i ≡ d
value_set [] i d l = absurd (omega (arith, l))
value_set (x ∷ ls) zero d l = refl
value_set (x ∷ ls) (suc i) d l = value_set ls i d (omega (arith, l))

pub value_other : (ls : List Datum) (i n : ℕ) (d : Datum) → nat_eq i n ≡ false → value_at (slice_set ls i d) n ≡ value_at ls n
value_other [] i n d e = refl
value_other (x ∷ ls) zero zero d e = let z : nat_eq zero zero ≡ true = grind (arith, nat_tests) in let w : true ≡ false = sym z ∙ e in cc
value_other (x ∷ ls) zero (suc n) d e = refl
value_other (x ∷ ls) (suc i) zero d e = refl
value_other (x ∷ ls) (suc i) (suc n) d e = value_other ls i n d (let z : nat_eq (suc i) (suc n) ≡ nat_eq i n = grind (arith, nat_tests) in sym z ∙ e)

-- an item is put into a slot that was set to an array
pub put_set : (ss : List Slot) (f i : ℕ) (xs : List Datum) (d : Datum) → put_slot (slice_set ss f (Many xs)) f i d ≡ slice_set ss f (Many (slice_set xs i d))
put_set [] f i xs d = refl
put_set (s ∷ ss) zero i xs d = refl
put_set (s ∷ ss) (suc f) i xs d = ap (λ r. s ∷ r) (put_set ss f i xs d)

-- a field that is no array is read as before
pub one_set : (ss : List Slot) (f g : ℕ) (xs ys : List Datum) → slice_get ss f ≡ Some (Many xs) → one_in (slice_get (slice_set ss f (Many ys)) g) ≡ one_in (slice_get ss g)
one_set [] f g xs ys e = refl
one_set (s ∷ ss) zero zero xs ys e = let same : s ≡ Many xs = cc in sym (ap (λ z. one_in (Some z)) same)
one_set (s ∷ ss) zero (suc g) xs ys e = refl
one_set (s ∷ ss) (suc f) zero xs ys e = refl
one_set (s ∷ ss) (suc f) (suc g) xs ys e = one_set ss f g xs ys e

-- Ranges

-- from a number that is no less than the beginning, the range grows by that number
pub below : (m n : ℕ) → m < n → int_lt (pos m) (pos n) ≡ true
below m n l = grind (arith, nat_tests)

not_below : (m n : ℕ) → n ≤ m → int_lt (pos m) (pos n) ≡ false
not_below m n l = grind (arith, nat_tests)

same_here : (j m : ℕ) → j ≤ m → between (pos j) (pos (suc m)) (pos m) ≡ true
same_here j m l = ap₂ (λ a b. both (not_of a) b) (not_below m j l) (below m (suc m) (omega arith))

none_here : (j m : ℕ) → between (pos j) (pos m) (pos m) ≡ false
none_here j m = ap (λ b. both (not_of (int_lt (pos m) (pos j))) b) (not_below m m (omega arith)) ∙ at (int_lt (pos m) (pos j))
  where
    at : (b : Bool) → both (not_of b) false ≡ false
    at true = refl
    at false = refl

one_more : (m n : ℕ) → nat_eq m n ≡ false → int_lt (pos n) (pos (suc m)) ≡ int_lt (pos n) (pos m)
one_more m n e = grind (arith, nat_tests)

-- the next sum of a sweep changes one item
pub swept_changed : (t : Table) (j m : ℕ) (d : ℤ → Datum) → j ≤ m → Changed (swept_by t (pos j) (pos m) d) (swept_by t (pos j) (pos (suc m)) d) m (operate Plus (t (pos m)) (d (pos m)))
swept_changed t j m d l = record {
  here = ap (λ b. cond b (operate Plus (t (pos m)) (d (pos m))) (t (pos m))) (same_here j m l);
  other = λ n e. ap (λ b. cond (both (not_of (int_lt (pos n) (pos j))) b) (operate Plus (t (pos n)) (d (pos n))) (t (pos n))) (one_more m n e);
}

-- and finds that item as it was
pub swept_before : (t : Table) (j m : ℕ) (d : ℤ → Datum) → swept_by t (pos j) (pos m) d (pos m) ≡ t (pos m)
swept_before t j m d = ap (λ b. cond b (operate Plus (t (pos m)) (d (pos m))) (t (pos m))) (none_here j m)

-- where nothing lies between, nothing is swept
never_between : (from to k : ℤ) → int_lt from to ≡ false → between from to k ≡ false
never_between from to k e = at (int_lt k from) (int_lt k to) refl refl
  where
    at : (a b : Bool) → int_lt k from ≡ a → int_lt k to ≡ b → both (not_of a) b ≡ false
    at true b f g = refl
    at false false f g = refl
    at false true f g = absurd (omega (arith, ints, e, f, g))

pub items_same : (t u : Table) (k n : ℕ) → ((i : ℕ) → t (pos i) ≡ u (pos i)) → items_from t k n ≡ items_from u k n
items_same t u k zero e = refl
items_same t u k (suc n) e = ap₂ (λ x xs. x ∷ xs) (e k) (items_same t u (suc k) n e)

pub none_swept : (t : Table) (from to : ℤ) (d : ℤ → Datum) → int_lt from to ≡ false → (k : ℤ) → t k ≡ swept_by t from to d k
none_swept t from to d e k = ap (λ b. cond b (operate Plus (t k) (d k)) (t k)) (sym (never_between from to k e))
