-- Histories that are taken off the shelves and put in order.
use Rattle.std.proofs.Common.{◌≡◌, ◌≢◌, ◌<◌, ◌≤◌, ◌+◌, ◌-◌, ◌%◌, ◌⊎◌, inl, inr, ⊎_elim, ℕ, zero, suc, eqb, cond, List, [], ◌∷◌, ◌++◌, All, length, length-append, map, reverse, take, get_or, Option, Some, None, refl, ap, sym, subst, ◌∙◌, arith, append-nil, append_assoc, eq-eqb, ne_eqb, length-set, option_to_list}
use Rattle.std.specs.Prelude.{slice_get, slice_set}
use Rattle.std.specs.List.{Contains, sum_by}
use Rattle.std.specs.List.Sorted.{IsPermutation, IsNonDecreasingBy}
use Rattle.std.proofs.lemmas.List.{reverse-append, map-append}
use Rattle.std.proofs.lemmas.List.Elements.{All-append}
use Rattle.std.proofs.lemmas.List.Sorted.{All-permutation, Contains-permutation, IsPermutation-refl, IsPermutation-trans, IsPermutation-append, IsPermutation-to_front, IsPermutation-reverse, sum_by-IsPermutation, length_permutation}
use Rattle.std.proofs.lemmas.List.Sums.{sum_by-cons}
use Rattle.std.proofs.lemmas.Nat.{mod_below}
use mathlib.Core.Logic.{dite}
use native.Mathlib.Decide.{dec_le, ℕ_discrete}
use mathlib.Core.Option.{some, some-injective, some-ne-none}
use lib.ListN.{get_elem?}
use Rattle.ca_lists.proofs.Places.{get_set_here}
use Rattle.ca_model.specs.declared.value.Object.{Object}
use Rattle.ca_order_laws.proofs.Places.{get_else}
use Rattle.ca_logs.specs.declared.log.CellLog.{CellLog}
use Rattle.ca_logs.specs.Touched.{Touched, pairs, fresh, put_logs, logs_of, AreRising, AreBelow}
use Rattle.ca_logs.proofs.Touching.{logs_length, fresh_length, fresh_at, rising_more, pairs_more}
use Rattle.ca_cells.specs.clauses.Shelves.{found, AreOnce, IsIn, IsShelf, AreShelves, StandsAt, AreFrom, touched_of, all_touched, joined_shelves}
use Rattle.ca_cells.specs.declared.slot.Held.{Held}
use Rattle.ca_cells.proofs.Shelves.{found_here, found_past, none_cons, none_both, found_behind, once_without, all_without}

-- ---- what stands on shelves of different classes has different numbers

-- nothing of another class is found
pub none_of_class : (objects classes class : ℕ) (shelf : List Held) (n : ℕ) → All (λ (h : Held). IsIn objects classes class h.number) shelf → n % classes ≢ class → found shelf n ≡ None
none_of_class objects classes class [] n a ne = refl
none_of_class objects classes class (h ∷ hs) n a ne =
    none_cons h hs n (λ e. let z : IsIn objects classes class h.number = a 0 h (omega arith) in ne (ap (λ (x : ℕ). x % classes) (sym e) ∙ z.1)) (none_of_class objects classes class hs n (λ k d l. a (suc k) d (omega (arith, l))) ne)

once_both : (xs ys : List Held) → AreOnce xs → AreOnce ys → All (λ (h : Held). found ys h.number ≡ None) xs → AreOnce (xs ++ ys)
once_both [] ys a b n = b
once_both (x ∷ xs) ys a b n = (none_both xs ys x.number a.0 (n 0 x (omega arith)), once_both xs ys a.1 b (λ k d l. n (suc k) d (omega (arith, l))))

-- shelves of the classes from one on
abbrev pub AreFor : ℕ → ℕ → ℕ → List (List Held) → Type 0
AreFor objects classes from [] = Unit {0}
AreFor objects classes from (x ∷ xs) = IsShelf objects classes from x × AreFor objects classes (suc from) xs

each_is : (objects classes from : ℕ) (xs : List (List Held)) → ((k : ℕ) (x : List Held) → get_elem? xs k ≡ some x → IsShelf objects classes (from + k) x) → AreFor objects classes from xs
each_is objects classes from [] h = tt
each_is objects classes from (x ∷ xs) h = (
  subst (λ (c : ℕ). IsShelf objects classes c x) (let z : from + 0 ≡ from = omega arith in z) (h 0 x refl),
  each_is objects classes (suc from) xs (λ k y e. subst (λ (c : ℕ). IsShelf objects classes c y) (let z : from + suc k ≡ suc from + k = omega arith in z) (h (suc k) y e)),
)

from_none : (n : ℕ) → n ≡ 0 + n
from_none n = omega arith

pub are_for : (objects : ℕ) (xs : List (List Held)) → AreShelves objects xs → AreFor objects (length xs) 0 xs
are_for objects xs a = each_is objects (length xs) 0 xs (λ k x e. subst (λ (c : ℕ). IsShelf objects (length xs) c x) (from_none k) (a k x e))

-- nothing of a lower class
none_below : (objects classes from : ℕ) (xs : List (List Held)) (n : ℕ) → AreFor objects classes from xs → n % classes < from → found (joined_shelves xs) n ≡ None
none_below objects classes from [] n a l = refl
none_below objects classes from (x ∷ xs) n a l = none_both x (joined_shelves xs) n (none_of_class objects classes from x n a.0.inside (λ e. omega (arith, e, l))) (none_below objects classes (suc from) xs n a.1 (omega (arith, l)))

all_none : (objects classes from : ℕ) (shelf : List Held) (ys : List Held) → All (λ (h : Held). IsIn objects classes from h.number) shelf → ((n : ℕ) → n % classes ≡ from → found ys n ≡ None) → All (λ (h : Held). found ys h.number ≡ None) shelf
all_none objects classes from shelf ys a none k d l = none _ (a k d l).1

pub joined_once : (objects classes from : ℕ) (xs : List (List Held)) → AreFor objects classes from xs → AreOnce (joined_shelves xs)
joined_once objects classes from [] a = tt
joined_once objects classes from (x ∷ xs) a = once_both x (joined_shelves xs) a.0.once (joined_once objects classes (suc from) xs a.1)
    (all_none objects classes from x (joined_shelves xs) a.0.inside (λ n e. none_below objects classes (suc from) xs n a.1 (omega (arith, e))))

weaken : (objects classes class : ℕ) (xs : List Held) → All (λ (h : Held). IsIn objects classes class h.number) xs → All (λ (h : Held). h.number < objects) xs
weaken objects classes class xs a k d l = (a k d l).0

pub joined_inside : (objects classes from : ℕ) (xs : List (List Held)) → AreFor objects classes from xs → All (λ (h : Held). h.number < objects) (joined_shelves xs)
joined_inside objects classes from [] a k d l = absurd (omega (arith, l))
joined_inside objects classes from (x ∷ xs) a k d l = All-append (λ (h : Held). h.number < objects) x (joined_shelves xs) (weaken objects classes from x a.0.inside) (joined_inside objects classes (suc from) xs a.1) k d l

-- what is found is what its class's shelf has
pub joined_found : (objects classes from : ℕ) (xs : List (List Held)) (n k : ℕ) (shelf : List Held) → AreFor objects classes from xs → n % classes ≡ from + k → get_elem? xs k ≡ some shelf → found (joined_shelves xs) n ≡ found shelf n
joined_found objects classes from [] n k shelf a e at = absurd (some-ne-none shelf (sym at))
joined_found objects classes from (x ∷ xs) n zero shelf a e at =
    let same : x ≡ shelf = some-injective x shelf at in
    behind_none x (joined_shelves xs) n (none_below objects classes (suc from) xs n a.1 (omega (arith, e))) ∙ ap (λ (l : List Held). found l n) same
  where
    behind_none : (ys zs : List Held) (m : ℕ) → found zs m ≡ None → found (ys ++ zs) m ≡ found ys m
    behind_none [] zs m z = z
    behind_none (y ∷ ys) zs m z = dite (ℕ_discrete y.number m) (λ i. found_here y (ys ++ zs) m i ∙ sym (found_here y ys m i)) (λ no. found_past y (ys ++ zs) m no ∙ (behind_none ys zs m z ∙ sym (found_past y ys m no)))
joined_found objects classes from (x ∷ xs) n (suc k) shelf a e at =
    found_behind x (joined_shelves xs) n (none_of_class objects classes from x n a.0.inside (λ z. omega (arith, e, z)))
    ∙ joined_found objects classes (suc from) xs n k shelf a.1 (omega (arith, e)) at

-- ---- in another order

-- whether it has the number
is_number : ℕ → Held → ℕ
is_number n h = cond (eqb h.number n) 1 0

is_yes : (n : ℕ) (h : Held) → h.number ≡ n → is_number n h ≡ 1
unfolding is_number
is_yes n h e = ap (λ b. cond b 1 0) (eq-eqb h.number n e)

is_no : (n : ℕ) (h : Held) → h.number ≢ n → is_number n h ≡ 0
unfolding is_number
is_no n h ne = ap (λ b. cond b 1 0) (ne_eqb h.number n ne)

count_none : (n : ℕ) (xs : List Held) → found xs n ≡ None → sum_by (is_number n) xs ≡ 0
count_none n [] e = refl
count_none n (x ∷ xs) e = let ne : x.number ≢ n = λ i. absurd (let z : Some x.log ≡ None = sym (found_here x xs n i) ∙ e in cc) in
    sum_by-cons (is_number n) x xs ∙ let a = is_no n x ne in let b = count_none n xs (sym (found_past x xs n ne) ∙ e) in omega (arith, a, b)

none_counted : (n : ℕ) (xs : List Held) → sum_by (is_number n) xs ≡ 0 → found xs n ≡ None
none_counted n [] e = refl
none_counted n (x ∷ xs) e = let s = sum_by-cons (is_number n) x xs in
    let ne : x.number ≢ n = λ i. absurd (let a = is_yes n x i in omega (arith, a, s, e)) in
    none_cons x xs n ne (none_counted n xs (omega (arith, s, e)))

once_counts : (n : ℕ) (xs : List Held) → AreOnce xs → sum_by (is_number n) xs ≤ 1
once_counts n [] o = omega arith
once_counts n (x ∷ xs) o = let s = sum_by-cons (is_number n) x xs in dite (ℕ_discrete x.number n)
    (λ e. let a = is_yes n x e in let b = count_none n xs (ap (found xs) (sym e) ∙ o.0) in omega (arith, a, b, s))
    (λ ne. let a = is_no n x ne in let b = once_counts n xs o.1 in omega (arith, a, b, s))

counts_once : (xs : List Held) → ((n : ℕ) → sum_by (is_number n) xs ≤ 1) → AreOnce xs
counts_once [] h = tt
counts_once (x ∷ xs) h = (
  none_counted x.number xs (let s = sum_by-cons (is_number x.number) x xs in let a = is_yes x.number x refl in let b = h x.number in omega (arith, s, a, b)),
  counts_once xs (λ n. let s = sum_by-cons (is_number n) x xs in let b = h n in omega (arith, s, b)),
)

pub once_permuted : (xs ys : List Held) → IsPermutation xs ys → AreOnce xs → AreOnce ys
once_permuted xs ys p o = counts_once ys (λ n. let a = sum_by-IsPermutation (is_number n) xs ys p in let b = once_counts n xs o in omega (arith, a, b))

found_at : (xs : List Held) (h : Held) (k : ℕ) → k < length xs → get_or xs k h ≡ h → AreOnce xs → found xs h.number ≡ Some h.log
found_at [] h k l e o = absurd (omega (arith, l))
found_at (x ∷ xs) h zero l e o = found_here x xs h.number (ap (λ (y : Held). y.number) e) ∙ ap (λ (y : Held). Some y.log) e
found_at (x ∷ xs) h (suc k) l e o = let r = found_at xs h k (omega (arith, l)) e o.1 in
    found_past x xs h.number (λ i. absurd (let z : Some h.log ≡ None = sym r ∙ (ap (found xs) (sym i) ∙ o.0) in cc)) ∙ r

-- one that is found
record IsThere (xs : List Held) (n : ℕ) (its : CellLog) : Type 0 where
  one : Held
  there : Contains xs one
  number : one.number ≡ n
  log : one.log ≡ its

same_log_in : (a b : CellLog) → Some a ≡ Some b → a ≡ b
same_log_in a b e = cc

is_there : (xs : List Held) (n : ℕ) (log : CellLog) → found xs n ≡ Some log → IsThere xs n log
is_there [] n log e = absurd (cc)
is_there (x ∷ xs) n log e = dite (ℕ_discrete x.number n)
    (λ i. record { one = x; there = (0, omega arith, refl); number = i; log = same_log_in x.log log (sym (found_here x xs n i) ∙ e) })
    (λ ne. let r = is_there xs n log (sym (found_past x xs n ne) ∙ e) in record { one = r.one; there = (suc r.there.0, let l = r.there.1 in omega (arith, l), r.there.2); number = r.number; log = r.log })

by_option : {A : Type 0} (o : Option A) (P : Type 0) → (o ≡ None → P) → ((x : A) → o ≡ Some x → P) → P
by_option None P a b = a refl
by_option (Some x) P a b = b x refl

-- whatever order they come in
pub found_permuted : (xs ys : List Held) → IsPermutation xs ys → AreOnce xs → (n : ℕ) → found ys n ≡ found xs n
found_permuted xs ys p o n = by_option (found xs n) (found ys n ≡ found xs n)
    (λ none. none_counted n ys (sum_by-IsPermutation (is_number n) xs ys p ∙ count_none n xs none) ∙ sym none)
    (λ log e. let t = is_there xs n log e in let c = Contains-permutation xs ys t.one p t.there in
    ap (found ys) (sym t.number) ∙ (found_at ys t.one c.0 c.1 c.2 (once_permuted xs ys p o) ∙ (ap Some t.log ∙ sym e)))

-- ---- numbers that stand once and are below a bound are no more than that

-- one of this number, or none
record HasNumber (n : ℕ) (xs : List Held) : Type 0 where
  before : List Held
  one : Held
  behind : List Held
  is : xs ≡ before ++ one ∷ behind
  number : one.number ≡ n

split : (n : ℕ) (xs : List Held) → (found xs n ≡ None) ⊎ HasNumber n xs
split n [] = inl refl
split n (x ∷ xs) = dite (ℕ_discrete x.number n)
    (λ e. inr (record { before = []; one = x; behind = xs; is = refl; number = e }))
    (λ ne. ⊎_elim (λ none. inl (none_cons x xs n ne none)) (λ s. inr (record { before = x ∷ s.before; one = s.one; behind = s.behind; is = ap (λ (l : List Held). x ∷ l) s.is; number = s.number })) (split n xs))

none_at : (xs : List Held) (n : ℕ) → found xs n ≡ None → All (λ (h : Held). h.number ≢ n) xs
none_at [] n e k d l = absurd (omega (arith, l))
none_at (x ∷ xs) n e zero d l = λ i. absurd (let z : Some x.log ≡ None = sym (found_here x xs n i) ∙ e in cc)
none_at (x ∷ xs) n e (suc k) d l = dite (ℕ_discrete x.number n) (λ i. absurd (let z : Some x.log ≡ None = sym (found_here x xs n i) ∙ e in cc)) (λ ne. none_at xs n (sym (found_past x xs n ne) ∙ e) k d (omega (arith, l)))

lower : (n : ℕ) (xs : List Held) → All (λ (h : Held). h.number < suc n) xs → found xs n ≡ None → All (λ (h : Held). h.number < n) xs
lower n xs a e k d l = let b = a k d l in let ne = none_at xs n e k d l in ⊎_elim (λ m. m) (λ is. absurd (ne is)) (less_or_same (get_or xs k d).number n b)
  where
    less_or_same : (i m : ℕ) → i < suc m → (i < m) ⊎ (i ≡ m)
    less_or_same i m h = dite (dec_le (suc i) m) (λ l. inl l) (λ no. inr (omega (arith, h, no)))

pub few : (n : ℕ) (xs : List Held) → AreOnce xs → All (λ (h : Held). h.number < n) xs → length xs ≤ n
few zero [] o a = omega arith
few zero (x ∷ xs) o a = absurd (let z : x.number < 0 = a 0 x (omega arith) in omega (arith, z))
few (suc n) xs o a = ⊎_elim (λ none. let r = few n xs o (lower n xs a none) in omega (arith, r))
    (λ s. let w = once_without s.before s.one s.behind (subst AreOnce s.is o) in
    let rest : All (λ (h : Held). h.number < suc n) (s.before ++ s.behind) = all_without (λ (h : Held). h.number < suc n) s.before s.one s.behind (subst (All (λ (h : Held). h.number < suc n)) s.is a) in
    let r = few n (s.before ++ s.behind) w.0 (lower n (s.before ++ s.behind) rest (ap (found (s.before ++ s.behind)) (sym s.number) ∙ w.1)) in
    let l₁ = ap length s.is ∙ length-append s.before (s.one ∷ s.behind) in let l₂ = length-append s.before s.behind in omega (arith, r, l₁, l₂)) (split n xs)

-- ---- in order

abbrev pub Fall : List Held → Type 0
Fall [] = Unit {0}
Fall (x ∷ xs) = All (λ (y : Held). y.number < x.number) xs × Fall xs

pub falls : (xs : List Held) → IsNonDecreasingBy (λ (h : Held). 4294967295 - h.number) xs → All (λ (h : Held). h.number < 4294967296) xs → AreOnce xs → Fall xs
falls [] s a o = tt
falls (x ∷ xs) s a o = (
  (λ k d l. let up = s 0 (suc k) d (omega arith) (omega (arith, l)) in let b : (get_or xs k d).number < 4294967296 = a (suc k) d (omega (arith, l)) in let c : x.number < 4294967296 = a 0 x (omega arith) in
      let ne = none_at xs x.number o.0 k d l in lesser (get_or xs k d).number x.number ne (omega (arith, up, b, c))),
  falls xs (λ i j d le l. s (suc i) (suc j) d (omega (arith, le)) (omega (arith, l))) (λ k d l. a (suc k) d (omega (arith, l))) o.1,
)
  where
    lesser : (i m : ℕ) → i ≢ m → i ≤ m → i < m
    lesser i m ne le = dite (dec_le (suc i) m) (λ l. l) (λ no. absurd (ne (omega (arith, le, no))))

get_more : (ts : List Touched) (x y : Touched) (k : ℕ) → slice_get (ts ++ x ∷ []) k ≡ Some y → (slice_get ts k ≡ Some y) ⊎ (x ≡ y)
get_more [] x y zero e = inr (cc)
get_more [] x y (suc k) e = cc
get_more (z ∷ ts) x y zero e = inl e
get_more (z ∷ ts) x y (suc k) e = get_more ts x y k e

below_one_more : (ts : List Touched) (t : Touched) (n : ℕ) → AreBelow ts n → t.number < n → AreBelow (ts ++ t ∷ []) n
below_one_more ts t n b l i a e = ⊎_elim (λ (p : slice_get ts i ≡ Some a). b i a p) (λ (p : t ≡ a). subst (λ (c : Touched). c.number < n) p l) (get_more ts t a i e)

back_one : (x : Held) (xs : List Held) → all_touched (reverse (x ∷ xs)) ≡ all_touched (reverse xs) ++ touched_of x ∷ []
back_one x xs = ap all_touched (reverse-append (x ∷ []) xs) ∙ map-append touched_of (reverse xs) (x ∷ [])

pub below_back : (xs : List Held) (n : ℕ) → All (λ (h : Held). h.number < n) xs → AreBelow (all_touched (reverse xs)) n
below_back [] n a = λ i t e. cc
below_back (x ∷ xs) n a = subst (λ (ts : List Touched). AreBelow ts n) (sym (back_one x xs)) (below_one_more (all_touched (reverse xs)) (touched_of x) n (below_back xs n (λ k d l. a (suc k) d (omega (arith, l)))) (a 0 x (omega arith)))

pub rising_back : (xs : List Held) → Fall xs → AreRising (all_touched (reverse xs))
rising_back [] f = λ i j a b l x y. cc
rising_back (x ∷ xs) f = subst AreRising (sym (back_one x xs)) (rising_more (all_touched (reverse xs)) (touched_of x) (rising_back xs f.1) (below_back xs x.number f.0))

-- ---- the histories of all objects

found_or : Option CellLog → Option CellLog → Option CellLog
found_or None other = other
found_or (Some log) other = Some log

log_at : (logs : List CellLog) (i : ℕ) → i < length logs → (x : CellLog) × (slice_get logs i ≡ Some x)
log_at [] i l = absurd (omega (arith, l))
log_at (x ∷ xs) zero l = (x, refl)
log_at (x ∷ xs) (suc i) l = log_at xs i (omega (arith, l))

get_put : (xs : List Held) → AreOnce xs → (logs : List CellLog) (i : ℕ) → i < length logs → slice_get (put_logs (all_touched xs) logs) i ≡ found_or (found xs i) (slice_get logs i)
unfolding found_or
get_put [] o logs i l = refl
get_put (x ∷ xs) o logs i l = let logs' : List CellLog = slice_set logs x.number x.log in
    let rest = get_put xs o.1 logs' i (let z = length-set logs x.number x.log in omega (arith, z, l)) in
    dite (ℕ_discrete x.number i)
    (λ e. let was = log_at logs i l in
    rest ∙ (ap (λ (k : Option CellLog). found_or k (slice_get logs' i)) (ap (found xs) (sym e) ∙ o.0)
    ∙ (ap (λ (n : ℕ). slice_get (slice_set logs n x.log) i) e ∙ (get_set_here logs i was.0 x.log was.1 ∙ sym (ap (λ (k : Option CellLog). found_or k (slice_get logs i)) (found_here x xs i e))))))
    (λ ne. rest ∙ (ap (found_or (found xs i)) (get_else logs x.number i x.log ne) ∙ ap (λ (k : Option CellLog). found_or k (slice_get logs i)) (sym (found_past x xs i ne))))

past_none : (xs : List CellLog) (k : ℕ) (y : CellLog) → slice_get xs k ≡ Some y → k < length xs
past_none [] k y e = cc
past_none (t ∷ ts) zero y e = omega arith
past_none (t ∷ ts) (suc k) y e = let l = past_none ts k y e in omega (arith, l)

stands_at : (now : List Object) (i : ℕ) (kept : Option CellLog) (log : CellLog) → found_or kept (slice_get (map fresh now) i) ≡ Some log → StandsAt now i kept log
unfolding found_or
stands_at now i None log e = let f = fresh_at now i log e in (f.0, f.1, f.2)
stands_at now i (Some x) log e = same_log_in x log e

pub all_from : (now : List Object) (shelves : List (List Held)) (xs : List Held) → AreShelves (length now) shelves → 0 < length shelves → IsPermutation (joined_shelves shelves) xs → AreFrom now shelves (logs_of now (all_touched (reverse xs)))
all_from now shelves xs a some_class p i log e =
    let f = are_for (length now) shelves a in
    let all = joined_shelves shelves in
    let o : AreOnce all = joined_once (length now) (length shelves) 0 shelves f in
    let back : IsPermutation xs (reverse xs) = IsPermutation-reverse xs in
    let l : i < length (logs_of now (all_touched (reverse xs))) = past_none (logs_of now (all_touched (reverse xs))) i log e in
    let near : i < length (map fresh now) = let z = logs_length now (all_touched (reverse xs)) in let y = fresh_length now in omega (arith, l, z, y) in
    let inside : i < length now = let y = fresh_length now in omega (arith, near, y) in
    let class = i % length shelves in
    let at = shelf_at shelves class (mod_below i (length shelves) some_class) in
    let same : found (reverse xs) i ≡ found at.0 i = found_permuted xs (reverse xs) back (once_permuted all xs p o) i ∙ (found_permuted all xs p o i ∙ joined_found (length now) (length shelves) 0 shelves i class at.0 f (from_none class) at.1) in
    (inside, at.0, at.1, stands_at now i (found at.0 i) log (ap (λ (k : Option CellLog). found_or k (slice_get (map fresh now) i)) (sym same) ∙ (sym (get_put (reverse xs) (once_permuted xs (reverse xs) back (once_permuted all xs p o)) (map fresh now) i near) ∙ e)))
  where
    shelf_at : (ys : List (List Held)) (k : ℕ) → k < length ys → (y : List Held) × (get_elem? ys k ≡ some y)
    shelf_at [] k l = absurd (omega (arith, l))
    shelf_at (y ∷ ys) zero l = (y, refl)
    shelf_at (y ∷ ys) (suc k) l = shelf_at ys k (omega (arith, l))

-- what the touched histories are, once all are in order
pub record InOrderOf (objects : ℕ) (xs : List Held) : Type 0 where
  pub rising : AreRising (all_touched (reverse xs))
  pub below : AreBelow (all_touched (reverse xs)) objects
  pub few : length xs ≤ objects

pub in_order_of : (objects : ℕ) (shelves : List (List Held)) (xs ys : List Held) → objects ≤ 4294967295 → AreShelves objects shelves → IsPermutation (joined_shelves shelves) xs → IsPermutation xs ys → IsNonDecreasingBy (λ (h : Held). 4294967295 - h.number) ys → InOrderOf objects ys
in_order_of objects shelves xs ys small a p q s =
    let f = are_for objects shelves a in
    let all = joined_shelves shelves in
    let r : IsPermutation all ys = IsPermutation-trans all xs ys p q in
    let o : AreOnce ys = once_permuted all ys r (joined_once objects (length shelves) 0 shelves f) in
    let inside : All (λ (h : Held). h.number < objects) ys = All-permutation (λ (h : Held). h.number < objects) all ys r (joined_inside objects (length shelves) 0 shelves f) in
    record {
      rising = rising_back ys (falls ys s (λ k d l. let z = inside k d l in omega (arith, z, small)) o);
      below = below_back ys objects inside;
      few = few objects ys o inside;
    }

-- ---- the walk over the shelves

pub empty_list : (xs : List Held) → length xs ≡ 0 → xs ≡ []
empty_list [] e = refl
empty_list (x ∷ xs) e = absurd (omega (arith, e))

joined_more : (shelves : List (List Held)) (k : ℕ) (shelf : List Held) → get_elem? shelves k ≡ some shelf → joined_shelves (take (k + 1) shelves) ≡ joined_shelves (take k shelves) ++ shelf
joined_more shelves k shelf at = ap (λ (n : ℕ). joined_shelves (take n shelves)) (let z : k + 1 ≡ suc k = omega arith in z) ∙ go shelves k at
  where
    go : (ys : List (List Held)) (n : ℕ) → get_elem? ys n ≡ some shelf → joined_shelves (take (suc n) ys) ≡ joined_shelves (take n ys) ++ shelf
    go [] n e = absurd (some-ne-none shelf (sym e))
    go (y ∷ ys) zero e = append-nil y ∙ some-injective y shelf e
    go (y ∷ ys) (suc n) e = ap (λ (l : List Held). y ++ l) (go ys n e) ∙ sym (append_assoc y (joined_shelves (take n ys)) shelf)

pub poured_more : (shelves : List (List Held)) (k : ℕ) (shelf olds news : List Held) → get_elem? shelves k ≡ some shelf → IsPermutation (joined_shelves (take k shelves)) olds → IsPermutation (olds ++ shelf) news
    → IsPermutation (joined_shelves (take (k + 1) shelves)) news
poured_more shelves k shelf olds news at p q = subst (λ (l : List Held). IsPermutation l news) (sym (joined_more shelves k shelf at))
    (IsPermutation-trans (joined_shelves (take k shelves) ++ shelf) (olds ++ shelf) news (IsPermutation-append (joined_shelves (take k shelves)) olds shelf shelf p (IsPermutation-refl shelf)) q)

take_whole : (ys : List (List Held)) (n : ℕ) → n ≡ length ys → take n ys ≡ ys
take_whole [] zero e = refl
take_whole [] (suc n) e = absurd (omega (arith, e))
take_whole (y ∷ ys) zero e = absurd (omega (arith, e))
take_whole (y ∷ ys) (suc n) e = ap (λ (l : List (List Held)). y ∷ l) (take_whole ys n (omega (arith, e)))

pub all_poured : (shelves : List (List Held)) (n : ℕ) (xs : List Held) → n ≡ length shelves → IsPermutation (joined_shelves (take n shelves)) xs → IsPermutation (joined_shelves shelves) xs
all_poured shelves n xs e p = subst (λ (l : List (List Held)). IsPermutation (joined_shelves l) xs) (take_whole shelves n e) p

joined_short : (ys : List (List Held)) (n : ℕ) → length (joined_shelves (take n ys)) ≤ length (joined_shelves ys)
joined_short [] zero = omega arith
joined_short [] (suc n) = omega arith
joined_short (y ∷ ys) zero = omega arith
joined_short (y ∷ ys) (suc n) = let r = joined_short ys n in let a = length-append y (joined_shelves (take n ys)) in let b = length-append y (joined_shelves ys) in omega (arith, r, a, b)

-- there is room for one more shelf
pub room_for : (objects : ℕ) (shelves : List (List Held)) (k : ℕ) (shelf xs : List Held) → AreShelves objects shelves → get_elem? shelves k ≡ some shelf → IsPermutation (joined_shelves (take k shelves)) xs → length xs + length shelf ≤ objects
room_for objects shelves k shelf xs a at p =
    let f = are_for objects shelves a in
    let most = few objects (joined_shelves shelves) (joined_once objects (length shelves) 0 shelves f) (joined_inside objects (length shelves) 0 shelves f) in
    let more = ap length (joined_more shelves k shelf at) ∙ length-append (joined_shelves (take k shelves)) shelf in
    let same = length_permutation (joined_shelves (take k shelves)) xs p in
    let short = joined_short shelves (k + 1) in omega (arith, most, more, same, short)

-- one history is moved from the end of a list behind others
pub pour_one : (all done more left rest : List Held) (h : Held) → more ≡ done ++ h ∷ [] → left ≡ rest ++ h ∷ [] → IsPermutation all (done ++ left) → IsPermutation all (more ++ rest)
pour_one all done more left rest h a b p =
    let q : IsPermutation (done ++ left) (done ++ (h ∷ rest)) = IsPermutation-append done done left (h ∷ rest) (IsPermutation-refl done) (subst (λ (l : List Held). IsPermutation l (h ∷ rest)) (sym b) (IsPermutation-to_front rest h)) in
    subst (IsPermutation all) (sym (append_assoc done (h ∷ []) rest) ∙ ap (λ (l : List Held). l ++ rest) (sym a)) (IsPermutation-trans all (done ++ left) (done ++ (h ∷ rest)) p q)

-- the last history of a shelf is moved first
pub pour_last : (all items : List Held) (last : Option Held) → IsPermutation (all ++ (items ++ option_to_list last)) ((all ++ option_to_list last) ++ items)
pour_last all items None = subst (λ (l : List Held). IsPermutation (all ++ (items ++ [])) (l ++ items)) (sym (append-nil all)) (subst (λ (l : List Held). IsPermutation (all ++ l) (all ++ items)) (sym (append-nil items)) (IsPermutation-refl (all ++ items)))
pour_last all items (Some h) = pour_one (all ++ (items ++ h ∷ [])) all (all ++ h ∷ []) (items ++ h ∷ []) items h refl refl (IsPermutation-refl (all ++ (items ++ h ∷ [])))

pub part_none : (ns : List ℕ) (ls : List CellLog) (ts : List Touched) → length ns ≡ 0 → pairs ns ls ++ ts ≡ ts
part_none [] ls ts e = refl
part_none (n ∷ ns) ls ts e = absurd (omega (arith, e))

-- the last one is put behind those that were parted
pub part_one : (ns : List ℕ) (ls : List CellLog) (left rest : List Held) (h : Held) (all : List Touched) → length ns ≡ length ls → left ≡ rest ++ h ∷ [] → pairs ns ls ++ all_touched (reverse left) ≡ all
    → pairs (ns ++ h.number ∷ []) (ls ++ h.log ∷ []) ++ all_touched (reverse rest) ≡ all
part_one ns ls left rest h all same e p =
    ap (λ (ts : List Touched). ts ++ all_touched (reverse rest)) (pairs_more ns ls h.number h.log same)
    ∙ (append_assoc (pairs ns ls) (touched_of h ∷ []) (all_touched (reverse rest)) ∙ (ap (λ (ts : List Touched). pairs ns ls ++ ts) (sym (ap (λ (l : List Held). all_touched (reverse l)) e ∙ ap all_touched (reverse-append rest (h ∷ [])))) ∙ p))
