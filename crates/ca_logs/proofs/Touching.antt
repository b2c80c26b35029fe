-- The histories of all objects, with one more that was touched.
use Rattle.std.proofs.Common.{◌≡◌, ◌<◌, ◌+◌, ◌⊎◌, inl, inr, ⊎_elim, ℕ, zero, suc, List, [], ◌∷◌, ◌++◌, length, length-append, map, Some, refl, ap, sym, subst, ◌∙◌, arith, length-set}
use Rattle.std.proofs.lemmas.List.{set_comm}
use Rattle.std.specs.Prelude.{slice_get, slice_set}
use Rattle.ca_model.specs.declared.value.Object.{Object}
use Rattle.ca_logs.specs.declared.log.CellLog.{CellLog}
use Rattle.ca_logs.specs.Touched.{Touched, pairs, fresh, put_logs, logs_of, AreRising, AreBelow}

pub put_one_more : (ts : List Touched) (t : Touched) (logs : List CellLog) → put_logs (ts ++ t ∷ []) logs ≡ slice_set (put_logs ts logs) t.number t.log
put_one_more [] t logs = refl
put_one_more (x ∷ ts) t logs = put_one_more ts t (slice_set logs x.number x.log)

pub put_length : (ts : List Touched) (logs : List CellLog) → length (put_logs ts logs) ≡ length logs
put_length [] logs = refl
put_length (t ∷ ts) logs = put_length ts (slice_set logs t.number t.log) ∙ length-set logs t.number t.log

pub fresh_length : (now : List Object) → length (map fresh now) ≡ length now
fresh_length [] = refl
fresh_length (o ∷ os) = ap suc (fresh_length os)

-- there are as many as objects
pub logs_length : (now : List Object) (ts : List Touched) → length (logs_of now ts) ≡ length now
logs_length now ts = put_length ts (map fresh now) ∙ fresh_length now

-- the object of an untouched history
pub fresh_at : (now : List Object) (i : ℕ) (log : CellLog) → slice_get (map fresh now) i ≡ Some log → (log.entries ≡ []) × (log.object ≡ log.opened.value) × (slice_get now i ≡ Some log.opened.value)
fresh_at [] i log e = cc
fresh_at (o ∷ os) zero log e = let s : fresh o ≡ log = same_log (fresh o) log e in (ap (λ (l : CellLog). l.entries) (sym s), ap (λ (l : CellLog). l.object) (sym s) ∙ ap (λ (l : CellLog). l.opened.value) s, ap (λ (l : CellLog). Some l.opened.value) s) where
  same_log : (a b : CellLog) → Some a ≡ Some b → a ≡ b
  same_log a b e = cc
fresh_at (o ∷ os) (suc i) log e = fresh_at os i log e

get_more : (ts : List Touched) (x y : Touched) (k : ℕ) → slice_get (ts ++ x ∷ []) k ≡ Some y → (slice_get ts k ≡ Some y) ⊎ ((k ≡ length ts) × (x ≡ y))
get_more [] x y zero e = inr (refl, cc)
get_more [] x y (suc k) e = cc
get_more (z ∷ ts) x y zero e = inl e
get_more (z ∷ ts) x y (suc k) e = ⊎_elim inl (λ h. inr (ap suc h.0, h.1)) (get_more ts x y k e)

past_none : (ts : List Touched) (k : ℕ) (y : Touched) → slice_get ts k ≡ Some y → k < length ts
past_none [] k y e = cc
past_none (t ∷ ts) zero y e = omega arith
past_none (t ∷ ts) (suc k) y e = let l = past_none ts k y e in omega arith

pub rising_more : (ts : List Touched) (t : Touched) → AreRising ts → AreBelow ts t.number → AreRising (ts ++ t ∷ [])
rising_more ts t h below i j a b l x y = ⊎_elim
    (λ (q : slice_get ts j ≡ Some b). ⊎_elim (λ (p : slice_get ts i ≡ Some a). h i j a b l p q) (λ (p : (i ≡ length ts) × (t ≡ a)). absurd (let m = past_none ts j b q in let z = p.0 in omega arith)) (get_more ts t a i x))
    (λ (q : (j ≡ length ts) × (t ≡ b)). ⊎_elim (λ (p : slice_get ts i ≡ Some a). subst (λ (c : Touched). a.number < c.number) q.1 (below i a p)) (λ (p : (i ≡ length ts) × (t ≡ a)). absurd (let z = p.0 in let w = q.0 in omega arith)) (get_more ts t a i x))
    (get_more ts t b j y)

pub below_more : (ts : List Touched) (t : Touched) → AreBelow ts t.number → AreBelow (ts ++ t ∷ []) (t.number + 1)
below_more ts t below i a x = ⊎_elim (λ (p : slice_get ts i ≡ Some a). let l = below i a p in omega arith) (λ (p : (i ≡ length ts) × (t ≡ a)). let e = ap (λ (c : Touched). c.number) p.1 in omega arith) (get_more ts t a i x)

pub below_next : (ts : List Touched) (n : ℕ) → AreBelow ts n → AreBelow ts (n + 1)
below_next ts n below i a x = let l = below i a x in omega arith

pub none_rising : (ts : List Touched) → length ts ≡ 0 → AreRising ts × AreBelow ts 0
none_rising [] e = ((λ i j a b l x y. cc), (λ i a x. cc))
none_rising (t ∷ ts) e = absurd (omega arith)

-- one pair more
pub pairs_more : (ns : List ℕ) (ls : List CellLog) (n : ℕ) (l : CellLog) → length ns ≡ length ls → pairs (ns ++ n ∷ []) (ls ++ l ∷ []) ≡ pairs ns ls ++ record { number = n; log = l } ∷ []
pairs_more [] [] n l e = refl
pairs_more [] (y ∷ ls) n l e = absurd (omega arith)
pairs_more (x ∷ ns) [] n l e = absurd (omega arith)
pairs_more (x ∷ ns) (y ∷ ls) n l e = ap (λ (ts : List Touched). record { number = x; log = y } ∷ ts) (pairs_more ns ls n l (omega arith))

pub pairs_long : (ns : List ℕ) (ls : List CellLog) → length ns ≡ length ls → length (pairs ns ls) ≡ length ls
pairs_long [] [] e = refl
pairs_long [] (y ∷ ls) e = absurd (omega arith)
pairs_long (x ∷ ns) [] e = absurd (omega arith)
pairs_long (x ∷ ns) (y ∷ ls) e = ap suc (pairs_long ns ls (omega arith))

-- ---- without the last one

get_longer : (ts : List Touched) (x y : Touched) (k : ℕ) → slice_get ts k ≡ Some y → slice_get (ts ++ x ∷ []) k ≡ Some y
get_longer [] x y k e = absurd (cc)
get_longer (t ∷ ts) x y zero e = e
get_longer (t ∷ ts) x y (suc k) e = get_longer ts x y k e

get_last : (ts : List Touched) (x : Touched) → slice_get (ts ++ x ∷ []) (length ts) ≡ Some x
get_last [] x = refl
get_last (t ∷ ts) x = get_last ts x

pub rising_less : (ts : List Touched) (t : Touched) → AreRising (ts ++ t ∷ []) → AreRising ts × AreBelow ts t.number
rising_less ts t h =
    ((λ i j a b l x y. h i j a b l (get_longer ts t a i x) (get_longer ts t b j y)), (λ i a x. h i (length ts) a t (past_none ts i a x) (get_longer ts t a i x) (get_last ts t)))

pub below_less : (ts : List Touched) (t : Touched) (n : ℕ) → AreBelow (ts ++ t ∷ []) n → AreBelow ts n × (t.number < n)
below_less ts t n h = ((λ i a x. h i a (get_longer ts t a i x)), h (length ts) t (get_last ts t))

-- the last number and the last history are the last pair
pub pairs_last : (ns ns' : List ℕ) (ls ls' : List CellLog) (n : ℕ) (l : CellLog) → length ls ≡ length ns → ns ≡ ns' ++ n ∷ [] → ls ≡ ls' ++ l ∷ [] → (length ls' ≡ length ns') × (pairs ns ls ≡ pairs ns' ls' ++ record { number = n; log = l } ∷ [])
pairs_last ns ns' ls ls' n l e a b =
    let x : length ns ≡ length ns' + 1 = ap length a ∙ length-append ns' (n ∷ []) in
    let y : length ls ≡ length ls' + 1 = ap length b ∙ length-append ls' (l ∷ []) in
    let as_many : length ls' ≡ length ns' = omega (arith, e, x, y) in
    (as_many, ap (λ (xs : List ℕ). pairs xs ls) a ∙ (ap (pairs (ns' ++ n ∷ [])) b ∙ pairs_more ns' ls' n l (sym as_many)))

-- a history that is put behind the others may be put before them
pub put_last : (ts : List Touched) (n : ℕ) (l : CellLog) (logs : List CellLog) → AreBelow ts n → put_logs ts (slice_set logs n l) ≡ slice_set (put_logs ts logs) n l
put_last [] n l logs below = refl
put_last (t ∷ ts) n l logs below = let m = below 0 t refl in ap (put_logs ts) (set_comm logs n t.number l t.log (λ e. omega arith)) ∙ put_last ts n l (slice_set logs t.number t.log) (λ i a e. below (suc i) a e)
