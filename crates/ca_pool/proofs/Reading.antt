-- What is read off the histories of all objects, one behind the other, is read off those that were touched, where an untouched one adds nothing.
use Rattle.std.proofs.Common.{length-append, true, ◌≡◌, ◌<◌, ◌≤◌, ◌+◌, ◌-◌, ◌⊎◌, inl, inr, ⊎_elim, ℕ, zero, suc, List, [], ◌∷◌, ◌++◌, length, map, Option, Some, None, refl, ap, sym, subst, ◌∙◌, arith}
use Rattle.std.specs.Prelude.{slice_get, slice_set}
use mathlib.Core.Logic.{dite}
use native.Mathlib.Decide.{dec_le}
use Rattle.ca_model.specs.declared.value.Object.{Object}
use Rattle.ca_logs.specs.declared.log.CellLog.{CellLog}
use Rattle.ca_logs.specs.declared.log.Entry.{Entry}
use Rattle.ca_logs.specs.Entries.{entries_of, loose_entries}
use Rattle.ca_logs.specs.Touched.{Touched, pairs, fresh, put_logs, logs_of, AreRising}
use Rattle.ca_logs.specs.declared.log.Task.{Task}
use Rattle.ca_logs.specs.declared.log.Stop.{Stop}
use Rattle.ca_logs.specs.Lasts.{last_of}
use Rattle.ca_cells.specs.Logs.{began_with, logs_in, touched_in}
use Rattle.ca_cells.specs.declared.cells.RoundLog.{RoundLog}
use Rattle.ca_cells.specs.Histories.{is_closing}
use Rattle.ca_cells.specs.declared.cells.Cells.{Cells}
use Rattle.std.specs.Prelude.{Contains}
use Rattle.ca_pool.specs.Gathered.{IsTold, Gathered, HasClosing, AreAllNumbers, either_stop, stop_by, last_stop, stuck_task, stuck_tasks}

-- the touched histories alone
pub told : List Touched → List CellLog
told [] = []
told (t ∷ ts) = t.log ∷ told ts

-- rising numbers from k on, below n
pub Sorted : ℕ → ℕ → List Touched → Type 0
Sorted k n [] = k ≤ k
Sorted k n (t ∷ ts) = (k ≤ t.number) × (t.number < n) × Sorted (t.number + 1) n ts

put_from : ℕ → List Touched → List CellLog → List CellLog
put_from k [] logs = logs
put_from k (t ∷ ts) logs = put_from k ts (slice_set logs (t.number - k) t.log)

from_zero : (ts : List Touched) (logs : List CellLog) → put_from 0 ts logs ≡ put_logs ts logs
unfolding put_from
from_zero [] logs = refl
from_zero (t ∷ ts) logs = let z : t.number - 0 ≡ t.number = omega arith in ap (λ (n : ℕ). put_from 0 ts (slice_set logs n t.log)) z ∙ from_zero ts (slice_set logs t.number t.log)

sooner : (i j n : ℕ) (ts : List Touched) → i ≤ j → Sorted j n ts → Sorted i n ts
unfolding Sorted
sooner i j n [] l h = omega arith
sooner i j n (t ∷ ts) l h = (let z = h.0 in omega arith, h.1, h.2)

shifted : (k n : ℕ) (ts : List Touched) (x : CellLog) (rest : List CellLog) → Sorted (k + 1) n ts → put_from k ts (x ∷ rest) ≡ x ∷ put_from (k + 1) ts rest
unfolding Sorted put_from
shifted k n [] x rest h = refl
shifted k n (t ∷ ts) x rest h = let e : t.number - k ≡ suc (t.number - (k + 1)) = let z = h.0 in omega arith in
    ap (λ (m : ℕ). put_from k ts (slice_set (x ∷ rest) m t.log)) e ∙ shifted k n ts x (slice_set rest (t.number - (k + 1)) t.log) (sooner (k + 1) (t.number + 1) n ts (let z = h.0 in omega arith) h.2)

here_or_behind : (k m : ℕ) → k ≤ m → (k ≡ m) ⊎ (k + 1 ≤ m)
here_or_behind k m l = dite (dec_le (suc k) m) (λ a. inr (omega arith)) (λ no. inl (omega arith))

module _ {B : Type 0} (f : CellLog → B) (op : B → B → B) (e : B) (nothing : (o : Object) (y : B) → op (f (fresh o)) y ≡ y) where
  pub read : List CellLog → B
  read [] = e
  read (x ∷ xs) = op (f x) (read xs)

  read_from : (k : ℕ) (now : List Object) (ts : List Touched) → Sorted k (k + length now) ts → read (put_from k ts (map fresh now)) ≡ read (told ts)
  unfolding Sorted put_from told read
  read_from k [] [] h = refl
  read_from k [] (t ∷ ts) h = absurd (let z = h.0 in let y = h.1 in omega arith)
  read_from k (o ∷ os) [] h = nothing o (read (map fresh os)) ∙ read_from (k + 1) os [] (omega arith)
  read_from k (o ∷ os) (t ∷ ts) h = ⊎_elim
      (λ (z : k ≡ t.number). let m : t.number - k ≡ 0 = omega arith in let later : Sorted (k + 1) (k + length (o ∷ os)) ts = subst (λ (i : ℕ). Sorted (i + 1) (k + length (o ∷ os)) ts) (sym z) h.2 in
      let many : k + length (o ∷ os) ≡ (k + 1) + length os = omega arith in
      ap (λ (i : ℕ). read (put_from k ts (slice_set (fresh o ∷ map fresh os) i t.log))) m
      ∙ (ap read (shifted k (k + length (o ∷ os)) ts t.log (map fresh os) later) ∙ ap (op (f t.log)) (read_from (k + 1) os ts (subst (λ (n : ℕ). Sorted (k + 1) n ts) many later))))
      (λ (z : k + 1 ≤ t.number). let all : Sorted (k + 1) (k + length (o ∷ os)) (t ∷ ts) = (z, h.1, h.2) in let many : k + length (o ∷ os) ≡ (k + 1) + length os = omega arith in
      ap read (shifted k (k + length (o ∷ os)) (t ∷ ts) (fresh o) (map fresh os) all)
      ∙ (nothing o (read (put_from (k + 1) (t ∷ ts) (map fresh os))) ∙ read_from (k + 1) os (t ∷ ts) (subst (λ (n : ℕ). Sorted (k + 1) n (t ∷ ts)) many all)))
      (here_or_behind k t.number h.0)

  pub read_touched : (now : List Object) (ts : List Touched) → Sorted 0 (length now) ts → read (logs_of now ts) ≡ read (told ts)
  read_touched now ts h = let n : length now ≡ 0 + length now = omega arith in ap read (sym (from_zero ts (map fresh now))) ∙ read_from 0 now ts (subst (λ (k : ℕ). Sorted 0 k ts) n h)

sorted_from : (k n : ℕ) (ts : List Touched) → AreRising ts → ((i : ℕ) (a : Touched) → slice_get ts i ≡ Some a → k ≤ a.number) → ((i : ℕ) (a : Touched) → slice_get ts i ≡ Some a → a.number < n) → Sorted k n ts
unfolding Sorted
sorted_from k n [] rising low high = omega arith
sorted_from k n (t ∷ ts) rising low high = (low 0 t refl, high 0 t refl, sorted_from (t.number + 1) n ts (λ i j a b l x y. rising (suc i) (suc j) a b (omega arith) x y) (λ i a x. let z = rising 0 (suc i) t a (omega arith) refl x in omega arith) (λ i a x. high (suc i) a x))

-- rising numbers of objects are sorted
pub sorted_all : (now : List Object) (ts : List Touched) → AreRising ts → ((i : ℕ) (a : Touched) → slice_get ts i ≡ Some a → a.number < length now) → Sorted 0 (length now) ts
sorted_all now ts rising high = sorted_from 0 (length now) ts rising (λ i a x. omega arith) high

-- the entries of all histories are those of the touched ones
abbrev log_entries : CellLog → List Entry
log_entries log = log.entries

read_entries : (logs : List CellLog) → read log_entries (λ x y. x ++ y) [] (λ o y. refl) logs ≡ entries_of logs
unfolding read
read_entries [] = refl
read_entries (x ∷ xs) = ap (λ (es : List Entry). x.entries ++ es) (read_entries xs)

pub touched_entries : (now : List Object) (ts : List Touched) → Sorted 0 (length now) ts → entries_of (logs_of now ts) ≡ entries_of (told ts)
touched_entries now ts h = sym (read_entries (logs_of now ts)) ∙ (read_touched log_entries (λ x y. x ++ y) [] (λ o y. refl) now ts h ∙ read_entries (told ts))

told_pairs : (ns : List ℕ) (ls : List CellLog) → length ns ≡ length ls → told (pairs ns ls) ≡ ls
unfolding told
told_pairs [] [] e = refl
told_pairs [] (y ∷ ls) e = absurd (omega arith)
told_pairs (x ∷ ns) [] e = absurd (omega arith)
told_pairs (x ∷ ns) (y ∷ ls) e = ap (λ (xs : List CellLog). y ∷ xs) (told_pairs ns ls (omega arith))

abbrev log_stop : CellLog → Option Stop
log_stop log = stop_by (last_of log.entries)

read_stop : (logs : List CellLog) → read log_stop either_stop None (λ o y. refl) logs ≡ last_stop logs
unfolding read
read_stop [] = refl
read_stop (x ∷ xs) = ap (either_stop (log_stop x)) (read_stop xs)

read_stuck : (logs : List CellLog) → read stuck_task (λ x y. x ++ y) [] (λ o y. refl) logs ≡ stuck_tasks logs
unfolding read
read_stuck [] = refl
read_stuck (x ∷ xs) = ap (λ (ts : List Task). stuck_task x ++ ts) (read_stuck xs)

-- what is read off the touched histories is so of all
module _ (log : RoundLog) (is : IsTold log) where
  sorted : Sorted 0 (length (began_with log)) (touched_in log)
  sorted = sorted_all (began_with log) (touched_in log) is.rising is.below

  logs_told : told (touched_in log) ≡ log.logs.items
  logs_told = told_pairs log.numbers.items log.logs.items is.alike

  pub entries_told : entries_of (logs_in log) ≡ entries_of log.logs.items
  entries_told = touched_entries (began_with log) (touched_in log) sorted ∙ ap entries_of logs_told

  pub stop_told : last_stop (logs_in log) ≡ last_stop log.logs.items
  stop_told = sym (read_stop (logs_in log)) ∙ (read_touched log_stop either_stop None (λ o y. refl) (began_with log) (touched_in log) sorted ∙ (read_stop (told (touched_in log)) ∙ ap last_stop logs_told))

  pub stuck_told : stuck_tasks (logs_in log) ≡ stuck_tasks log.logs.items
  stuck_told = sym (read_stuck (logs_in log)) ∙ (read_touched stuck_task (λ x y. x ++ y) [] (λ o y. refl) (began_with log) (touched_in log) sorted ∙ (read_stuck (told (touched_in log)) ∙ ap stuck_tasks logs_told))

pairs_sorted : (k : ℕ) (ns : List ℕ) (ls : List CellLog) → ((i m : ℕ) → slice_get ns i ≡ Some m → m ≡ k + i) → Sorted k (k + length ns) (pairs ns ls)
unfolding Sorted
pairs_sorted k [] ls h = omega arith
pairs_sorted k (x ∷ ns) [] h = omega arith
pairs_sorted k (x ∷ ns) (l ∷ ls) h = let z = h 0 x refl in let many : (k + 1) + length ns ≡ k + length (x ∷ ns) = omega arith in let next : k + 1 ≡ x + 1 = omega arith in
    (omega arith, omega arith, subst (λ (j : ℕ). Sorted j (k + length (x ∷ ns)) (pairs ns ls)) next (subst (λ (n : ℕ). Sorted (k + 1) n (pairs ns ls)) many (pairs_sorted (k + 1) ns ls (λ i m q. let w = h (suc i) m q in omega arith))))

-- where numbers are places the touched histories are all
full_from : (k : ℕ) (ns : List ℕ) (ls base : List CellLog) → length ns ≡ length ls → length base ≡ length ls → ((i m : ℕ) → slice_get ns i ≡ Some m → m ≡ k + i) → put_from k (pairs ns ls) base ≡ ls
unfolding put_from
full_from k [] [] [] a b h = refl
full_from k [] [] (z ∷ base) a b h = absurd (omega arith)
full_from k [] (y ∷ ls) base a b h = absurd (omega arith)
full_from k (x ∷ ns) [] base a b h = absurd (omega arith)
full_from k (x ∷ ns) (y ∷ ls) [] a b h = absurd (omega arith)
full_from k (x ∷ ns) (y ∷ ls) (z ∷ base) a b h = let e : x - k ≡ 0 = let q = h 0 x refl in omega arith in
    let high : (i m : ℕ) → slice_get ns i ≡ Some m → m ≡ (k + 1) + i = λ i m q. let w = h (suc i) m q in omega arith in
    ap (λ (i : ℕ). put_from k (pairs ns ls) (slice_set (z ∷ base) i y)) e ∙ (shifted k (k + 1 + length ns) (pairs ns ls) y base (pairs_sorted (k + 1) ns ls high) ∙ ap (λ (xs : List CellLog). y ∷ xs) (full_from (k + 1) ns ls base (omega arith) (omega arith) high))

pub all_full : (now : List Object) (ns : List ℕ) (ls : List CellLog) → length ns ≡ length now → length ls ≡ length now → ((i m : ℕ) → slice_get ns i ≡ Some m → m ≡ i) → logs_of now (pairs ns ls) ≡ ls
all_full now ns ls a b h = let c : length (map fresh now) ≡ length ls = fresh_many now ∙ sym b in sym (from_zero (pairs ns ls) (map fresh now)) ∙ full_from 0 ns ls (map fresh now) (omega arith) c (λ i m q. let w = h i m q in omega arith) where
  fresh_many : (os : List Object) → length (map fresh os) ≡ length os
  fresh_many [] = refl
  fresh_many (o ∷ os) = ap suc (fresh_many os)

pub closing_told : (log : RoundLog) (loose : List (List Entry)) → IsTold log → HasClosing log.logs.items loose → HasClosing (logs_in log) loose
closing_told log loose is h = subst (λ (es : List Entry). (e : Entry) × Contains (es ++ loose_entries loose) e × (is_closing e ≡ true)) (sym (entries_told log is)) h

pub as_many_logs : (cells : Option Cells) (left : ℕ) (first : List Task) (a b : List CellLog) (k l : List (List Entry)) (r s : List Task) → Gathered cells left first a k r → Gathered cells left first b l s → length a ≡ length b
as_many_logs None left first a b k l r s g h = absurd g
as_many_logs (Some cells) left first a b k l r s g h = g.count ∙ sym h.count

pairs_number : (ns : List ℕ) (ls : List CellLog) (i : ℕ) (a : Touched) → slice_get (pairs ns ls) i ≡ Some a → slice_get ns i ≡ Some a.number
pairs_number [] ls i a e = cc
pairs_number (x ∷ ns) [] i a e = cc
pairs_number (x ∷ ns) (l ∷ ls) zero a e = ap (λ (o : Option Touched). number_in o) e where
  number_in : Option Touched → Option ℕ
  number_in None = None
  number_in (Some t) = Some t.number
pairs_number (x ∷ ns) (l ∷ ls) (suc i) a e = pairs_number ns ls i a e

number_there : (ns : List ℕ) (i m : ℕ) → slice_get ns i ≡ Some m → i < length ns
number_there [] i m e = cc
number_there (x ∷ ns) zero m e = omega arith
number_there (x ∷ ns) (suc i) m e = let l = number_there ns i m e in omega arith

-- where all histories are spread out they are told so
pub spread_told : (log : RoundLog) (n : ℕ) → AreAllNumbers n log.numbers.items → length log.logs.items ≡ n → length (began_with log) ≡ n → IsTold log
spread_told log n all many now = record {
  alike = all.0 ∙ sym many;
  rising = λ i j a b l x y. let p = all.1 i a.number (pairs_number log.numbers.items log.logs.items i a x) in let q = all.1 j b.number (pairs_number log.numbers.items log.logs.items j b y) in omega arith;
  below = λ i a x. let e = pairs_number log.numbers.items log.logs.items i a x in let p = all.1 i a.number e in let l = number_there log.numbers.items i a.number e in let m = all.0 in omega arith;
}

pub spread_all : (log : RoundLog) (n : ℕ) → AreAllNumbers n log.numbers.items → length log.logs.items ≡ n → length (began_with log) ≡ n → logs_in log ≡ log.logs.items
spread_all log n all many now = all_full (began_with log) log.numbers.items log.logs.items (all.0 ∙ sym now) (many ∙ sym now) all.1

number_more : (xs : List ℕ) (x i m : ℕ) → slice_get (xs ++ x ∷ []) i ≡ Some m → (slice_get xs i ≡ Some m) ⊎ ((i ≡ length xs) × (x ≡ m))
number_more [] x zero m e = inr (refl, cc)
number_more [] x (suc i) m e = cc
number_more (z ∷ xs) x zero m e = inl e
number_more (z ∷ xs) x (suc i) m e = ⊎_elim inl (λ h. inr (ap suc h.0, h.1)) (number_more xs x i m e)

pub all_more : (n : ℕ) (xs : List ℕ) → AreAllNumbers n xs → AreAllNumbers (n + 1) (xs ++ n ∷ [])
all_more n xs h = (length-append xs (n ∷ []) ∙ ap (λ (k : ℕ). k + 1) h.0, λ i m e. ⊎_elim (λ (p : slice_get xs i ≡ Some m). h.1 i m p) (λ (p : (i ≡ length xs) × (n ≡ m)). sym p.1 ∙ (sym h.0 ∙ sym p.0)) (number_more xs n i m e))

pub no_numbers : (xs : List ℕ) → length xs ≡ 0 → AreAllNumbers 0 xs
no_numbers [] e = (refl, λ i m e. cc)
no_numbers (x ∷ xs) e = absurd (omega arith)
