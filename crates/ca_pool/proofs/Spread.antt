-- Histories that are spread out: one without entries for each object, and then those that were touched, put at their numbers.
use Rattle.std.proofs.Common.{◌≡◌, ◌≤◌, ◌<◌, ◌+◌, ℕ, zero, suc, List, [], ◌∷◌, ◌++◌, length, map, take, Some, sym, ap, subst, ◌∙◌, arith, length-set}
use Rattle.std.specs.Prelude.{slice_get, slice_set}
use Rattle.std.proofs.lemmas.List.{map-append, take_all}
use Rattle.ca_model.specs.declared.value.Object.{Object}
use Rattle.ca_logs.specs.declared.log.CellLog.{CellLog}
use Rattle.ca_logs.specs.Touched.{Touched, pairs, fresh, put_logs, AreRising, AreBelow}
use Rattle.ca_logs.proofs.Touching.{put_one_more, rising_less, below_less, pairs_last, put_last}
use Rattle.ca_cells.proofs.Begun.{same_log}

-- ---- one for each object

take_more : (xs : List Object) (n : ℕ) (o : Object) → slice_get xs n ≡ Some o → take (suc n) xs ≡ take n xs ++ o ∷ []
take_more [] n o e = absurd (cc)
take_more (x ∷ xs) zero o e = let same : x ≡ o = cc in ap (λ (y : Object). y ∷ []) same
take_more (x ∷ xs) (suc n) o e = ap (λ (ys : List Object). x ∷ ys) (take_more xs n o e)

pub one_fresh : (now : List Object) (n : ℕ) (o : Object) (logs more : List CellLog) (log : CellLog) → slice_get now n ≡ Some o → (log.entries ≡ []) × (log.object ≡ o) × (log.opened.value ≡ o) → more ≡ logs ++ log ∷ [] →
    logs ≡ map fresh (take n now) → more ≡ map fresh (take (n + 1) now)
one_fresh now n o logs more log there is grown so =
    let new : log ≡ fresh o = same_log log (fresh o) is.2 is.1 is.0 in
    let next : suc n ≡ n + 1 = omega arith in
    grown ∙ (ap (λ (ls : List CellLog). ls ++ log ∷ []) so ∙ (ap (λ (l : CellLog). map fresh (take n now) ++ l ∷ []) new
    ∙ (sym (map-append fresh (take n now) (o ∷ [])) ∙ (ap (map fresh) (sym (take_more now n o there)) ∙ ap (λ (k : ℕ). map fresh (take k now)) next))))

pub all_are_fresh : (now : List Object) (n : ℕ) (logs : List CellLog) → length now ≤ n → logs ≡ map fresh (take n now) → logs ≡ map fresh now
all_are_fresh now n logs le so = so ∙ ap (map fresh) (take_all n now le)

-- ---- and those that were touched

-- so far the last ones are put
pub record Putting (ns₀ : List ℕ) (ls₀ all₀ : List CellLog) (ns : List ℕ) (ls all : List CellLog) : Type 0 where
  pub alike : length ls ≡ length ns
  pub rising : AreRising (pairs ns ls)
  pub below : AreBelow (pairs ns ls) (length all)
  pub same : put_logs (pairs ns ls) all ≡ put_logs (pairs ns₀ ls₀) all₀

pub put_one : (ns₀ ns ns' : List ℕ) (ls₀ ls ls' all₀ all all' : List CellLog) (n : ℕ) (l : CellLog) → ns ≡ ns' ++ n ∷ [] → ls ≡ ls' ++ l ∷ [] → all' ≡ slice_set all n l → Putting ns₀ ls₀ all₀ ns ls all → Putting ns₀ ls₀ all₀ ns' ls' all'
put_one ns₀ ns ns' ls₀ ls ls' all₀ all all' n l a b c i =
    let p = pairs_last ns ns' ls ls' n l i.alike a b in
    let ts : List Touched = pairs ns' ls' in
    let t : Touched = record { number = n; log = l } in
    let r = rising_less ts t (subst AreRising p.1 i.rising) in
    let m = below_less ts t (length all) (subst (λ (xs : List Touched). AreBelow xs (length all)) p.1 i.below) in
    record {
      alike = p.0;
      rising = r.0;
      below = subst (AreBelow ts) (sym (ap length c ∙ length-set all n l)) m.0;
      same = ap (put_logs ts) c ∙ (put_last ts n l all r.1 ∙ (sym (put_one_more ts t all) ∙ (ap (λ (xs : List Touched). put_logs xs all) (sym p.1) ∙ i.same)));
    }

-- each stands at the number of an object
pub put_inside : (ns₀ ns ns' : List ℕ) (ls₀ ls ls' all₀ all : List CellLog) (n : ℕ) (l : CellLog) → ns ≡ ns' ++ n ∷ [] → ls ≡ ls' ++ l ∷ [] → Putting ns₀ ls₀ all₀ ns ls all → n < length all
put_inside ns₀ ns ns' ls₀ ls ls' all₀ all n l a b i =
    let t : Touched = record { number = n; log = l } in
    let p = pairs_last ns ns' ls ls' n l i.alike a b in
    (below_less (pairs ns' ls') t (length all) (subst (λ (xs : List Touched). AreBelow xs (length all)) p.1 i.below)).1

-- none is left
pub put_none : (ns₀ ns : List ℕ) (ls₀ ls all₀ all : List CellLog) → ns ≡ [] → Putting ns₀ ls₀ all₀ ns ls all → all ≡ put_logs (pairs ns₀ ls₀) all₀
put_none ns₀ ns ls₀ ls all₀ all none i = ap (λ (xs : List ℕ). put_logs (pairs xs ls) all) (sym none) ∙ i.same
