-- One operand more among others that rise.
use Rattle.std.proofs.Common.{◌≡◌, ℕ, zero, suc, ◌+◌, ◌<◌, ◌≤◌, Bool, true, false, List, [], ◌∷◌, ◌++◌, length, take, drop, drop-cons, add-one, get_or, refl, sym, ap, subst, ◌∙◌, arith, Ordering, Less, Equal, Greater, is_eq}
use Rattle.std.proofs.lemmas.List.{drop_all}
use Rattle.std.specs.Cmp.{Equal-is}
use Rattle.ca_sums.proofs.Collect.{Exact}
use Rattle.ca_folds.specs.Operands.{merge}
use Rattle.ca_folds.proofs.Rising.{Above, Rising, rising_merge, merge_turned, merge_inside, eq_true as is_tie}
use Rattle.ca_forms.specs.clauses.Among.{AllBefore, NotBefore, is_first}
use Rattle.ca_forms.proofs.Folding.{less_first, equal_first, greater_first, merge_none}

no_tie : (o : Ordering) → (o ≡ Equal → ⊥) → false ≡ is_eq o
no_tie Less h = refl
no_tie Equal h = absurd (h refl)
no_tie Greater h = refl

module _ {F : Type 0} (R : F → F → Ordering) where
  above_at : (x : F) (xs : List F) (n : ℕ) (y : F) → Above R x xs → n < length xs → y ≡ get_or xs n y → R x y ≡ Less
  above_at x [] n y h l e = absurd (omega (arith, l))
  above_at x (z ∷ zs) zero y h l e = ap (R x) e ∙ h.0
  above_at x (z ∷ zs) (suc n) y h l e = above_at x zs n y h.1 (omega (arith, l)) e

  drop_at : (xs : List F) (n : ℕ) (y : F) → n < length xs → y ≡ get_or xs n y → drop n xs ≡ y ∷ drop (suc n) xs
  drop_at xs n y l e = drop-cons xs n y l ∙ ap (λ z. z ∷ drop (suc n) xs) (sym e)

  -- what comes before the middle one comes before what that comes before
  before_middle : Exact R → (xs : List F) (n : ℕ) (y k : F) → Rising R xs → n < length xs → y ≡ get_or xs n y → R y k ≡ Less → AllBefore R k (take (suc n) xs)
  before_middle x [] n y k r l e h = absurd (omega (arith, l))
  before_middle x (z ∷ zs) zero y k r l e h = (ap (λ w. R w k) (sym e) ∙ h, tt)
  before_middle x (z ∷ zs) (suc n) y k r l e h =
      (x.order.trans z y k (above_at z zs n y r.0 (omega (arith, l)) e) h, before_middle x zs n y k r.1 (omega (arith, l)) e h)

  pub before_half : Exact R → (xs : List F) (n : ℕ) (y k : F) → Rising R xs → n < length xs → y ≡ get_or xs n y → R y k ≡ Less → AllBefore R k (take (n + 1) xs)
  before_half x xs n y k r l e h = subst (λ m. AllBefore R k (take m xs)) (sym (add-one n)) (before_middle x xs n y k r l e h)

  pub behind_half : (xs : List F) (n : ℕ) (y k : F) → n < length xs → y ≡ get_or xs n y → (R y k ≡ Less → ⊥) → NotBefore R k (drop n xs)
  behind_half xs n y k l e h = subst (λ z. NotBefore R k z) (sym (drop_at xs n y l e)) h

  pub behind_end : (xs : List F) (n : ℕ) (k : F) → length xs ≤ n → NotBefore R k (drop n xs)
  behind_end xs n k h = subst (λ z. NotBefore R k z) (sym (drop_all n xs h)) tt

  pub none_there : (xs : List F) (n : ℕ) (k : F) → length xs ≤ n → false ≡ is_first R k (drop n xs)
  none_there xs n k h = ap (is_first R k) (sym (drop_all n xs h))

  pub one_there : (xs : List F) (n : ℕ) (y k : F) → n < length xs → y ≡ get_or xs n y → R y k ≡ Equal → true ≡ is_first R k (drop n xs)
  one_there xs n y k l e h = ap is_eq (sym h) ∙ ap (is_first R k) (sym (drop_at xs n y l e))

  pub other_there : (xs : List F) (n : ℕ) (y k : F) → n < length xs → y ≡ get_or xs n y → (R y k ≡ Equal → ⊥) → false ≡ is_first R k (drop n xs)
  other_there xs n y k l e h = no_tie (R y k) h ∙ ap (is_first R k) (sym (drop_at xs n y l e))

  pub there_is : (xs : List F) (n : ℕ) (k : F) → is_first R k (drop n xs) ≡ true → n < length xs
  there_is [] zero k e = cc
  there_is [] (suc n) k e = cc
  there_is (y ∷ ys) zero k e = omega arith
  there_is (y ∷ ys) (suc n) k e = omega (arith, there_is ys n k e)

  -- the operand is there already, and both go
  pub put_gone : (xs : List F) (n : ℕ) (k : F) → AllBefore R k (take n xs) → is_first R k (drop n xs) ≡ true → merge true R xs (k ∷ []) ≡ take n xs ++ drop (suc n) xs
  put_gone [] zero k h e = cc
  put_gone [] (suc n) k h e = cc
  put_gone (y ∷ ys) zero k h e = equal_first true R y k ys [] ((Equal-is (R y k)).0 e) ∙ merge_none true R ys
  put_gone (y ∷ ys) (suc n) k h e = less_first true R y k ys [] h.0 ∙ ap (λ z. y ∷ z) (put_gone ys n k h.1 e)

  -- or one of them does
  pub put_kept : (xs : List F) (n : ℕ) (k : F) → AllBefore R k (take n xs) → is_first R k (drop n xs) ≡ true → merge false R xs (k ∷ []) ≡ xs
  put_kept [] zero k h e = cc
  put_kept [] (suc n) k h e = cc
  put_kept (y ∷ ys) zero k h e = equal_first false R y k ys [] ((Equal-is (R y k)).0 e) ∙ ap (λ z. y ∷ z) (merge_none false R ys)
  put_kept (y ∷ ys) (suc n) k h e = less_first false R y k ys [] h.0 ∙ ap (λ z. y ∷ z) (put_kept ys n k h.1 e)

  first_new : (b : Bool) (o : Ordering) (y k : F) (ys : List F) → R y k ≡ o → (o ≡ Less → ⊥) → is_eq o ≡ false → merge b R (y ∷ ys) (k ∷ []) ≡ k ∷ y ∷ ys
  first_new b Less y k ys o h e = absurd (h refl)
  first_new b Equal y k ys o h e = cc
  first_new b Greater y k ys o h e = greater_first b R y k ys [] o ∙ ap (λ z. k ∷ z) (merge_none b R (y ∷ ys))

  -- it is a new one
  pub put_new : (b : Bool) (xs : List F) (n : ℕ) (k : F) → AllBefore R k (take n xs) → NotBefore R k (drop n xs) → is_first R k (drop n xs) ≡ false → merge b R xs (k ∷ []) ≡ take n xs ++ k ∷ drop n xs
  put_new b [] zero k h f e = refl
  put_new b [] (suc n) k h f e = refl
  put_new b (y ∷ ys) zero k h f e = first_new b (R y k) y k ys refl f e
  put_new b (y ∷ ys) (suc n) k h f e = less_first b R y k ys [] h.0 ∙ ap (λ z. y ∷ z) (put_new b ys n k h.1 f e)

  above_front : (x : F) (us : List F) (k : F) → Above R x (us ++ k ∷ []) → Above R x us
  above_front x [] k h = tt
  above_front x (u ∷ us) k h = (h.0, above_front x us k h.1)

  above_last : (x : F) (us : List F) (k : F) → Above R x (us ++ k ∷ []) → R x k ≡ Less
  above_last x [] k h = h.0
  above_last x (u ∷ us) k h = above_last x us k h.1

  rising_front : (us : List F) (k : F) → Rising R (us ++ k ∷ []) → Rising R us
  rising_front [] k h = tt
  rising_front (u ∷ us) k h = (above_front u us k h.0, rising_front us k h.1)

  last_put : (b : Bool) (us : List F) (k : F) → Rising R (us ++ k ∷ []) → merge b R us (k ∷ []) ≡ us ++ k ∷ []
  last_put b [] k h = refl
  last_put b (u ∷ us) k h = less_first b R u k us [] (above_last u us k h.0) ∙ ap (λ z. u ∷ z) (last_put b us k h.1)

  -- the last of some operands is put among others
  pub rising_left : (ys us : List F) (k : F) → Rising R ys → ys ≡ us ++ k ∷ [] → Rising R us
  rising_left ys us k h e = rising_front us k (subst (Rising R) e h)

  pub rising_put : Exact R → (b : Bool) (xs new : List F) (k : F) → Rising R xs → new ≡ merge b R xs (k ∷ []) → Rising R new
  rising_put x b xs new k h e = subst (Rising R) (sym e) (rising_merge R x b xs (k ∷ []) h (tt, tt))

  pub put_last : Exact R → (b : Bool) (xs ys us new whole : List F) (k : F) → Rising R xs → Rising R ys → ys ≡ us ++ k ∷ [] → new ≡ merge b R xs (k ∷ []) → merge b R xs ys ≡ whole → merge b R new us ≡ whole
  put_last x b xs ys us new whole k g h e n w =
      let one : Rising R (k ∷ []) = (tt, tt) in
      let front : Rising R us = rising_left ys us k h e in
      ap (λ z. merge b R z us) n ∙ merge_inside R x b xs (k ∷ []) us g one front ∙ ap (merge b R xs) (merge_turned R x b (k ∷ []) us one front ∙ last_put b us k (subst (Rising R) e h) ∙ sym e) ∙ w

  pub none_more : (b : Bool) (xs ys whole : List F) → ys ≡ [] → merge b R xs ys ≡ whole → xs ≡ whole
  none_more b xs ys whole e w = sym (merge_none b R xs) ∙ ap (merge b R xs) (sym e) ∙ w
