-- Operands that stand the other way round are merged from behind.
use Rattle.std.proofs.Common.{◌≡◌, ℕ, zero, suc, ◌+◌, ◌-◌, ◌<◌, Bool, true, false, List, [], ◌∷◌, ◌++◌, length, take, get_or, reverse, refl, sym, ap, ap₂, ◌∙◌, arith, Ordering, Less, Equal, Greater, ◌⊎◌, inl, inr}
use Rattle.std.specs.Prelude.{Result, Ok, Err, IsErr, OnOk}
use Rattle.std.proofs.lemmas.List.{append_assoc, append-nil, reverse-append, reverse-reverse, length-append}
use Rattle.ca_folds.specs.Operands.{once, merge_at, merge_in, merge}

first_same : {F : Type 0} (x y : F) (us vs : List F) → x ∷ us ≡ y ∷ vs → (x ≡ y) × (us ≡ vs)
first_same x y us vs e = (cc, cc)

turned_last : {F : Type 0} (us : List F) (x : F) → reverse (us ++ x ∷ []) ≡ x ∷ reverse us
turned_last us x = reverse-append us (x ∷ [])

-- what stands last, and what stands before it
pub last_same : {F : Type 0} (us vs : List F) (x y : F) → us ++ x ∷ [] ≡ vs ++ y ∷ [] → (x ≡ y) × (us ≡ vs)
last_same us vs x y e =
    let h = first_same x y (reverse us) (reverse vs) (sym (turned_last us x) ∙ ap reverse e ∙ turned_last vs y) in
    (h.0, sym (reverse-reverse us) ∙ ap reverse h.1 ∙ reverse-reverse vs)

last_of : {F : Type 0} (xs : List F) (n : ℕ) (x : F) → length xs ≡ suc n → x ≡ get_or xs n x → xs ≡ take n xs ++ x ∷ []
last_of [] n x h e = absurd (omega (arith, h))
last_of (y ∷ []) zero x h e = ap (λ z. z ∷ []) (sym e)
last_of (y ∷ []) (suc n) x h e = absurd (omega (arith, h))
last_of (y ∷ (z ∷ zs)) zero x h e = absurd (omega (arith, h))
last_of (y ∷ (z ∷ zs)) (suc n) x h e = ap (λ w. y ∷ w) (last_of (z ∷ zs) n x (omega (arith, h)) e)

pub split_last : {F : Type 0} (xs : List F) (n : ℕ) (x : F) → 0 < length xs → n ≡ length xs → x ≡ get_or xs (n - 1) x → xs ≡ take (length xs - 1) xs ++ x ∷ []
split_last xs n x h k e =
    let m : n - 1 ≡ length xs - 1 = omega (arith, k) in
    last_of xs (length xs - 1) x (omega (arith, h)) (e ∙ ap (λ i. get_or xs i x) m)

pub one_more : {F : Type 0} (xs us : List F) (x : F) → xs ≡ us ++ x ∷ [] → length xs ≡ length us + 1
one_more xs us x e = ap length e ∙ length-append us (x ∷ [])

pub none_last : {F : Type 0} (xs us : List F) (x : F) → length xs ≡ 0 → xs ≡ us ++ x ∷ [] → ⊥
none_last xs us x h e = omega (arith, h, one_more xs us x e)

take_front : {F : Type 0} (us : List F) (x : F) → take (length us) (us ++ x ∷ []) ≡ us
take_front [] x = refl
take_front (u ∷ us) x = ap (λ z. u ∷ z) (take_front us x)

pub rest_is : {F : Type 0} (xs us : List F) (x : F) (n : ℕ) → n ≡ length xs → xs ≡ us ++ x ∷ [] → take (n - 1) xs ≡ us
rest_is xs us x n h e =
    let m : n - 1 ≡ length us = omega (arith, h, one_more xs us x e) in
    ap₂ take m e ∙ take_front us x

pub nothing : {F : Type 0} (xs : List F) (n : ℕ) → n ≡ 0 → n ≡ length xs → xs ≡ []
nothing [] n h e = refl
nothing (x ∷ xs) n h e = absurd (omega (arith, h, e))

pub on_err : {T E : Type 0} (r : Result T E) (P : Type 0) → IsErr r → OnOk r P
on_err (Ok x) P h = absurd cc
on_err (Err e) P h = tt

pub turned : {F : Type 0} (xs us : List F) (x : F) → xs ≡ us ++ x ∷ [] → reverse xs ≡ x ∷ reverse us
turned xs us x e = ap reverse e ∙ turned_last us x

module _ {F : Type 0} (b : Bool) (R : F → F → Ordering) where
  pub less_first : (x y : F) (us vs : List F) → R x y ≡ Less → merge b R (x ∷ us) (y ∷ vs) ≡ x ∷ merge b R us (y ∷ vs)
  less_first x y us vs e = ap (λ o. merge_at b o x y (merge b R us (y ∷ vs)) (merge b R us vs) (merge_in b R x (merge b R us) vs)) e

  pub equal_first : (x y : F) (us vs : List F) → R x y ≡ Equal → merge b R (x ∷ us) (y ∷ vs) ≡ once b x (merge b R us vs)
  equal_first x y us vs e = ap (λ o. merge_at b o x y (merge b R us (y ∷ vs)) (merge b R us vs) (merge_in b R x (merge b R us) vs)) e

  pub greater_first : (x y : F) (us vs : List F) → R x y ≡ Greater → merge b R (x ∷ us) (y ∷ vs) ≡ y ∷ merge b R (x ∷ us) vs
  greater_first x y us vs e = ap (λ o. merge_at b o x y (merge b R us (y ∷ vs)) (merge b R us vs) (merge_in b R x (merge b R us) vs)) e

  pub merge_none : (xs : List F) → merge b R xs [] ≡ xs
  merge_none [] = refl
  merge_none (x ∷ xs) = ap (λ z. x ∷ z) (merge_none xs)

  pub less_taken : (xs ys us vs all new : List F) (x y : F) → xs ≡ us ++ x ∷ [] → ys ≡ vs ++ y ∷ [] → R x y ≡ Less → new ≡ all ++ x ∷ [] → new ++ merge b R (reverse us) (reverse ys) ≡ all ++ merge b R (reverse xs) (reverse ys)
  less_taken xs ys us vs all new x y e f l n =
      ap (λ z. z ++ merge b R (reverse us) (reverse ys)) n ∙ append_assoc all (x ∷ []) (merge b R (reverse us) (reverse ys))
      ∙ ap (λ z. all ++ x ∷ merge b R (reverse us) z) (turned ys vs y f) ∙ ap (λ z. all ++ z) (sym (less_first x y (reverse us) (reverse vs) l))
      ∙ ap₂ (λ z w. all ++ merge b R z w) (sym (turned xs us x e)) (sym (turned ys vs y f))

  pub greater_taken : (xs ys us vs all new : List F) (x y : F) → xs ≡ us ++ x ∷ [] → ys ≡ vs ++ y ∷ [] → R x y ≡ Greater → new ≡ all ++ y ∷ [] → new ++ merge b R (reverse xs) (reverse vs) ≡ all ++ merge b R (reverse xs) (reverse ys)
  greater_taken xs ys us vs all new x y e f l n =
      ap (λ z. z ++ merge b R (reverse xs) (reverse vs)) n ∙ append_assoc all (y ∷ []) (merge b R (reverse xs) (reverse vs))
      ∙ ap (λ z. all ++ y ∷ merge b R z (reverse vs)) (turned xs us x e) ∙ ap (λ z. all ++ z) (sym (greater_first x y (reverse us) (reverse vs) l))
      ∙ ap₂ (λ z w. all ++ merge b R z w) (sym (turned xs us x e)) (sym (turned ys vs y f))

  equal_parts : (xs ys us vs all : List F) (x y : F) → xs ≡ us ++ x ∷ [] → ys ≡ vs ++ y ∷ [] → R x y ≡ Equal → all ++ once b x (merge b R (reverse us) (reverse vs)) ≡ all ++ merge b R (reverse xs) (reverse ys)
  equal_parts xs ys us vs all x y e f l =
      ap (λ z. all ++ z) (sym (equal_first x y (reverse us) (reverse vs) l)) ∙ ap₂ (λ z w. all ++ merge b R z w) (sym (turned xs us x e)) (sym (turned ys vs y f))

  pub equal_kept : (xs ys us vs all new : List F) (x y : F) → b ≡ false → xs ≡ us ++ x ∷ [] → ys ≡ vs ++ y ∷ [] → R x y ≡ Equal → new ≡ all ++ x ∷ [] → new ++ merge b R (reverse us) (reverse vs) ≡ all ++ merge b R (reverse xs) (reverse ys)
  equal_kept xs ys us vs all new x y k e f l n =
      ap (λ z. z ++ merge b R (reverse us) (reverse vs)) n ∙ append_assoc all (x ∷ []) (merge b R (reverse us) (reverse vs))
      ∙ ap (λ z. all ++ once z x (merge b R (reverse us) (reverse vs))) (sym k) ∙ equal_parts xs ys us vs all x y e f l

  pub equal_gone : (xs ys us vs all : List F) (x y : F) → b ≡ true → xs ≡ us ++ x ∷ [] → ys ≡ vs ++ y ∷ [] → R x y ≡ Equal → all ++ merge b R (reverse us) (reverse vs) ≡ all ++ merge b R (reverse xs) (reverse ys)
  equal_gone xs ys us vs all x y k e f l =
      ap (λ z. all ++ once z x (merge b R (reverse us) (reverse vs))) (sym k) ∙ equal_parts xs ys us vs all x y e f l

  -- behind the last of one list stands the other
  pub merge_over : (xs ys all mid end whole : List F) → (xs ≡ []) ⊎ (ys ≡ []) → mid ≡ all ++ reverse xs → end ≡ mid ++ reverse ys → all ++ merge b R (reverse xs) (reverse ys) ≡ whole → end ≡ whole
  merge_over xs ys all mid end whole (inl e) f g h =
      g ∙ ap (λ z. z ++ reverse ys) (f ∙ ap (λ z. all ++ reverse z) e ∙ append-nil all) ∙ ap (λ z. all ++ merge b R (reverse z) (reverse ys)) (sym e) ∙ h
  merge_over xs ys all mid end whole (inr e) f g h =
      g ∙ ap (λ z. mid ++ reverse z) e ∙ append-nil mid ∙ f ∙ ap (λ z. all ++ z) (sym (merge_none (reverse xs))) ∙ ap (λ z. all ++ merge b R (reverse xs) (reverse z)) (sym e) ∙ h
