-- Terms behind two branches, and those that a loop reads, one place after the other.
use Rattle.std.proofs.Common.{◌≡◌, ℕ, zero, suc, min, ◌+◌, ◌<◌, ◌≤◌, ◌⊎◌, inl, inr, Bool, true, false, ◌||◌, List, [], ◌∷◌, ◌++◌, length, length-append, map, take, drop, get_or, take-suc, add-one, refl, sym, ap, ap₂, ◌∙◌, subst, arith, append_assoc, append-nil}
use Rattle.std.proofs.lemmas.List.{drop_all}
use Rattle.std.proofs.lemmas.Bool.{or_right}
use Rattle.std.specs.List.{list_any}
use Rattle.ca_lists.proofs.Places.{item_and_rest}
use Rattle.ca_norm.specs.Terms.{PlainTerm}
use Rattle.ca_symbolic.specs.Execution.{choose_if, choices}
use Rattle.ca_symbolic.specs.Demands.{picked}
use Rattle.ca_symbolic.specs.Made.{targets}
use Rattle.ca_symbolic.specs.clauses.Places.{one_if}
use Rattle.ca_shared_terms.specs.Heavy.{is_heavy}

abbrev heavy_targets : (ℕ → Bool) → ℕ → List PlainTerm → Bool
heavy_targets f n ts = list_any is_heavy (targets f n ts)

one_target : (f : ℕ → Bool) (n : ℕ) (t : PlainTerm) → (f n ≡ true → is_heavy t ≡ false) → heavy_targets f n (t ∷ []) ≡ false
one_target f n t light = at (f n) refl light
  where
    at : (b : Bool) → f n ≡ b → (b ≡ true → is_heavy t ≡ false) → heavy_targets f n (t ∷ []) ≡ false
    at true e l = rw e (ap (λ x. x || false) (l refl))
    at false e l = rw e refl

keeps : (x y z : Bool) → (y ≡ false → z ≡ false) → (x || y) ≡ false → (x || z) ≡ false
keeps true y z f e = absurd cc
keeps false y z f e = f e

-- a target or not, in front of others
in_front : (f : ℕ → Bool) (n : ℕ) (u : PlainTerm) (ts us : List PlainTerm) → (heavy_targets f (suc n) ts ≡ false → heavy_targets f (suc n) us ≡ false) → (b : Bool) → f n ≡ b →
    heavy_targets f n (u ∷ ts) ≡ false → heavy_targets f n (u ∷ us) ≡ false
in_front f n u ts us next true e g = rw e (keeps (is_heavy u) (heavy_targets f (suc n) ts) (heavy_targets f (suc n) us) next (rw e at g))
in_front f n u ts us next false e g = rw e (next (rw e at g))

-- one more term, which is light where it is a target
pub more_light : (f : ℕ → Bool) (n : ℕ) (ts : List PlainTerm) (t : PlainTerm) → heavy_targets f n ts ≡ false → (f (n + length ts) ≡ true → is_heavy t ≡ false) →
    heavy_targets f n (ts ++ t ∷ []) ≡ false
more_light f n [] t h light = one_target f n t (λ e. light (subst (λ m. f m ≡ true) (omega arith) e))
more_light f n (u ∷ ts) t h light =
    in_front f n u ts (ts ++ t ∷ []) (λ g. more_light f (suc n) ts t g (λ e. light (subst (λ m. f m ≡ true) (omega arith) e))) (f n) refl h

behind_one : (f : ℕ → Bool) (n : ℕ) (u : PlainTerm) (us : List PlainTerm) → heavy_targets f (suc n) us ≡ true → (b : Bool) → f n ≡ b → heavy_targets f n (u ∷ us) ≡ true
behind_one f n u us next true e = rw e (or_right (is_heavy u) (heavy_targets f (suc n) us) next)
behind_one f n u us next false e = rw e next

-- a heavy target behind others
pub heavy_target : (f : ℕ → Bool) (n : ℕ) (ts : List PlainTerm) (t : PlainTerm) (rest : List PlainTerm) → f (n + length ts) ≡ true → is_heavy t ≡ true →
    heavy_targets f n (ts ++ t ∷ rest) ≡ true
heavy_target f n [] t rest e h =
    let here : f n ≡ true = subst (λ m. f m ≡ true) (omega arith) e in
    rw here (ap (λ x. x || heavy_targets f (suc n) rest) h)
heavy_target f n (u ∷ ts) t rest e h =
    behind_one f n u (ts ++ t ∷ rest) (heavy_target f (suc n) ts t rest (subst (λ m. f m ≡ true) (omega arith) e) h) (f n) refl

-- the items up to a place, and one more
pub taken_more : {A : Type 0} (xs : List A) (i : ℕ) (x : A) → i < length xs → x ≡ get_or xs i x → take (i + 1) xs ≡ take i xs ++ x ∷ []
taken_more xs i x h e = rw (add-one, take-suc xs i x h, ← e) refl

either_or : {A B C D : Type 0} → (A → C) → (B → D) → A ⊎ B → C ⊎ D
either_or f g (inl a) = inl (f a)
either_or f g (inr b) = inr (g b)

-- at the end of the shorter one of two
pub at_end : (a b n : ℕ) → min a b ≤ n → (a ≤ n) ⊎ (b ≤ n)
at_end zero b n h = inl (omega arith)
at_end (suc a) zero n h = inr (omega arith)
at_end (suc a) (suc b) zero h = absurd (omega (arith, h))
at_end (suc a) (suc b) (suc n) h = either_or (λ i. omega (arith, i)) (λ i. omega (arith, i)) (at_end a b n (omega (arith, h)))

-- behind the last place there is no choice
no_choice : (f : ℕ → Bool) (n : ℕ) (c : PlainTerm) (ts : List PlainTerm) → choices f n c ts [] ≡ []
no_choice f n c [] = refl
no_choice f n c (t ∷ ts) = refl

module _ (f : ℕ → Bool) (c : PlainTerm) (ts us : List PlainTerm) where
  -- what is left is this choice and the others
  opened : (i : ℕ) (t u : PlainTerm) → i < length ts → i < length us → t ≡ get_or ts i t → u ≡ get_or us i u →
      choices f i c (drop i ts) (drop i us) ≡ choose_if (f i) c t u ∷ choices f (i + 1) c (drop (i + 1) ts) (drop (i + 1) us)
  opened i t u h g p q =
      ap₂ (λ (x y : List PlainTerm). choices f i c x y) (item_and_rest ts i t h p) (item_and_rest us i u g q)
      ∙ ap (λ n. choose_if (f i) c t u ∷ choices f n c (drop (i + 1) ts) (drop (i + 1) us)) (let e : suc i ≡ i + 1 = omega arith in e)

  -- one more term in front of what is left
  pub joined_step : (i : ℕ) (now next all : List PlainTerm) (t u x : PlainTerm) (b : Bool) → i < length ts → i < length us → t ≡ get_or ts i t → u ≡ get_or us i u →
      now ++ choices f i c (drop i ts) (drop i us) ≡ all → b ≡ f i → x ≡ choose_if b c t u → next ≡ now ++ x ∷ [] →
      next ++ choices f (i + 1) c (drop (i + 1) ts) (drop (i + 1) us) ≡ all
  joined_step i now next all t u x b h g p q was told is more =
      let rest : List PlainTerm = choices f (i + 1) c (drop (i + 1) ts) (drop (i + 1) us) in
      ap (λ z. z ++ rest) more
      ∙ (append_assoc now (x ∷ []) rest
      ∙ (ap (λ y. now ++ y ∷ rest) (is ∙ ap (λ k. choose_if k c t u) told)
      ∙ (ap (λ z. now ++ z) (sym (opened i t u h g p q)) ∙ was)))

  pub joined_light : (i : ℕ) (now next : List PlainTerm) (x : PlainTerm) (b : Bool) → length now ≡ i → heavy_targets f 0 now ≡ false → b ≡ f i → (b ≡ true → is_heavy x ≡ false) →
      next ≡ now ++ x ∷ [] → heavy_targets f 0 next ≡ false
  joined_light i now next x b l h told light more =
      ap (λ (z : List PlainTerm). heavy_targets f 0 z) more
      ∙ more_light f 0 now x h (λ e. light (told ∙ subst (λ m. f m ≡ true) (let j : 0 + length now ≡ i = omega (arith, l) in j) e))

  pub joined_heavy : (i : ℕ) (now all : List PlainTerm) (t u : PlainTerm) (b : Bool) → i < length ts → i < length us → t ≡ get_or ts i t → u ≡ get_or us i u → length now ≡ i →
      now ++ choices f i c (drop i ts) (drop i us) ≡ all → b ≡ f i → b ≡ true → is_heavy (choose_if b c t u) ≡ true → heavy_targets f 0 all ≡ true
  joined_heavy i now all t u b h g p q l was told held heavy =
      let rest : List PlainTerm = choices f (i + 1) c (drop (i + 1) ts) (drop (i + 1) us) in
      ap (λ (z : List PlainTerm). heavy_targets f 0 z) (sym was ∙ ap (λ z. now ++ z) (opened i t u h g p q))
      ∙ heavy_target f 0 now (choose_if (f i) c t u) rest (subst (λ m. f m ≡ true) (let j : i ≡ 0 + length now = omega (arith, l) in j) (sym told ∙ held))
      (subst (λ k. is_heavy (choose_if k c t u) ≡ true) told heavy)

  pub joined_end : (i : ℕ) (now all : List PlainTerm) → (length ts ≤ i) ⊎ (length us ≤ i) → now ++ choices f i c (drop i ts) (drop i us) ≡ all → now ≡ all
  joined_end i now all (inl h) was = sym (append-nil now) ∙ ap (λ (z : List PlainTerm). now ++ choices f i c z (drop i us)) (sym (drop_all i ts h)) ∙ was
  joined_end i now all (inr h) was =
      sym (append-nil now) ∙ ap (λ z. now ++ z) (sym (no_choice f i c (drop i ts)))
      ∙ ap (λ (z : List PlainTerm). now ++ choices f i c (drop i ts) z) (sym (drop_all i us h)) ∙ was

picked_front : (f : ℕ → Bool) (i : ℕ) (t : PlainTerm) (ts : List PlainTerm) (k : Bool) → f i ≡ k → picked f i (t ∷ ts) ≡ one_if (f i) t ++ picked f (suc i) ts
picked_front f i t ts true e = rw e refl
picked_front f i t ts false e = rw e refl

picked_opened : (f : ℕ → Bool) (ts : List PlainTerm) (i : ℕ) (t : PlainTerm) → i < length ts → t ≡ get_or ts i t → picked f i (drop i ts) ≡ one_if (f i) t ++ picked f (i + 1) (drop (i + 1) ts)
picked_opened f ts i t h p =
    ap (λ (z : List PlainTerm). picked f i z) (item_and_rest ts i t h p)
    ∙ (picked_front f i t (drop (i + 1) ts) (f i) refl
    ∙ ap (λ n. one_if (f i) t ++ picked f n (drop (i + 1) ts)) (let j : suc i ≡ i + 1 = omega arith in j))

-- one more place that is read or not
pub picked_step : (f : ℕ → Bool) (ts : List PlainTerm) (i : ℕ) (now next all : List PlainTerm) (t : PlainTerm) (b : Bool) → i < length ts → t ≡ get_or ts i t →
    now ++ picked f i (drop i ts) ≡ all → b ≡ f i → next ≡ now ++ one_if b t → next ++ picked f (i + 1) (drop (i + 1) ts) ≡ all
picked_step f ts i now next all t b h p was told more =
    let rest : List PlainTerm = picked f (i + 1) (drop (i + 1) ts) in
    ap (λ z. z ++ rest) more
    ∙ (append_assoc now (one_if b t) rest
    ∙ (ap (λ k. now ++ (one_if k t ++ rest)) told
    ∙ (ap (λ z. now ++ z) (sym (picked_opened f ts i t h p)) ∙ was)))

-- one item made for each of a list, where those that are left are still to be made; each may know its number
module _ {A B : Type 0} (xs : List A) (i : ℕ) where
  module _ (x : A) (before : i < length xs) (is : x ≡ get_or xs i x) (now next all : List B) where
    pub mapped_step : (f : A → B) → next ≡ now ++ f x ∷ [] → now ++ map f (drop i xs) ≡ all → next ++ map f (drop (i + 1) xs) ≡ all
    mapped_step f more was =
        ap (λ (ys : List B). ys ++ map f (drop (i + 1) xs)) more
        ∙ (append_assoc now (f x ∷ []) (map f (drop (i + 1) xs)) ∙ (ap (λ (ys : List A). now ++ map f ys) (sym (item_and_rest xs i x before is)) ∙ was))

    pub numbered_step : (made : ℕ → List A → List B) (y : B) → made i (x ∷ drop (i + 1) xs) ≡ y ∷ made (i + 1) (drop (i + 1) xs) → next ≡ now ++ y ∷ [] → (length now ≡ i) × (now ++ made i (drop i xs) ≡ all) →
        (length next ≡ i + 1) × (next ++ made (i + 1) (drop (i + 1) xs) ≡ all)
    numbered_step made y one more was = (
      omega (arith, ap length more, length-append now (y ∷ []), was.0),
      ap (λ (ys : List B). ys ++ made (i + 1) (drop (i + 1) xs)) more
          ∙ (append_assoc now (y ∷ []) (made (i + 1) (drop (i + 1) xs)) ∙ (ap (λ (ys : List B). now ++ ys) (sym one) ∙ (ap (λ (ys : List A). now ++ made i ys) (sym (item_and_rest xs i x before is)) ∙ was.1))),
    )

  pub all_made : (made : List A → List B) → made [] ≡ [] → length xs ≤ i → (now all : List B) → now ++ made (drop i xs) ≡ all → now ≡ all
  all_made made none end now all was =
      sym (append-nil now) ∙ (ap (λ (ys : List B). now ++ ys) (sym none) ∙ (ap (λ (ys : List A). now ++ made ys) (sym (drop_all i xs end)) ∙ was))
