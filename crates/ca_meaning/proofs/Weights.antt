-- What items weigh is found by tests: an item weighs as much as there are numbers below its weight.
use Rattle.std.proofs.Common.{◌≡◌, ℕ, zero, suc, ◌+◌, ◌<◌, ◌≤◌, List, [], ◌∷◌, refl, ap, sym, ◌∙◌, arith, Bool, true, false}
use Rattle.std.specs.Prelude.{count_by, cond, nat_lt}
use Rattle.ca_meaning.specs.Multisets.{weight, SameItems}
use Rattle.std.proofs.lemmas.Bool.{ltb-true, ltb-false}
use Rattle.std.proofs.lemmas.List.Sums.{sum_by-cons}

-- items that weigh more than a bound
abbrev above : {A : Type 0} → (A → ℕ) → ℕ → A → Bool
above f n x = nat_lt n (f x)

-- each item's weight, up to a bound
abbrev capped : {A : Type 0} → (A → ℕ) → ℕ → List A → ℕ
capped f zero xs = 0
capped f (suc n) xs = capped f n xs + count_by (above f n) xs

capped_same : {A : Type 0} (f : A → ℕ) (xs ys : List A) → ((test : A → Bool) → count_by test xs ≡ count_by test ys) → (n : ℕ) → capped f n xs ≡ capped f n ys
capped_same f xs ys same zero = refl
capped_same f xs ys same (suc n) = let a = capped_same f xs ys same n in let b = same (above f n) in omega (arith, a, b)

capped_none : {A : Type 0} (f : A → ℕ) (n : ℕ) → capped {A = A} f n [] ≡ 0
capped_none f zero = refl
capped_none f (suc n) = let a = capped_none f n in omega (arith, a)

-- one item's part of it
abbrev part : ℕ → ℕ → ℕ
part zero w = 0
part (suc n) w = part n w + cond (nat_lt n w) 1 0

count_cons : {A : Type 0} (test : A → Bool) (x : A) (xs : List A) → count_by test (x ∷ xs) ≡ cond (test x) 1 0 + count_by test xs
count_cons test x xs = sum_by-cons (λ y. cond (test y) 1 0) x xs

capped_one : {A : Type 0} (f : A → ℕ) (n : ℕ) (x : A) (xs : List A) → capped f n (x ∷ xs) ≡ part n (f x) + capped f n xs
capped_one f zero x xs = refl
capped_one f (suc n) x xs = let a = capped_one f n x xs in let z = count_cons (above f n) x xs in omega (arith, a, z)

part_is : (n w : ℕ) → (w ≤ n → part n w ≡ w) × (n ≤ w → part n w ≡ n)
part_is zero w = (λ le. omega arith, λ le. refl)
part_is (suc n) w = pick (part_is n w) (nat_lt n w) refl
  where
    pick : (w ≤ n → part n w ≡ w) × (n ≤ w → part n w ≡ n) → (b : Bool) → nat_lt n w ≡ b → (w ≤ suc n → part n w + cond b 1 0 ≡ w) × (suc n ≤ w → part n w + cond b 1 0 ≡ suc n)
    pick i true e = let lt : n < w = ltb-true n w e in (λ le. let a = i.1 (omega arith) in omega arith, λ le. let a = i.1 (omega arith) in omega arith)
    pick i false e = let ge : w ≤ n = ltb-false n w e in (λ le. let a = i.0 ge in omega arith, λ le. absurd (omega arith))

capped_whole : {A : Type 0} (f : A → ℕ) (n : ℕ) (xs : List A) → weight f xs ≤ n → capped f n xs ≡ weight f xs
capped_whole f n [] le = capped_none f n
capped_whole f n (x ∷ xs) le =
    let a = capped_one f n x xs in let b = capped_whole f n xs (omega arith) in let c = (part_is n (f x)).0 (omega arith) in
    omega (arith, a, b, c)

pub weighed_by_tests : {A : Type 0} (xs ys : List A) → ((test : A → Bool) → count_by test xs ≡ count_by test ys) → SameItems xs ys
weighed_by_tests xs ys same = record {
  weighed = λ f.
      let n : ℕ = weight f xs + weight f ys in
      let a = capped_whole f n xs (omega arith) in let b = capped_whole f n ys (omega arith) in let c = capped_same f xs ys same n in
      sym a ∙ c ∙ b;
}

-- and a test counts an item as one that weighs 1 or 0
count_weighs : {A : Type 0} (test : A → Bool) (xs : List A) → count_by test xs ≡ weight (λ x. cond (test x) 1 0) xs
count_weighs test [] = refl
count_weighs test (x ∷ xs) = count_cons test x xs ∙ ap (λ n. cond (test x) 1 0 + n) (count_weighs test xs)

pub counted_by_weights : {A : Type 0} (xs ys : List A) → SameItems xs ys → (test : A → Bool) → count_by test xs ≡ count_by test ys
counted_by_weights xs ys same test = count_weighs test xs ∙ same.weighed (λ x. cond (test x) 1 0) ∙ sym (count_weighs test ys)
