-- Items of lists that hold the same.
use Rattle.std.proofs.Common.{◌≡◌, ℕ, zero, suc, ◌+◌, ◌<◌, ◌≤◌, List, [], ◌∷◌, ◌++◌, set, refl, ap, sym, arith, ◌≢◌}
use mathlib.Core.Option.{some, some-injective, some-ne-none}
use lib.ListN.{get_elem?}
use Rattle.ca_meaning.specs.Multisets.{weight, SameItems}

pub weight_append : {A : Type 0} (g : A → ℕ) (l m : List A) → weight g (l ++ m) ≡ weight g l + weight g m
weight_append g [] m = omega arith
weight_append g (x ∷ xs) m = omega (arith, weight_append g xs m)

-- one item taken out
pub record Split {A : Type 0} (x : A) (xs : List A) : Type 0 where
  pub others : List A
  pub same : SameItems xs (x ∷ others)

-- equality of items can be decided
pub data Decides {A : Type 0} (x y : A) : Type 0 where
  equal : x ≡ y → Decides x y
  other : x ≢ y → Decides x y

-- two items taken out of one list are one item, or each is left when the other is taken
pub data Two {A : Type 0} (a b : A) (xs ys : List A) : Type 0 where
  one : a ≡ b → SameItems xs ys → Two a b xs ys
  both : (zs : List A) → SameItems xs (b ∷ zs) → SameItems ys (a ∷ zs) → Two a b xs ys

module _ {A : Type 0} (decide : (x y : A) → Decides x y) where
  abbrev pub is_one : {x y : A} → Decides x y → ℕ
  is_one (equal e) = 1
  is_one (other n) = 0

  abbrev pub count_of : A → A → ℕ
  count_of x y = is_one (decide x y)

  there_from : (x y : A) (ys : List A) (d : Decides x y) → (0 < weight (count_of x) ys → Split x ys) → 0 < is_one d + weight (count_of x) ys → Split x (y ∷ ys)
  there_from x y ys (equal e) f h = record { others = ys; same = record { weighed = λ g. ap (λ z. g z + weight g ys) (sym e) } }
  there_from x y ys (other n) f h = let s : Split x ys = f (omega arith) in record { others = y ∷ s.others; same = record { weighed = λ g. let e = s.same.weighed g in omega arith } }

  pub there : (x : A) (ys : List A) → 0 < weight (count_of x) ys → Split x ys
  there x [] h = absurd (omega arith)
  there x (y ∷ ys) h = there_from x y ys (decide x y) (there x ys) h

  one_self : (x : A) (d : Decides x x) → is_one d ≡ 1
  one_self x (equal e) = refl
  one_self x (other n) = absurd (n refl)

  pub count_self : (x : A) → count_of x x ≡ 1
  count_self x = one_self x (decide x x)

  two_from : (a b : A) (xs ys : List A) → Decides a b → SameItems (a ∷ xs) (b ∷ ys) → Two a b xs ys
  two_from a b xs ys (equal e) s = one e record { weighed = λ g. let p = s.weighed g in let q = ap g e in omega arith }
  two_from a b xs ys (other n) s =
      let c : Split a ys = there a ys (let p = s.weighed (count_of a) in let q = count_self a in let z : count_of a b ≡ 0 = is_zero (decide a b) n in omega arith) in
      both c.others record { weighed = λ g. let p = s.weighed g in let q = c.same.weighed g in omega arith } c.same
    where
      is_zero : {a b : A} (d : Decides a b) → a ≢ b → is_one d ≡ 0
      is_zero (equal e) n = absurd (n e)
      is_zero (other n) m = refl

  pub two : (a b : A) (xs ys : List A) → SameItems (a ∷ xs) (b ∷ ys) → Two a b xs ys
  two a b xs ys s = two_from a b xs ys (decide a b) s

-- of lists of which one item is looked at, or changes
module _ {A : Type 0} (g : A → ℕ) where
  pub weight_set : (l : List A) (j : ℕ) (v w : A) → get_elem? l j ≡ some v → weight g (set l j w) + g v ≡ weight g l + g w
  weight_set [] j v w e = absurd (some-ne-none v (sym e))
  weight_set (x ∷ xs) zero v w e = omega (arith, ap g (some-injective x v e))
  weight_set (x ∷ xs) (suc j) v w e = omega (arith, weight_set xs j v w e)

  pub term_le : (l : List A) (j : ℕ) (v : A) → get_elem? l j ≡ some v → g v ≤ weight g l
  term_le [] j v e = absurd (some-ne-none v (sym e))
  term_le (x ∷ xs) zero v e = omega (arith, ap g (some-injective x v e))
  term_le (x ∷ xs) (suc j) v e = omega (arith, term_le xs j v e)

  pub weight_zero : (l : List A) → ((j : ℕ) (u : A) → get_elem? l j ≡ some u → g u ≡ 0) → weight g l ≡ 0
  weight_zero [] h = refl
  weight_zero (x ∷ xs) h = omega (arith, h 0 x refl, weight_zero xs (λ j u e. h (suc j) u e))

  pub weight_one : (l : List A) (i : ℕ) (v : A) → get_elem? l i ≡ some v → ((j : ℕ) (u : A) → j ≢ i → get_elem? l j ≡ some u → g u ≡ 0) → weight g l ≡ g v
  weight_one [] i v e h = absurd (some-ne-none v (sym e))
  weight_one (x ∷ xs) zero v e h = omega (arith, ap g (some-injective x v e), weight_zero xs (λ j u d. h (suc j) u (λ z. omega arith) d))
  weight_one (x ∷ xs) (suc i) v e h = omega (arith, h 0 x (λ z. omega arith) refl, weight_one xs i v e (λ j u n d. h (suc j) u (λ z. n (omega arith)) d))
