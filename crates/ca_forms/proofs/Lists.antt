-- Powers and products in lists, and lists compared item by item.
use Rattle.std.proofs.Common.{◌≡◌, ℕ, suc, ◌+◌, ◌<◌, min, List, [], ◌∷◌, length, get_or, drop, drop-cons, add-one, arith, refl, ap, ◌∙◌, Ordering, Less, Equal, Greater, nat_cmp}
use Rattle.std.proofs.lemmas.Bool.Decides.{nat_tests}
use Rattle.std.specs.Cmp.Lexicographic.{slice_cmp}
use Rattle.std.specs.Ordering.{ordering_then}
use Rattle.ca_forms.specs.Plain.{PlainPart, PlainMonomial, PlainScalar, polynomial_code, monomial_code, scalars_code}
use Rattle.ca_forms.specs.Trees.{tree_cmp}
use Rattle.ca_forms.specs.Lists.{monomial_of, powers_of, polynomial_of, scalars_of}
use Rattle.ca_forms.specs.Compare.{power_cmp, product_cmp, scalar_cmp}
use Rattle.ca_forms.specs.Arrays.{PlainRows, rows_code, row_cmp}

pub powers_monomial : (ps : List (PlainPart × ℕ)) → powers_of (monomial_of ps) ≡ ps
powers_monomial [] = refl
powers_monomial (p ∷ ps) = ap (λ z. p ∷ z) (powers_monomial ps)

pub kept : (o p : Ordering) → (o ≡ Equal → ⊥) → o ≡ ordering_then o p
kept Less p h = refl
kept Equal p h = absurd (h refl)
kept Greater p h = refl

pub powers_cmp : (xs ys : List (PlainPart × ℕ)) → slice_cmp power_cmp xs ys ≡ tree_cmp (monomial_code (monomial_of xs)) (monomial_code (monomial_of ys))
powers_cmp [] [] = refl
powers_cmp [] (y ∷ ys) = refl
powers_cmp (x ∷ xs) [] = refl
powers_cmp (x ∷ xs) (y ∷ ys) = ap (ordering_then (power_cmp x y)) (powers_cmp xs ys)

pub products_cmp : (xs ys : List (PlainMonomial × ℕ)) → slice_cmp product_cmp xs ys ≡ tree_cmp (polynomial_code (polynomial_of xs)) (polynomial_code (polynomial_of ys))
products_cmp [] [] = refl
products_cmp [] (y ∷ ys) = refl
products_cmp (x ∷ xs) [] = refl
products_cmp (x ∷ xs) (y ∷ ys) = ap (ordering_then (product_cmp x y)) (products_cmp xs ys)

pub arguments_cmp : (xs ys : List PlainScalar) → slice_cmp scalar_cmp xs ys ≡ tree_cmp (scalars_code (scalars_of xs)) (scalars_code (scalars_of ys))
arguments_cmp [] [] = refl
arguments_cmp [] (y ∷ ys) = refl
arguments_cmp (x ∷ xs) [] = refl
arguments_cmp (x ∷ xs) (y ∷ ys) = ap (ordering_then (scalar_cmp x y)) (arguments_cmp xs ys)

pub rows_are : (xs ys : PlainRows) → slice_cmp row_cmp xs ys ≡ tree_cmp (rows_code xs) (rows_code ys)
rows_are [] [] = refl
rows_are [] (y ∷ ys) = refl
rows_are (x ∷ xs) [] = refl
rows_are (x ∷ xs) (y ∷ ys) = ap (ordering_then (row_cmp x y)) (rows_are xs ys)

-- two lists that tie at each index so far
pub passes : {X : Type 0} (R : X → X → Ordering) (xs ys : List X) (i : ℕ) (d : X) → i < length xs → i < length ys → R (get_or xs i d) (get_or ys i d) ≡ Equal → slice_cmp R (drop (i + 1) xs) (drop (i + 1) ys) ≡ slice_cmp R (drop i xs) (drop i ys)
passes R xs ys i d h k e = rw (drop-cons xs i d h, drop-cons ys i d k, e, add-one) refl

pub stops : {X : Type 0} (R : X → X → Ordering) (xs ys : List X) (i : ℕ) (d : X) (o : Ordering) → i < length xs → i < length ys → o ≡ R (get_or xs i d) (get_or ys i d) → (o ≡ Equal → ⊥) → o ≡ slice_cmp R (drop i xs) (drop i ys)
stops R xs ys i d o h k e n = rw (drop-cons xs i d h, drop-cons ys i d k, ← e) (kept o _ n)

cmp_suc : (m n : ℕ) → nat_cmp (suc m) (suc n) ≡ nat_cmp m n
cmp_suc m n = grind (arith, nat_tests)

cmp_more : (n : ℕ) → nat_cmp 0 (suc n) ≡ Less
cmp_more n = grind (arith, nat_tests)

cmp_less : (n : ℕ) → nat_cmp (suc n) 0 ≡ Greater
cmp_less n = grind (arith, nat_tests)

pub ends : {X : Type 0} (R : X → X → Ordering) (xs ys : List X) (i : ℕ) → i ≡ min (length xs) (length ys) → nat_cmp (length xs) (length ys) ≡ slice_cmp R (drop i xs) (drop i ys)
ends R [] [] i e = let z : i ≡ 0 = omega (arith, e) in rw z refl
ends R [] (y ∷ ys) i e = let z : i ≡ 0 = omega (arith, e) in rw z (cmp_more (length ys))
ends R (x ∷ xs) [] i e = let z : i ≡ 0 = omega (arith, e) in rw z (cmp_less (length xs))
ends R (x ∷ xs) (y ∷ ys) i e =
    let j : ℕ = min (length xs) (length ys) in
    let z : i ≡ suc j = omega (arith, e) in
    rw z (cmp_suc (length xs) (length ys) ∙ ends R xs ys j refl)
