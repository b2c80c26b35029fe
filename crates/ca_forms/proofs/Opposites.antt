-- A polynomial and its negation.
use Rattle.std.proofs.Common.{◌≡◌, ℕ, ◌*◌, ◌-◌, ◌%◌, ◌^◌, ◌∷◌, map, refl, sym, ap, ◌∙◌, Ordering, Equal, nat_cmp}
use Rattle.std.specs.Ordering.{ordering_then}
use Rattle.std.proofs.lemmas.Cmp.{tied_itself}
use Rattle.ca_sums.specs.Sums.{Sum}
use Rattle.ca_forms.specs.Plain.{PlainPolynomial, PlainMonomial, no_products, product_and, monomial_code}
use Rattle.ca_forms.specs.Trees.{tree_cmp, tree_cmp_total}
use Rattle.ca_forms.specs.Lists.{polynomial_of, products_of}
use Rattle.ca_forms.specs.Compare.{polynomial_cmp}
use Rattle.ca_forms.specs.Rules.{opposite}
use Rattle.ca_forms.proofs.Lists.{kept}

-- a product with its coefficient negated
abbrev pub turned : PlainMonomial × ℕ → PlainMonomial × ℕ
turned p = (p.0, (p.1 * (2 ^ 64 - 1)) % (2 ^ 64))

pub opposite_is : (f : PlainPolynomial) → polynomial_of (map turned (products_of f)) ≡ opposite f
opposite_is no_products = refl
opposite_is (product_and m c f) = ap (product_and m ((c * (2 ^ 64 - 1)) % (2 ^ 64))) (opposite_is f)

-- how a sum compares with its negation
abbrev pub against : Sum PlainMonomial → Ordering
against ps = polynomial_cmp (polynomial_of ps) (opposite (polynomial_of ps))

first_then : (m : PlainMonomial) (o p : Ordering) → ordering_then (ordering_then (tree_cmp (monomial_code m) (monomial_code m)) o) p ≡ ordering_then o p
first_then m o p = ap (λ t. ordering_then (ordering_then t o) p) (tied_itself tree_cmp_total (monomial_code m))

pub against_tied : (x : PlainMonomial × ℕ) (xs : Sum PlainMonomial) → nat_cmp x.1 (turned x).1 ≡ Equal → against (x ∷ xs) ≡ against xs
against_tied x xs e = first_then x.0 (nat_cmp x.1 (turned x).1) (against xs) ∙ ap (λ o. ordering_then o (against xs)) e

pub against_told : (x : PlainMonomial × ℕ) (xs : Sum PlainMonomial) (o : Ordering) → o ≡ nat_cmp x.1 (turned x).1 → (o ≡ Equal → ⊥) → o ≡ against (x ∷ xs)
against_told x xs o e n = kept o (against xs) n ∙ ap (λ z. ordering_then z (against xs)) e ∙ sym (first_then x.0 (nat_cmp x.1 (turned x).1) (against xs))
