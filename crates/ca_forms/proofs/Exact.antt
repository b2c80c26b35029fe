-- The orders tie only equal values.
use Rattle.std.proofs.Common.{◌≡◌, ◌↔◌, true, IsTrue, Equal, is_eq, ap, subst}
use Rattle.std.proofs.lemmas.Cmp.{tied_itself, on_total}
use Rattle.std.specs.Cmp.{Equal-is}
use Rattle.ca_sums.proofs.Collect.{Exact}
use Rattle.ca_forms.specs.Plain.{PlainPart, PlainPolynomial, PlainPointer, PlainScalar, part_code, part_inj, polynomial_code, polynomial_inj, monomial_code, monomial_inj, pointer_code, pointer_inj, scalar_code, scalar_inj}
use Rattle.ca_forms.specs.Trees.{tree_exact, tree_cmp_total}
use Rattle.ca_forms.specs.Arrays.{PlainArray, array_code, array_inj, array_cmp}
use Rattle.ca_forms.specs.Compare.{part_cmp, polynomial_cmp, monomial_cmp, pointer_cmp, scalar_cmp, monomial_total, scalar_total}
use Rattle.ca_folds.proofs.Rising.{eq_true as is_tie}

pub part_same : (p q : PlainPart) → part_cmp p q ≡ Equal → p ≡ q
part_same p q e = part_inj p q (tree_exact (part_code p) (part_code q) e)

pub polynomial_same : (f g : PlainPolynomial) → polynomial_cmp f g ≡ Equal → f ≡ g
polynomial_same f g e = polynomial_inj f g (tree_exact (polynomial_code f) (polynomial_code g) e)

pub pointer_same : (p q : PlainPointer) → pointer_cmp p q ≡ Equal → p ≡ q
pointer_same p q e = pointer_inj p q (tree_exact (pointer_code p) (pointer_code q) e)

scalar_same : (x y : PlainScalar) → scalar_cmp x y ≡ Equal → x ≡ y
scalar_same x y e = scalar_inj x y (tree_exact (scalar_code x) (scalar_code y) e)

pub monomials_exact : Exact monomial_cmp
monomials_exact = record { order = monomial_total; same = λ m n e. monomial_inj m n (tree_exact (monomial_code m) (monomial_code n) e) }

pub scalars_exact : Exact scalar_cmp
scalars_exact = record { order = scalar_total; same = scalar_same }

-- the order tells whether two forms are equal
pub scalar_tells : (x y : PlainScalar) → IsTrue (is_eq (scalar_cmp x y)) ↔ (x ≡ y)
scalar_tells x y =
    (λ e. scalar_same x y ((Equal-is (scalar_cmp x y)).0 e), λ e. subst (λ z. is_eq (scalar_cmp x z) ≡ true) e (ap is_eq (tied_itself scalar_total x)))

pub array_same : (a b : PlainArray) → array_cmp a b ≡ Equal → a ≡ b
array_same a b e = array_inj a b (tree_exact (array_code a) (array_code b) e)

pub array_tells : (a b : PlainArray) → IsTrue (is_eq (array_cmp a b)) ↔ (a ≡ b)
array_tells a b =
    (λ e. array_same a b ((Equal-is (array_cmp a b)).0 e), λ e. subst (λ z. is_eq (array_cmp a z) ≡ true) e (ap is_eq (tied_itself (on_total array_code tree_cmp_total) a)))

-- arrays that are found to agree
pub agree_same : (a b : PlainArray) → is_eq (array_cmp a b) ≡ true → a ≡ b
agree_same a b e = array_same a b ((Equal-is (array_cmp a b)).0 e)
