-- The form of a number or a truth value has the coefficients of its formal polynomial.
use Rattle.std.proofs.Common.{◌≡◌, sym, ap, ◌∙◌, subst}
use Rattle.ca_forms.specs.declared.sort.Sort.{Sort}
use Rattle.ca_forms.specs.declared.sort.Sort.TheVariants.{Long, Bool as Truth}
use Rattle.ca_forms.specs.declared.form.Normal.TheVariants as normal
use Rattle.ca_forms.specs.Plain.{PlainMonomial, number_form, truth_form}
use Rattle.ca_forms.specs.Lists.{polynomial_of, products_of}
use Rattle.ca_forms.specs.Compare.{monomial_cmp}
use Rattle.ca_forms.specs.Rules.{gathered}
use Rattle.ca_forms.proofs.Exact.{monomials_exact}
use Rattle.ca_forms.proofs.Gathered.{products_polynomial}
use Rattle.ca_sums.specs.Sums.{Sum, collect}
use Rattle.ca_sums.proofs.Algebra.{alike_eq, alike_trans}
use Rattle.ca_sums.proofs.Collect.{SameCoefficients, collect_same, gathered_collect, total_collect, found}
use Rattle.ca_norm.specs.Terms.{PlainTerm, sort_of, IsWord}
use Rattle.ca_norm.specs.Forms.{expand, form_at, norm, SamePolynomial, IsGatheredOf, IsPolynomialOf}

same_gathered : (t u : PlainTerm) → SamePolynomial t u → gathered (expand t) ≡ gathered (expand u)
unfolding SameCoefficients
same_gathered t u h = ap polynomial_of (collect_same monomial_cmp monomials_exact (expand t) (expand u) (λ m. record { alike = h m }))

same_at : (s : Sort) (t u : PlainTerm) → IsWord s → SamePolynomial t u → form_at s t ≡ form_at s u
same_at Long t u w h = ap (λ f. normal.Scalar (number_form f)) (same_gathered t u h)
same_at Truth t u w h = ap (λ f. normal.Scalar (truth_form f)) (same_gathered t u h)
same_at s t u w h = absurd w

pub same_norm : (t u : PlainTerm) → IsWord (sort_of t) → sort_of t ≡ sort_of u → SamePolynomial t u → norm t ≡ norm u
same_norm t u w e h = same_at (sort_of t) t u w h ∙ ap (λ s. form_at s u) e

is_gathered : (t : PlainTerm) → IsGatheredOf (products_of (gathered (expand t))) t
is_gathered t =
    let ps : Sum PlainMonomial = collect monomial_cmp (expand t) in
    let in_order = gathered_collect monomial_cmp monomials_exact (expand t) in
    let each = λ (m : PlainMonomial). (alike_trans (alike_eq (sym (found monomial_cmp monomials_exact m ps in_order.0))) (total_collect monomial_cmp monomials_exact _ (expand t))).alike in
    subst (λ (qs : Sum PlainMonomial). IsGatheredOf qs t) (sym (products_polynomial ps)) (in_order.0, in_order.1, each)

polynomial_at : (s : Sort) (t : PlainTerm) → IsWord s → IsPolynomialOf (form_at s t) t
polynomial_at Long t w = is_gathered t
polynomial_at Truth t w = is_gathered t
polynomial_at s t w = absurd w

pub form_is_polynomial : (t : PlainTerm) → IsWord (sort_of t) → IsPolynomialOf (norm t) t
form_is_polynomial t w = polynomial_at (sort_of t) t w
