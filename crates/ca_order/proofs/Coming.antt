-- Terms that come to a point under an order, by comparisons of points and choices between these.
use Rattle.std.proofs.Common.{◌≡◌, true, sym, ap, ◌∙◌}
use Rattle.std.specs.Ordering.{is_eq}
use Rattle.std.specs.Cmp.{Equal-is}
use Rattle.ca_forms.specs.declared.sort.Sort.TheVariants.{Long}
use Rattle.ca_forms.specs.declared.form.Normal.TheVariants as normal
use Rattle.ca_forms.specs.Plain.{PlainPolynomial, number_form}
use Rattle.ca_forms.specs.Compare.{polynomial_cmp}
use Rattle.ca_forms.specs.Rules.{gathered}
use Rattle.ca_forms.proofs.Exact.{polynomial_same}
use Rattle.ca_norm.specs.Terms.{PlainTerm, truth, choose, sort_of}
use Rattle.ca_norm.specs.Forms.{expand, norm, form_at}
use Rattle.ca_order.specs.Points.{Ranked}
use Rattle.ca_order.specs.Under.{under}
use Rattle.ca_order.proofs.Sorts.{sort_kept}
use Rattle.ca_order.proofs.Steps.{first_chosen}
use Rattle.ca_folds.proofs.Rising.{eq_true as tied}

pub first_comes : (r : Ranked) (c a b : PlainTerm) → under r c ≡ truth true → gathered (expand (under r a)) ≡ gathered (expand (under r (choose c a b)))
first_comes r c a b e = sym (ap (λ z. gathered (expand (choose z (under r a) (under r b)))) e ∙ first_chosen (expand (under r a)) (expand (under r b)))

pub long_norm : (r : Ranked) (t : PlainTerm) (f : PlainPolynomial) → sort_of t ≡ Long → f ≡ gathered (expand (under r t)) → norm (under r t) ≡ normal.Scalar (number_form f)
long_norm r t f e g = ap (λ s. form_at s (under r t)) (sort_kept r t ∙ e) ∙ ap (λ z. normal.Scalar (number_form z)) (sym g)

pub one_form : (f g : PlainPolynomial) → is_eq (polynomial_cmp f g) ≡ true → f ≡ g
one_form f g e = polynomial_same f g ((Equal-is (polynomial_cmp f g)).0 e)
