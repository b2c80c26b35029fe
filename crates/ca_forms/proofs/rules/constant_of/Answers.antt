use Rattle.std.proofs.Common.{rules, ◌≡◌, false, ap, sym, ◌∙◌}
use Rattle.ca_forms.specs.Rules.{is_one}
use Rattle.ca_forms.proofs.Constants.{many, other}
use Rattle.ca_forms.proofs.rules.constant_of.Goals.{else-products-eq1-via-then-products-eq1+else-is_one, else-products-eq1-via-else-products-eq1}
use Rattle.ca_forms.proofs.rules.constant_of.Goals as goal

pub returns-else-products-eq1 : goal.returns-else-products-eq1
returns-else-products-eq1 c = elim c.else-products-eq1.branch [
  | else-products-eq1-via-then-products-eq1+else-is_one w ↦ other c.args.products.now c.index-products-0.result c.index-products-0.is c.if-products-eq0.false (let e : is_one c.first.inside.monomial ≡ false = search rules in ap (λ r. is_one r.0) (sym c.first.view_is) ∙ e)
  | else-products-eq1-via-else-products-eq1 w ↦ many c.args.products.now c.if-products-eq0.false w.if-products-eq1.false
]
