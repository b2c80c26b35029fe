use Rattle.std.proofs.Common.{is_some, sym, ap, ◌∙◌}
use Rattle.ca_forms.specs.Folds.{monomial_made}
use Rattle.ca_forms.proofs.Made.{not_one_product, other_product, same_product}
use Rattle.ca_forms.proofs.folds.is_made_product.Goals as goal

pub returns-then-products-ne1 : goal.returns-then-products-ne1
returns-then-products-ne1 c = not_one_product c.args.op c.args.products.now c.if-products-ne1.true

pub returns-then-product-ne1 : goal.returns-then-product-ne1
returns-then-product-ne1 c = other_product c.args.op c.args.products.now c.index-products-0.result c.index-products-0.is c.if-products-ne1.false (λ e. c.if-product-ne1.true (ap (λ z. z.1) c.product.view_is ∙ e))

pub returns : goal.returns
returns c =
    c.is_made.ensures ∙ ap (λ z. is_some (monomial_made c.args.op z.0)) c.product.view_is ∙ same_product c.args.op c.args.products.now c.index-products-0.result c.index-products-0.is c.if-products-ne1.false (sym (ap (λ z. z.1) c.product.view_is) ∙ c.if-product-ne1.false)
