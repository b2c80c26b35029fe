use Rattle.std.proofs.Common.{ap, ◌∙◌}
use Rattle.ca_forms.specs.Lists.{polynomial_of}
use Rattle.ca_forms.specs.Folds.{made_in}
use Rattle.ca_forms.proofs.Made.{last_product, polynomial_back}
use Rattle.ca_forms.proofs.folds.opened.Goals as goal

pub returns-in-Some : goal.returns-in-Some
returns-in-Some c = λ op s h. c.opened_product.ensures op s (last_product op c.products_in-products.result.items c.pop.new.self.items c.in-Some.product s c.in-Some.ensures.items (ap (made_in op) (ap polynomial_of c.products_in-products.ensures ∙ polynomial_back c.args.f) ∙ h))
