use Rattle.std.proofs.Common.{◌≡◌, map, ap, ◌∙◌, rules}
use Rattle.ca_forms.specs.Lists.{polynomial_of, products_of}
use Rattle.ca_forms.proofs.Opposites.{turned, opposite_is}
use Rattle.ca_forms.proofs.sums.opposite.Goals as goal

pub returns : goal.returns
returns c =
    let items : c.in_ok-products.products.items ≡ map turned (products_of c.args.f) = search rules in
    ap polynomial_of items ∙ opposite_is c.args.f
