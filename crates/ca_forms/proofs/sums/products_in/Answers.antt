use Rattle.std.proofs.Common.{sym, ap, ◌∙◌}
use Rattle.ca_forms.specs.Lists.{products_of}
use Rattle.ca_forms.proofs.Gathered.{products_polynomial}
use Rattle.ca_forms.proofs.sums.products_in.Goals as goal

pub returns : goal.returns
returns c = sym (products_polynomial c.f.inside.products.items) ∙ ap products_of c.f.view_is
