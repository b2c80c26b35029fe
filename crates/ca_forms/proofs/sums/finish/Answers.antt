use Rattle.std.proofs.Common.{◌≡◌, map, ap, ◌∙◌, rules}
use Rattle.ca_forms.specs.Lists.{polynomial_of}
use Rattle.ca_forms.proofs.Gathered.{pairs_same}
use Rattle.ca_forms.proofs.sums.finish.Goals as goal

pub returns-clause-value : goal.returns-clause-value
returns-clause-value c =
    let items : c.in_ok-products.products.items ≡ map (λ e. (e.0, e.1)) c.args.form.entries = search rules in
    ap polynomial_of (items ∙ pairs_same c.args.form.entries)
