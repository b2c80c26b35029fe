use Rattle.std.proofs.Common.{OnOk, subst}
use Rattle.ca_sums.specs.Sums.{Sum, AddsSum}
use Rattle.ca_forms.specs.Plain.{PlainMonomial}
use Rattle.ca_forms.proofs.sums.add_whole.Goals as goal

pub returns-clause-added : goal.returns-clause-added
returns-clause-added c =
    subst (λ (z : Sum PlainMonomial). OnOk c.add_owned.result (AddsSum c.args.form.now.entries c.add_owned.new.form.entries c.args.factor z)) c.products_in.ensures c.add_owned.ensures.added
