use Rattle.std.proofs.Common.{sym, ap, ◌∙◌}
use Rattle.ca_expressions.proofs.Fronts.{front_sees}
use Rattle.ca_parse.specs.Compounds.{compound_of, compound}
use Rattle.ca_parse.proofs.assigns.compound_at.Goals as goal

pub returns-clause-some : goal.returns-clause-some
returns-clause-some c =
    let t = c.token-item.result in
    front_sees compound _ t c.in-Some.op c.in-len1-up.len_at_least c.token-item.is (ap (λ z. compound_of z t.at) c.in-Sign.is ∙ sym c.in-Some.ensures)
