use Rattle.std.proofs.Common.{ap, rules, w64}
use Rattle.std.proofs.lemmas.Int.{to_z-of_z}
use mir.Val.{SFits}
use Rattle.ca_expressions.specs.Terminals.{number, number_of}
use Rattle.ca_expressions.proofs.Fronts.{front_sees}
use Rattle.ca_expressions.proofs.tokens.number_at.Goals as goal

pub returns-clause-some : goal.returns-clause-some
returns-clause-some c =
    let t = c.token-item.result in
    let f : SFits w64 c.in-Number.n = search rules in
    rw (to_z-of_z w64 c.in-Number.n f)
    (front_sees number _ t (c.in-Number.n, t.at) c.in-len1-up.len_at_least c.token-item.is
    (ap (λ z. number_of z t.at) c.in-Number.is))
