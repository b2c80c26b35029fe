use Rattle.std.proofs.Common.{◌≡◌, ◌+◌, ap, ◌∙◌, rules, w64, arith}
use mir.Val.{SFits}
use Rattle.std.proofs.lemmas.Int.{to_z-of_z}
use Rattle.ca_code.specs.Seen.{kind_seen}
use Rattle.ca_code_laws.specs.Words.{read_as}
use Rattle.ca_steps.specs.Stands.{seen}
use Rattle.ca_steps.proofs.Loading.{some_by}
use Rattle.ca_sections.proofs.listing.value_at.Goals as goal

pub number_at-n-requires : goal.number_at-n-requires
number_at-n-requires c = omega arith

pub returns : goal.returns
returns c =
    let κ = kind_seen c.args.kind in
    let xs = c.args.slots.now in
    let place = c.args.first + c.args.a in
    let n = c.number_at-n.result in
    let fits : SFits w64 n = search rules in
    some_by (λ v. v ≡ read_as κ n) (λ v. v ≡ read_as κ (seen xs place)) c.read_as.result (λ v e. e ∙ ap (read_as κ) c.number_at-n.ensures) (rw (to_z-of_z w64 n fits) at c.read_as.ensures.some)
