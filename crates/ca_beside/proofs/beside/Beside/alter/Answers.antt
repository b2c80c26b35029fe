use Rattle.std.proofs.Common.{ap, ◌∙◌}
use Rattle.std.proofs.lemmas.Option.{slice_get_within}
use Rattle.std.specs.Prelude.{slice_get, slice_set}
use Rattle.ca_beside.proofs.beside.Beside.alter.Goals as goal

pub alter_at-requires : goal.alter_at-requires
alter_at-requires g c = slice_get_within _ _ _ c.in_ok-place.ensures.place.there

pub returns-clause-altered : goal.returns-clause-altered
returns-clause-altered g c =
    let n = c.args.number in
    let same = c.in_ok-place.ensures.same in
    λ o there. c.alter_at.ensures n o c.args.heap.now c.in_ok-place.ensures.place (ap (λ h. slice_get h n) same ∙ there) ∙ ap (λ h. slice_set h n (g.C.Change.makes c.args.change.now o)) same
