use Rattle.std.proofs.Common.{ap, ◌∙◌, arith}
use Rattle.ca_meaning.specs.Multisets.{weight}
use Rattle.ca_deques.specs.Thieves.{OwnerView, owner_key}
use Rattle.ca_sum_pool.proofs.next.open_calls.Goals as goal

pub open_more-requires : goal.open_more-requires
open_more-requires g c = c.bring_some.ensures.fits g.N.Round.setting c.requires.listed c.requires.share

pub returns-clause-same : goal.returns-clause-same
returns-clause-same g c = c.open_more.ensures.same ∙ ap owner_key c.len-2.ensures

pub returns-clause-taken : goal.returns-clause-taken
returns-clause-taken g c = c.open_more.ensures.taken ∙ ap (λ (o : OwnerView). o.hand.taken) c.len-2.ensures

pub returns-clause-share : goal.returns-clause-share
returns-clause-share g c = c.open_more.ensures.share

pub returns-clause-pushed : goal.returns-clause-pushed
returns-clause-pushed g c = λ h. omega (arith, c.open_more.ensures.pushed h, c.bring_some.ensures.moved h, ap (λ (o : OwnerView). weight h o.hand.pushed) c.len-2.ensures)
