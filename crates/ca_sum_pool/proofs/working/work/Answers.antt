use Rattle.std.proofs.Common.{rules, List, length, ap, sym, subst, arith}
use Rattle.ca_parallel.specs.declared.op.Op.{Op}
use Rattle.ca_deques.specs.Settings.{AllFit}
use Rattle.ca_deques.proofs.Backs.{fresh_unused, starts_settling}
use Rattle.ca_deques.proofs.Parting.{given_back, nothing_fits}
use Rattle.ca_sum_pool.specs.Parts.{Given}
use Rattle.ca_sum_pool.proofs.Joins.{torn_settling, worked}
use Rattle.ca_sum_pool.proofs.working.work.Goals as goal

pub open_thieves-requires : goal.open_thieves-requires
open_thieves-requires g c = starts_settling _ c.in_ok-owners.ensures.fresh

pub deal-requires-clause-some : goal.deal-requires-clause-some
deal-requires-clause-some g c = omega (arith, c.in_ok-thieves.ensures.count, c.in_ok-owners.ensures.count, c.requires.some)

pub deal-requires-clause-fits : goal.deal-requires-clause-fits
deal-requires-clause-fits g c = (c.requires.first, subst (AllFit g.N.Round.setting) (sym c.new-rest.ensures.items) (nothing_fits g.N.Round.setting))

pub assemble-requires-clause-count : goal.assemble-requires-clause-count
assemble-requires-clause-count g c = omega (arith, c.in_ok-thieves.ensures.each, c.in_ok-deal.ensures.count, c.in_ok-thieves.ensures.count)

pub assemble-requires-clause-some : goal.assemble-requires-clause-some
assemble-requires-clause-some g c = omega (arith, c.in_ok-deal.ensures.count, c.in_ok-thieves.ensures.count, c.in_ok-owners.ensures.count, c.requires.some)

pub assemble-requires-clause-calls : goal.assemble-requires-clause-calls
assemble-requires-clause-calls g c = ap length (sym c.requires.listed)

pub assemble-requires-clause-unused : goal.assemble-requires-clause-unused
assemble-requires-clause-unused g c = let s = c.in_ok-thieves.ensures.sums in (c.in_ok-deal.ensures.deals.unused (s.unused (fresh_unused _ c.in_ok-owners.ensures.fresh)), s.stolen)

pub settle-requires : goal.settle-requires
settle-requires g c = torn_settling g.N.Round.setting g.K.Sums.extent g.K.Sums.left c.in_ok-parts.parts.items _ _ _ _ _ _ _ _ _ _ c.in_ok-parts.ensures.assembled _ c.in_ok-owners-2.ensures (c.in_ok-deal.ensures.deals.settling _ c.in_ok-thieves.ensures.settling) (given_back c.in_ok-parts.parts.items c.run_all.new.parts c.in_ok-parts.parts.len c.in_ok-parts.parts.ok.0 (search rules))

pub returns-clause-memory : goal.returns-clause-memory
returns-clause-memory g c = c.in_ok-parts.ensures.memory

pub returns-clause-worked : goal.returns-clause-worked
returns-clause-worked g c = worked g.N.Round.setting g.K.Sums.extent g.K.Sums.left c.in_ok-parts.parts.items _ _ _ _ _ _ _ c.args.listed.now _ _ _ _ _
    c.in_ok-owners.ensures.fresh c.in_ok-thieves.ensures.sums c.in_ok-deal.ensures.dealt c.in_ok-parts.ensures.assembled (subst (λ (os : List Op). Given os c.in_ok-parts.parts.items) c.requires.listed c.in_ok-parts.ensures.given) c.in_ok-owners-2.ensures c.in_ok-settle.ensures.balance
    (c.in_ok-settle.ensures.fits c.in_ok-owners-2.ensures.fits) c.new-rest.ensures.items (given_back c.in_ok-parts.parts.items c.run_all.new.parts c.in_ok-parts.parts.len c.in_ok-parts.parts.ok.0 (search rules))
