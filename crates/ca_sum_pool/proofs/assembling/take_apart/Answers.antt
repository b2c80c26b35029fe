use Rattle.std.proofs.Common.{arith}
use Rattle.std.proofs.lemmas.List.{nil_from_length}
use Rattle.ca_deques.proofs.Parting.{fewer}
use Rattle.ca_sum_pool.proofs.Joins.{tear_start, tear_one, tear_all}
use Rattle.ca_sum_pool.proofs.assembling.take_apart.Goals as goal

pub loop-part-init : goal.loop-part-init
loop-part-init g c = tear_start g.N.Round.setting g.K.Sums.extent g.K.Sums.left c.args.parts.items c.args.rest.items _ _ _ _ c.new.ensures.items c.new-2.ensures.items c.new-3.ensures.items c.new-4.ensures.items c.requires.fits

pub loop-part-smaller : goal.loop-part-smaller
loop-part-smaller g c = fewer _ _ _ c.in-Some.ensures.items

pub loop-part-preserved : goal.loop-part-preserved
loop-part-preserved g c = tear_one g.N.Round.setting g.K.Sums.extent g.K.Sums.left _ _ _ _ _ _ _ _ _ _ _ _ _ _ _ _ _ _ _ c.in-Some.ensures.items c.in_ok-put_apart.ensures c.loop-part.invariant

pub returns : goal.returns
returns g c = tear_all g.N.Round.setting g.K.Sums.extent g.K.Sums.left _ _ _ _ _ _ _ _ _ _ (nil_from_length c.loop-part.parts.items (let none = c.in_default.ensures.cases.0 in omega (arith, none))) c.loop-part.invariant
