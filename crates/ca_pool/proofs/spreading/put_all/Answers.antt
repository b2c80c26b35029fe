use Rattle.std.proofs.Common.{refl}
use Rattle.ca_deques.proofs.Parting.{fewer}
use Rattle.ca_pool.proofs.Spread.{put_inside, put_one, put_none}
use Rattle.ca_pool.proofs.spreading.put_all.Goals as goal

pub loop-number-init : goal.loop-number-init
loop-number-init c = record { alike = c.requires.alike; rising = c.requires.rising; below = c.requires.below; same = refl }

pub loop-number-smaller : goal.loop-number-smaller
loop-number-smaller c = fewer _ _ _ c.in-Some.ensures.last.0

pub put-requires : goal.put-requires
put-requires c = let e = c.in-Some.ensures.last in put_inside _ _ _ _ _ _ _ _ _ _ e.0 e.1 c.loop-number.invariant

pub loop-number-preserved : goal.loop-number-preserved
loop-number-preserved c = let e = c.in-Some.ensures.last in put_one _ _ _ _ _ _ _ _ _ _ _ e.0 e.1 c.put.ensures c.loop-number.invariant

pub returns : goal.returns
returns c = put_none _ _ _ _ _ _ c.in_default.ensures.none c.loop-number.invariant
