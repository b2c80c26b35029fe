use Rattle.std.proofs.Common.{◌<◌, length, arith}
use Rattle.ca_serial.proofs.Listed.{stands_here}
use Rattle.ca_serial.proofs.listing.place_in.Goals as goal

pub halving-init : goal.halving-init
halving-init c = (omega arith, omega arith)

pub halving-preserved-then-places-middle : goal.halving-preserved-then-places-middle
halving-preserved-then-places-middle c = (omega (arith, c.halving-test.true), c.halving.invariant.1)

pub halving-preserved : goal.halving-preserved
halving-preserved c = (omega (arith, c.halving-test.true), omega (arith, c.halving-test.true, c.halving.invariant.0, c.halving.invariant.1))

pub halving-smaller-then-places-middle : goal.halving-smaller-then-places-middle
halving-smaller-then-places-middle c = omega (arith, c.halving-test.true)

pub halving-smaller : goal.halving-smaller
halving-smaller c = omega (arith, c.halving-test.true)

pub returns-then-own-at : goal.returns-then-own-at
returns-then-own-at c =
    let lt : c.halving.low < length c.args.places.now = omega (arith, c.if-low-places.true) in
    record { at = c.if-own-at.true; stands = λ p code all. stands_here p code c.args.places.now c.halving.low c.index-places-low.result lt c.index-places-low.is all }

pub returns : goal.returns
returns c = record { at = tt; stands = tt }
