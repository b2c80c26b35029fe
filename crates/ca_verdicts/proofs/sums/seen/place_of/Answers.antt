use Rattle.std.proofs.Common.{arith}
use Rattle.ca_verdicts.proofs.sums.seen.place_of.Goals as goal

pub returns-then-marks-place : goal.returns-then-marks-place
returns-then-marks-place c = omega (arith, c.loop-place-test.true)

pub returns : goal.returns
returns c = omega arith
