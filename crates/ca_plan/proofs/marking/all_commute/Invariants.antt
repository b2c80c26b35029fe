use Rattle.std.proofs.Common.{◌≡◌, take}
use Rattle.std.specs.Prelude.{Contains}
use Rattle.ca_verdicts.specs.declared.verdicts.Verdict.TheVariants.{Commutes}
use Rattle.ca_plan.specs.Plans.{PairVerdict}
use Rattle.ca_plan.proofs.marking.all_commute.Given as goal

abbrev pub invariant-loop-pair : goal.invariant-loop-pair
invariant-loop-pair l = (v : PairVerdict) → Contains (take l.pair-index l.pair-items) v → v.verdict ≡ Commutes
