use Rattle.std.proofs.Common.{take}
use Rattle.ca_verdicts.specs.Verdicts.{SameFields}
use Rattle.ca_verdicts.proofs.compare.fields.fields_differ.Given as goal

abbrev pub invariant-loop-place : goal.invariant-loop-place
invariant-loop-place l = SameFields (take l.place l.first) (take l.place l.second)
