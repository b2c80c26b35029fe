use Rattle.std.proofs.Common.{◌≡◌, map, take}
use Rattle.ca_norm.specs.Forms.{scalar_of}
use Rattle.ca_verdicts.proofs.key.forms_of.Given as goal

abbrev pub invariant-loop-part : goal.invariant-loop-part
invariant-loop-part l = l.items.items ≡ map scalar_of (take l.part-index l.parts)
