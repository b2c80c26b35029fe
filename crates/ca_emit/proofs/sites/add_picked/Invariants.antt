use Rattle.std.proofs.Common.{◌≡◌, ◌++◌, drop}
use Rattle.ca_emit.specs.Annotations.{picked}
use Rattle.ca_emit.proofs.sites.add_picked.Given as goal

abbrev pub invariant-loop-i : goal.invariant-loop-i
invariant-loop-i l = l.out.items ++ picked (drop l.i l.places) (drop l.i l.flags) ≡ l.initial.out.items ++ picked l.places l.flags
