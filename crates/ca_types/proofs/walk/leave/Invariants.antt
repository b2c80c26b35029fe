use Rattle.std.proofs.Common.{◌≡◌, drop}
use Rattle.ca_types.proofs.walk.leave.Given as goal

abbrev pub invariant-loop-i : goal.invariant-loop-i
invariant-loop-i l = l.visible ≡ drop l._i l.fn.visible
