use Rattle.std.proofs.Common.{◌≡◌, ◌++◌, reverse, length}
use Rattle.ca_forms.proofs.operands.move_all.Given as goal

abbrev pub invariant-loop-item : goal.invariant-loop-item
invariant-loop-item c l = l.all.items ++ reverse l.from.items ≡ l.initial.all.items ++ reverse l.initial.from.items

abbrev pub decreases-loop-item : goal.decreases-loop-item
decreases-loop-item c l = length l.from.items
