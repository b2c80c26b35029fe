use Rattle.std.proofs.Common.{◌≡◌, ◌-◌, ◌++◌, drop, length}
use Rattle.ca_forms.proofs.products.add_powers.Given as goal

abbrev pub invariant-loop-i : goal.invariant-loop-i
invariant-loop-i l = l.powers.items ++ drop l.i l.list ≡ l.initial.powers.items ++ drop l.place l.list

abbrev pub decreases-loop-i : goal.decreases-loop-i
decreases-loop-i l = length l.list - l.i
