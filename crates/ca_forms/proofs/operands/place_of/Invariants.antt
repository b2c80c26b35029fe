use Rattle.std.proofs.Common.{◌≤◌, ◌-◌, length, take, drop}
use Rattle.ca_forms.specs.Compare.{scalar_cmp}
use Rattle.ca_forms.specs.clauses.Among.{AllBefore, NotBefore}
use Rattle.ca_forms.proofs.operands.place_of.Given as goal

abbrev pub invariant-halving : goal.invariant-halving
invariant-halving l = (l.low ≤ l.high) × (l.high ≤ length l.items) × AllBefore scalar_cmp l.operand (take l.low l.items) × NotBefore scalar_cmp l.operand (drop l.high l.items)

abbrev pub decreases-halving : goal.decreases-halving
decreases-halving l = l.high - l.low
