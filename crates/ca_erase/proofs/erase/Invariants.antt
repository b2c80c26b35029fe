use Rattle.std.proofs.Common.{◌-◌, ◌≤◌, length}
use Rattle.ca_erase.proofs.Steps.{Sofar}
use Rattle.ca_erase.proofs.erase.Given as goal

abbrev pub invariant-fronts : goal.invariant-fronts
invariant-fronts l = record {
  within : l.start ≤ length l.text;
  sofar : Sofar l.text l.start l.out.items;
}

abbrev pub decreases-fronts : goal.decreases-fronts
decreases-fronts l = length l.text - l.start
