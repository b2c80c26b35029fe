use Rattle.std.proofs.Common.{◌≡◌, ◌-◌, length}
use Rattle.ca_base.proofs.standard.Pending.send.Given as goal

-- nothing is dropped before all is gone
abbrev pub invariant-loop-self : goal.invariant-loop-self
invariant-loop-self g l = l.self.bytes ≡ l.initial.self.bytes

abbrev pub decreases-loop-self : goal.decreases-loop-self
decreases-loop-self g l = length l.self.bytes.items - l.self.sent
