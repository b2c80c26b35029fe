use Rattle.std.proofs.Common.{◌≡◌, ◌≤◌, length, ◌-◌}
use Rattle.ca_base.specs.Devices.{with_front}
use Rattle.ca_base.proofs.read_to_end.read_all.Given as goal

-- the bytes so far, and then what is left, are what was left at first
abbrev pub invariant-loop-count : goal.invariant-loop-count
invariant-loop-count g l = record {
  bytes : g.S.Source.left l.initial.source ≡ with_front l.bytes.items (g.S.Source.left l.source);
  within : length l.bytes.items ≤ l.limit;
  later : g.S.Source.faults l.initial.source ≤ g.S.Source.faults l.source;
}

abbrev pub decreases-loop-count : goal.decreases-loop-count
decreases-loop-count g l = l.limit - length l.bytes.items
