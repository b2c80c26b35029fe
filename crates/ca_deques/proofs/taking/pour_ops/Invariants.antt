use Rattle.std.proofs.Common.{◌≡◌, ℕ, ◌+◌, map, length}
use Rattle.ca_meaning.specs.Multisets.{weight}
use Rattle.ca_logs.specs.declared.log.Task.{Task}
use Rattle.ca_logs.specs.Entries.{task_after}
use Rattle.ca_deques.specs.Settings.{Setting, AllFit}
use Rattle.ca_deques.proofs.taking.pour_ops.Given as goal

abbrev pub invariant-loop-op : goal.invariant-loop-op
invariant-loop-op l = record {
  fits : (s : Setting) → AllFit s (map (task_after l.initial.clock) l.initial.ops.items) → AllFit s l.initial.list.items → AllFit s (map (task_after l.clock) l.ops.items) × AllFit s l.list.items;
  poured : (h : Task → ℕ) → weight h l.list.items + weight h (map (task_after l.clock) l.ops.items) ≡ weight h l.initial.list.items + weight h (map (task_after l.initial.clock) l.initial.ops.items);
}

abbrev pub decreases-loop-op : goal.decreases-loop-op
decreases-loop-op l = length l.ops.items
