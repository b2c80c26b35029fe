use Rattle.std.proofs.Common.{◌≡◌, ℕ, ◌+◌, map, length}
use Rattle.ca_meaning.specs.Multisets.{weight}
use Rattle.ca_logs.specs.declared.log.Task.{Task}
use Rattle.ca_logs.specs.Entries.{task_after}
use Rattle.ca_deques.specs.Settings.{AllFit}
use Rattle.ca_sum_pool.proofs.performing.keep_ops.Given as goal

abbrev pub invariant-loop-op : goal.invariant-loop-op
invariant-loop-op g l = record {
  fits : AllFit g.N.Round.setting (map (task_after l.clock) l.ops.items);
  share : AllFit g.N.Round.setting l.share.items;
  added : (h : Task → ℕ) → weight h l.share.items + weight h (map (task_after l.clock) l.ops.items) ≡ weight h l.initial.share.items + weight h (map (task_after l.initial.clock) l.initial.ops.items);
}

abbrev pub decreases-loop-op : goal.decreases-loop-op
decreases-loop-op g l = length l.ops.items
