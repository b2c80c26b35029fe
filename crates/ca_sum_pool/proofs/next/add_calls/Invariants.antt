use Rattle.std.proofs.Common.{◌≡◌, ℕ, ◌+◌, ◌-◌, map}
use Rattle.ca_meaning.specs.Multisets.{weight}
use Rattle.ca_logs.specs.declared.log.Task.{Task}
use Rattle.ca_logs.specs.Entries.{task_after}
use Rattle.ca_deques.specs.Settings.{Setting, AllFit}
use Rattle.ca_sum_pool.specs.Parts.{begun}
use Rattle.ca_sum_pool.proofs.next.add_calls.Given as goal

abbrev pub invariant-loop-call : goal.invariant-loop-call
invariant-loop-call l = record {
  fits : (s : Setting) → AllFit s (map (task_after 0) l.listed) → AllFit s l.initial.rest.items → AllFit s l.rest.items;
  added : (h : Task → ℕ) → weight h l.rest.items + weight h (begun l.listed l.at l.end) ≡ weight h l.initial.rest.items + weight h (begun l.listed l.first l.end);
}

abbrev pub decreases-loop-call : goal.decreases-loop-call
decreases-loop-call l = l.end - l.at
