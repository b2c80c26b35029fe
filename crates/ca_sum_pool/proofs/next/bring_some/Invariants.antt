use Rattle.std.proofs.Common.{◌≡◌, ℕ, ◌+◌, map}
use Rattle.ca_meaning.specs.Multisets.{weight}
use Rattle.ca_logs.specs.declared.log.Task.{Task}
use Rattle.ca_logs.specs.Entries.{task_after}
use Rattle.ca_deques.specs.Settings.{Setting, AllFit}
use Rattle.ca_sum_pool.specs.Parts.{begun}
use Rattle.ca_sum_pool.proofs.next.bring_some.Given as goal

abbrev pub invariant-calls : goal.invariant-calls
invariant-calls l = record {
  moved : (h : Task → ℕ) → weight h l.share.items + weight h (begun l.listed l.at l.end) ≡ weight h l.initial.share.items + weight h (begun l.listed l.at l.initial.end);
  fits : (s : Setting) → AllFit s (map (task_after 0) l.listed) → AllFit s l.initial.share.items → AllFit s l.share.items;
}
