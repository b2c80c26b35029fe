use Rattle.std.proofs.Common.{◌≡◌, ℕ, ◌+◌, ◌-◌, ◌<◌, ◌≤◌, All, length}
use Rattle.ca_meaning.specs.Multisets.{weight}
use Rattle.ca_logs.specs.declared.log.Task.{Task}
use Rattle.ca_logs.specs.Entries.{HasReceiver}
use Rattle.ca_deques.specs.Settings.{AllFit}
use Rattle.ca_deques.proofs.taking.take_run.Given as goal

abbrev pub invariant-neighbours : goal.invariant-neighbours
invariant-neighbours g l = record {
  share : AllFit g.N.Round.setting l.share.items;
  fits : AllFit g.N.Round.setting l.run.items;
  one : All (HasReceiver l.receiver) l.run.items;
  some : 0 < length l.run.items;
  few : length l.run.items ≤ l.few;
  moved : (h : Task → ℕ) → weight h l.share.items + weight h l.run.items ≡ weight h l.fn.share.items + h l.fn.task;
}

abbrev pub decreases-neighbours : goal.decreases-neighbours
decreases-neighbours g l = l.few - length l.run.items
