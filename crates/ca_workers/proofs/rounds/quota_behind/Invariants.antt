use Rattle.std.proofs.Common.{◌<◌, ◌≤◌, ◌-◌}
use Rattle.ca_workers.proofs.Quotas.{IsReached}
use Rattle.ca_workers.proofs.rounds.quota_behind.Given as goal

abbrev pub invariant-quotas : goal.invariant-quotas
invariant-quotas l = record {
  some : 0 < l.quota;
  few : l.quota ≤ 65536;
  reached : IsReached l.steps l.quota;
}

abbrev pub decreases-quotas : goal.decreases-quotas
decreases-quotas l = 65536 - l.quota
