use Rattle.std.proofs.Common.{◌≡◌, ℕ, ◌+◌}
use Rattle.ca_meaning.specs.Multisets.{weight}
use Rattle.ca_logs.specs.declared.log.Task.{Task}
use Rattle.ca_deques.specs.Settings.{AllFit}
use Rattle.ca_deques.specs.Thieves.{owner_key}
use Rattle.ca_sum_pool.proofs.next.open_more.Given as goal

abbrev pub invariant-items : goal.invariant-items
invariant-items g l = record {
  same : owner_key l.owner ≡ owner_key l.initial.owner;
  taken : l.owner.hand.taken ≡ l.initial.owner.hand.taken;
  share : AllFit g.N.Round.setting l.share.items;
  pushed : (h : Task → ℕ) → weight h l.owner.hand.pushed + weight h l.share.items ≡ weight h l.initial.owner.hand.pushed + weight h l.initial.share.items;
}
