use Rattle.std.proofs.Common.{◌≡◌, ℕ, ◌+◌, map}
use Rattle.ca_meaning.specs.Multisets.{weight}
use Rattle.ca_logs.specs.declared.log.Task.{Task}
use Rattle.ca_deques.specs.Settings.{Fits, AllFit}
use Rattle.ca_deques.specs.Thieves.{owner_key, key_of, taken_by_thief}
use Rattle.ca_pool.proofs.choosing.pass_held.Given as goal

abbrev pub invariant-tries : goal.invariant-tries
invariant-tries g l = record {
  same : owner_key l.owner ≡ owner_key l.fn.owner;
  keys : map key_of l.thieves ≡ map key_of l.fn.thieves;
  share : AllFit g.N.Round.setting l.share.items;
  fits : Fits g.N.Round.setting l.next;
  moved : (h : Task → ℕ) → weight h l.owner.hand.taken + weight (taken_by_thief h) l.thieves + weight h l.fn.owner.hand.pushed + weight h l.fn.share.items + h l.fn.task ≡ weight h l.fn.owner.hand.taken + weight (taken_by_thief h) l.fn.thieves + weight h l.owner.hand.pushed + weight h l.share.items + h l.next;
}
