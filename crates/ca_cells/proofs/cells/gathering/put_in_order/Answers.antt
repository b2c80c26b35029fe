use Rattle.std.proofs.Common.{rules, ◌-◌}
use Rattle.std.proofs.lemmas.List.Sorted.{IsNonDecreasingBy-from_sort_by_key}
use Rattle.ca_cells.specs.declared.slot.Held.{Held}
use Rattle.ca_cells.proofs.cells.gathering.put_in_order.Goals as goal

pub returns-clause-order : goal.returns-clause-order
returns-clause-order c = IsNonDecreasingBy-from_sort_by_key (λ (h : Held). 4294967295 - h.number) _ c.sort_unstable_by_key.ensures.sorted (λ a r q k. search rules)
