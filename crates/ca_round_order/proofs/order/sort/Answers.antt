use Rattle.std.proofs.Common.{rules}
use Rattle.std.proofs.lemmas.List.Sorted.{answers_always}
use Rattle.ca_round_order.specs.declared.order.Timed.{Timed}
use Rattle.ca_round_order.proofs.order.sort.Goals as goal

pub returns : goal.returns
returns c =
    record { sorted = c.in_ok-sort_by_key.ensures.sorted (λ (t : Timed). (t.clock, t.number)) (answers_always _ _ _ (λ f a r f2 k. search rules)); stable = c.in_ok-sort_by_key.ensures.stable (λ (t : Timed). (t.clock, t.number)) (answers_always _ _ _ (λ f a r f2 k. search rules)) }
