use Rattle.std.proofs.Common.{ap, ◌∙◌, List, ◌++◌, ◌∷◌, [], sym}
use Rattle.ca_logs.specs.declared.log.Task.{Task}
use Rattle.ca_deques.proofs.taking.take_neighbour.Goals as goal

pub returns-then-is_of-clause-taken : goal.returns-then-is_of-clause-taken
returns-then-is_of-clause-taken c = λ _. (c.in-Some.task, c.in-Some.ensures.items, c.push_reserved.ensures.items ∙ ap (λ (l : List Task). l ++ c.in-Some.task ∷ []) c.reserve.ensures.items, c.is_of.ensures c.if-is_of.true)

pub returns-clause-same : goal.returns-clause-same
returns-clause-same c = λ _. (c.push_reserved-2.ensures.items ∙ sym c.in-Some.ensures.items, c.reserve.ensures.items)
