use Rattle.ca_plan.proofs.marking.is_marked_op.Goals as goal

pub returns-then-calls : goal.returns-then-calls
returns-then-calls c = (λ t. (c.in_ok-calls.ensures.0 c.if-calls.true, c.all_commute.ensures.0 t), λ k. c.all_commute.ensures.1 k.1)
