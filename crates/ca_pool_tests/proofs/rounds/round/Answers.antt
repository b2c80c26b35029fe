use Rattle.std.proofs.Common.{◌∙◌}
use Rattle.ca_pool_tests.proofs.rounds.round.Goals as goal

pub work_all-requires-clause-set : goal.work_all-requires-clause-set
work_all-requires-clause-set g c = λ κs o. (c.set-extent.ensures.set, c.requires, c.of-reads.ensures.0 ∙ c.set-extent.ensures.objects)
