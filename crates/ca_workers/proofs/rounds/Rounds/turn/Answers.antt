use Rattle.ca_workers.proofs.rounds.Rounds.turn.Goals as goal

pub turn_summed-requires-clause-sums : goal.turn_summed-requires-clause-sums
turn_summed-requires-clause-sums g c κs within = c.requires.sums c.if-sums.true
