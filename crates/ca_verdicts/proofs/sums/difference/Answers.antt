use Rattle.ca_verdicts.proofs.sums.difference.Goals as goal

pub returns-then-is_seen-clause-same : goal.returns-then-is_seen-clause-same
returns-then-is_seen-clause-same c = c.is_seen.ensures c.if-is_seen.true
