use Rattle.ca_pool.proofs.performing.keep_back.Goals as goal

pub returns-clause-added : goal.returns-clause-added
returns-clause-added c = c.keep.ensures.added

pub returns-clause-lost : goal.returns-clause-lost
returns-clause-lost c = c.keep.ensures.lost
