use Rattle.ca_workers.proofs.turning.turn_behind.Goals as goal

pub store-requires : goal.store-requires
store-requires c = record { alike = c.requires.alike; rising = c.requires.rising }

pub returns-clause-heap : goal.returns-clause-heap
returns-clause-heap c = c.in_ok-store.ensures
