use Rattle.ca_lock_laws.proofs.Kept.{parallel_keeps, free_parallel_keeps}
use Rattle.ca_lock_laws.proofs.laws.parallel_bodies_keep_the_lock.Goals as goal

pub returns-clause-locked : goal.returns-clause-locked
returns-clause-locked c = parallel_keeps

pub returns-clause-free : goal.returns-clause-free
returns-clause-free c = free_parallel_keeps
