use Rattle.ca_lock_laws.proofs.Kept.{separable_keeps, free_keeps}
use Rattle.ca_lock_laws.proofs.laws.separable_bodies_keep_the_lock.Goals as goal

pub returns-clause-locked : goal.returns-clause-locked
returns-clause-locked c = separable_keeps

pub returns-clause-free : goal.returns-clause-free
returns-clause-free c = free_keeps
