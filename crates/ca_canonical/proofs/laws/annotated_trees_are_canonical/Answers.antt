use Rattle.ca_canonical.proofs.Unmarked.{annotated_unmarked, nothing_annotated}
use Rattle.ca_canonical.proofs.laws.annotated_trees_are_canonical.Goals as goal

pub returns-clause-marked : goal.returns-clause-marked
returns-clause-marked c = annotated_unmarked

pub returns-clause-unmarked : goal.returns-clause-unmarked
returns-clause-unmarked c = nothing_annotated
