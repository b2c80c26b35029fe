use Rattle.ca_parallel.proofs.OneExtent.{one_extent}
use Rattle.ca_parallel.proofs.laws.one_extent.Goals as goal

pub returns : goal.returns
returns c = one_extent
