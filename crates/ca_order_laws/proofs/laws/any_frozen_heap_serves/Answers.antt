use Rattle.ca_order_laws.proofs.Frozen.{any_frozen_heap}
use Rattle.ca_order_laws.proofs.laws.any_frozen_heap_serves.Goals as goal

pub returns : goal.returns
returns c = any_frozen_heap
