use Rattle.std.proofs.Common.{map, ap}
use Rattle.ca_code.specs.Seen.{kind_seen}
use Rattle.ca_code.proofs.layout.params_of.Goals as goal

pub params-init : goal.params-init
params-init c = ap (map kind_seen) c.new-kinds.ensures.items
