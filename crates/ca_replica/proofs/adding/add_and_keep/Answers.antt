use Rattle.std.proofs.Common.{ap, ◌∙◌}
use Rattle.ca_beside.specs.Beside.{present}
use Rattle.ca_replica.proofs.adding.add_and_keep.Goals as goal

pub returns : goal.returns
returns c = ap (present c.args.heap.now) c.keep_memory.ensures ∙ c.in_ok-add_one_beside.ensures
