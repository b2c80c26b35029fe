use Rattle.ca_replay.proofs.Steps.{taken_out}
use Rattle.ca_replay.proofs.machine.take_out.Goals as goal

pub returns : goal.returns
returns c = taken_out c.args.waiting.now.items _ c.args.place c.swap_remove-gone.result c.requires c.swap_remove-gone.ensures.items
