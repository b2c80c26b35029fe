use Rattle.ca_serial.proofs.Copied.{is_copied}
use Rattle.ca_serial.proofs.heeding.HeedingBodiesBodies.is_copied.Goals as goal

pub returns : goal.returns
returns c = λ e. is_copied c.args.self.now.marked (c.has_no_loop.ensures.none e)
