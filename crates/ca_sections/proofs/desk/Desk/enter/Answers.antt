use Rattle.std.proofs.Common.{refl}
use Rattle.ca_sections.proofs.desk.Desk.enter.Goals as goal

pub returns : goal.returns
returns c = record { entered = c.enter.ensures; state = refl }
