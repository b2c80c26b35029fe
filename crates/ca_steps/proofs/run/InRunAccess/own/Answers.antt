use Rattle.std.proofs.Common.{sym}
use Rattle.ca_steps.proofs.run.InRunAccess.own.Goals as goal

pub returns : goal.returns
returns c = λ past bs fits. sym c.own_field.ensures
