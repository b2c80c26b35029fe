use Rattle.std.proofs.Common.{sym}
use Rattle.ca_run.proofs.in_place.InPlaceAccess.own.Goals as goal

pub returns : goal.returns
returns g c = λ past bs fits. sym c.own_field.ensures
