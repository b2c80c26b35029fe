use Rattle.std.proofs.Common.{ap, refl}
use Rattle.ca_meaning.specs.Serial.{in_heap}
use Rattle.ca_steps.proofs.run.InRunAccess.put.Goals as goal

pub returns : goal.returns
returns c = record { put = λ e past. ap (in_heap past) (c.store.ensures.put e); fixed = refl; fits = λ bs h. h }
