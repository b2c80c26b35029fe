use Rattle.ca_emit.proofs.Alike.{alike_but_for_places}
use Rattle.ca_emit.proofs.laws.equal_but_for_places.Goals as goal

pub returns : goal.returns
returns c = alike_but_for_places
