use Rattle.std.proofs.Common.{subst}
use Rattle.ca_beside.specs.Beside.{AreDistinct}
use Rattle.ca_beside.proofs.Present.{distinct}
use Rattle.ca_beside.proofs.beside.Beside.know_apart.Goals as goal

pub returns : goal.returns
returns c = subst AreDistinct c.self.view_is (distinct c.self.inside.index.items c.self.inside.changed.items c.self.invariant)
