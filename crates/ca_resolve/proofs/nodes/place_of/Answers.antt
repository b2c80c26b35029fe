use Rattle.std.proofs.Common.{sym}
use Rattle.ca_resolve.proofs.InMemory.{place_is}
use Rattle.ca_resolve.proofs.nodes.place_of.Goals as goal

pub returns : goal.returns
returns c = sym (place_is c.args.e.now)
