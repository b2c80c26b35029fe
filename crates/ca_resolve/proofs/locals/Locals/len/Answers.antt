use Rattle.std.proofs.Common.{length, ap, arith}
use Rattle.ca_resolve.proofs.Innermost.{as_many}
use Rattle.ca_resolve.proofs.locals.Locals.len.Goals as goal

pub returns : goal.returns
returns c = omega (arith, c.len.ensures, c.self.inside.all.ok, as_many c.self.inside.all.items, ap length c.self.view_is)
