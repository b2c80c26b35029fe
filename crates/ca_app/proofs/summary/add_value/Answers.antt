use Rattle.std.proofs.Common.{rules}
use Rattle.std.proofs.lemmas.Int.{wraps}
use Rattle.ca_app.proofs.summary.add_value.Goals as goal

pub returns-in-Long : goal.returns-in-Long
returns-in-Long c = search (rules, wraps)
