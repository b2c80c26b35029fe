use Rattle.std.proofs.Common.{sym, ap, ◌∙◌}
use Rattle.ca_replica.specs.InPlace.{mark_in}
use Rattle.ca_replica.proofs.marks.mark_of.Goals as goal

pub returns-in-Some : goal.returns-in-Some
returns-in-Some c = ap mark_in (sym c.in-Some.is ∙ c.mark_there.ensures)

pub returns-in-None : goal.returns-in-None
returns-in-None c = ap mark_in (sym c.in-None.is ∙ c.mark_there.ensures)
