use Rattle.std.proofs.Common.{sym, ◌∙◌}
use Rattle.ca_verdicts.proofs.Settled.{known_settled}
use Rattle.ca_verdicts.proofs.compare.is_settled.Goals as goal

pub returns : goal.returns
returns c = λ fs gs s e. known_settled fs gs c.args.settled.now.keys c.args.marks.now s (sym c.contains.ensures ∙ e)
