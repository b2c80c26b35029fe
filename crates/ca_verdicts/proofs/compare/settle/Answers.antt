use Rattle.std.proofs.Common.{sym, subst}
use Rattle.ca_verdicts.specs.clauses.Marks.{AllSettled}
use Rattle.ca_verdicts.proofs.Settled.{settled_insert}
use Rattle.ca_verdicts.proofs.compare.settle.Goals as goal

pub returns : goal.returns
returns c = λ fs gs s t. subst (AllSettled fs gs) (sym c.in_ok-insert.ensures.keys) (settled_insert fs gs _ _ c.args.marks s t)
