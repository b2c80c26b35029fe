use Rattle.ca_verdicts.proofs.Unique.{same_verdict}
use Rattle.ca_verdicts.proofs.laws.one_verdict.Goals as goal

pub returns : goal.returns
returns c = same_verdict
