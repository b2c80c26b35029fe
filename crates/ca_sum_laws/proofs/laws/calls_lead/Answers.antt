use Rattle.ca_sum_laws.proofs.Calls.{calls_lead}
use Rattle.ca_sum_laws.proofs.laws.calls_lead.Goals as goal

pub returns : goal.returns
returns c = calls_lead
