use Rattle.ca_code_laws.proofs.OneEnd.{call_known}
use Rattle.ca_code_laws.proofs.laws.whoever_ends_a_call_knows_it.Goals as goal

pub returns : goal.returns
returns c = call_known
