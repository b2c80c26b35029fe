use Rattle.ca_plain_laws.proofs.Allowed.{plain_pairs_have_no_loops}
use Rattle.ca_plain_laws.proofs.laws.plain_pairs_have_no_loops.Goals as goal

pub returns : goal.returns
returns c = plain_pairs_have_no_loops
