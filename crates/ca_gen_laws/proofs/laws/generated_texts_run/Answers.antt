use Rattle.ca_gen_laws.proofs.Accepted.{runs_within}
use Rattle.ca_gen_laws.proofs.laws.generated_texts_run.Goals as goal

pub returns : goal.returns
returns c = runs_within
