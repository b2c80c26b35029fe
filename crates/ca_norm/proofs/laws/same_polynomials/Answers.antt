use Rattle.ca_norm.proofs.Polynomials.{same_norm}
use Rattle.ca_norm.proofs.laws.same_polynomials.Goals as goal

pub returns : goal.returns
returns c = same_norm
