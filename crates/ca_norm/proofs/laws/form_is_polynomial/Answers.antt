use Rattle.ca_norm.proofs.Polynomials.{form_is_polynomial}
use Rattle.ca_norm.proofs.laws.form_is_polynomial.Goals as goal

pub returns : goal.returns
returns c = form_is_polynomial
