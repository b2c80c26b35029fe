use Rattle.ca_order_laws.proofs.Standing.{runs_stay}
use Rattle.ca_order_laws.proofs.laws.runs_stay_in_the_extent.Goals as goal

pub returns : goal.returns
returns c = runs_stay
