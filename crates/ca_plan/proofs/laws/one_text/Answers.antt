use Rattle.ca_plan.proofs.OnePlan.{one_pairs_text, one_plan_text, one_marks}
use Rattle.ca_plan.proofs.laws.one_text.Goals as goal

pub returns-clause-pairs : goal.returns-clause-pairs
returns-clause-pairs c = one_pairs_text

pub returns-clause-plan : goal.returns-clause-plan
returns-clause-plan c = one_plan_text

pub returns-clause-marks : goal.returns-clause-marks
returns-clause-marks c = one_marks
