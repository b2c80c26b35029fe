use Rattle.ca_meaning.proofs.Near.{left_of_flow}
use Rattle.ca_meaning.proofs.Fix.{exec_all_self}
use Rattle.ca_meaning.proofs.laws.statements_give_no_steps_back.Goals as goal

pub returns : goal.returns
returns c = λ p this xs ls after w x k j is. left_of_flow (exec_all_self p this xs ls w k) is
