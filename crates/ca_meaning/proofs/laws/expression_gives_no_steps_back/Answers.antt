use Rattle.ca_meaning.proofs.Near.{left_of_value}
use Rattle.ca_meaning.proofs.Fix.{eval_self}
use Rattle.ca_meaning.proofs.laws.expression_gives_no_steps_back.Goals as goal

pub returns : goal.returns
returns c = λ ms h q e k j v is. left_of_value (eval_self ms h q e k) is
