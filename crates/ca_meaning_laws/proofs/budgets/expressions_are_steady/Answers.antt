use Rattle.std.proofs.Common.{arith}
use Rattle.ca_meaning_laws.proofs.Bigs.{value_steady}
use Rattle.ca_meaning_laws.proofs.budgets.expressions_are_steady.Goals as goal

pub returns : goal.returns
returns c = record {
  ends = λ ms h q e v k j is. (value_steady ms h q e k).taken k (omega arith) v j is;
  traps = λ ms h q e t k is. (value_steady ms h q e k).trapped k (omega arith) t is;
}
