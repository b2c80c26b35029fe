use Rattle.std.proofs.Common.{suc, arith}
use Rattle.ca_meaning_laws.proofs.Bigs.{calls_steady}
use Rattle.ca_meaning_laws.proofs.budgets.value_calls_are_steady.Goals as goal

pub returns : goal.returns
returns c = record {
  ends = λ ms h m r vs v k j is. (calls_steady ms h m r vs (suc k)).taken k (omega arith) v j is;
  traps = λ ms h m r vs t k is. (calls_steady ms h m r vs (suc k)).trapped k (omega arith) t is;
}
