use Rattle.std.proofs.Common.{arith}
use Rattle.ca_meaning_laws.proofs.Bigs.{serial_ops_steady}
use Rattle.ca_meaning_laws.proofs.budgets.operations_are_steady.Goals as goal

pub returns : goal.returns
returns c = record {
  ends = λ p is w e k j at. (serial_ops_steady p is w k).reached k (omega arith) e j at;
  traps = λ p is w t after k at. (serial_ops_steady p is w k).stopped k (omega arith) t after at;
}
