use Rattle.std.proofs.Common.{arith}
use Rattle.ca_meaning_laws.proofs.Bigs.{exec_serial_steady}
use Rattle.ca_meaning_laws.proofs.budgets.statements_are_steady.Goals as goal

pub returns : goal.returns
returns c = record {
  ends = λ p this line ls w x e k j is. (exec_serial_steady p this x line ls w k).reached k (omega arith) e j is;
  traps = λ p this line ls w x t after k is. (exec_serial_steady p this x line ls w k).stopped k (omega arith) t after is;
}
