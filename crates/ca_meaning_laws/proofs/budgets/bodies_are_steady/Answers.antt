use Rattle.std.proofs.Common.{arith}
use Rattle.ca_meaning_laws.proofs.Bigs.{all_serial_steady}
use Rattle.ca_meaning_laws.proofs.budgets.bodies_are_steady.Goals as goal

pub returns : goal.returns
returns c = record {
  ends = λ p this ls w xs e k j is. (all_serial_steady p this xs ls w k).reached k (omega arith) e j is;
  traps = λ p this ls w xs t after k is. (all_serial_steady p this xs ls w k).stopped k (omega arith) t after is;
}
