use Rattle.std.proofs.Common.{arith}
use Rattle.ca_meaning_laws.proofs.Bigs.{loop_run_steady}
use Rattle.ca_meaning_laws.proofs.budgets.loop_sections_are_steady.Goals as goal

pub returns : goal.returns
returns c = record {
  ends = λ p h this ls line loop e k j is. (loop_run_steady p h this ls line loop k).reached k (omega arith) e j is;
  traps = λ p h this ls line loop t after k is. (loop_run_steady p h this ls line loop k).stopped k (omega arith) t after is;
}
