use Rattle.std.proofs.Common.{arith}
use Rattle.ca_meaning_laws.proofs.Bigs.{section_run_steady}
use Rattle.ca_meaning_laws.proofs.budgets.sections_are_steady.Goals as goal

pub returns : goal.returns
returns c = record {
  ends = λ p h i own e k j is. (section_run_steady p h i own k).reached k (omega arith) e j is;
  traps = λ p h i own t after k is. (section_run_steady p h i own k).stopped k (omega arith) t after is;
}
