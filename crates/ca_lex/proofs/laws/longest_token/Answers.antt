use Rattle.ca_lex.proofs.Alone.{alone}
use Rattle.ca_lex.proofs.Longest.{longest}
use Rattle.ca_lex.proofs.laws.longest_token.Goals as goal

pub returns-clause-alone : goal.returns-clause-alone
returns-clause-alone c = λ s n x here. alone s n x here

pub returns-clause-longest : goal.returns-clause-longest
returns-clause-longest c = λ s n m x y here whole. longest s n m m x y here whole
