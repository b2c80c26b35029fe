use Rattle.ca_lex.proofs.Derivations.{one_list}
use Rattle.ca_lex.proofs.laws.one_list_of_tokens.Goals as goal

pub returns : goal.returns
returns c = λ text a b d e. one_list d b e
