use Rattle.ca_lex.proofs.Derivations.{one_fault}
use Rattle.ca_lex.proofs.laws.one_refusal.Goals as goal

pub returns-clause-place : goal.returns-clause-place
returns-clause-place c = λ text p q f g d e. (one_fault d q g e).0

pub returns-clause-kind : goal.returns-clause-kind
returns-clause-kind c = λ text p q f g d e. (one_fault d q g e).1
