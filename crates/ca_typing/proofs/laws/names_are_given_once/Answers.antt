use Rattle.ca_typing.proofs.Once.{names_once}
use Rattle.ca_typing.proofs.laws.names_are_given_once.Goals as goal

pub returns : goal.returns
returns c = λ tree p h. names_once tree p h
