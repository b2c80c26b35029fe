use Rattle.ca_typing.proofs.Spelled.{names_spelled}
use Rattle.ca_typing.proofs.laws.names_are_spelled_so.Goals as goal

pub returns : goal.returns
returns c = λ text tokens free tree p t d judged. names_spelled text tokens free tree p t d judged
