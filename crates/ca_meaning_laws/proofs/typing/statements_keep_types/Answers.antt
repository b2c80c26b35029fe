use Rattle.ca_meaning_laws.proofs.SerialTypes.{statement_typed}
use Rattle.ca_meaning_laws.proofs.typing.statements_keep_types.Goals as goal

pub returns : goal.returns
returns c = λ p typed s this line ls w x k good v t. statement_typed p typed s this line ls w x k good v t
