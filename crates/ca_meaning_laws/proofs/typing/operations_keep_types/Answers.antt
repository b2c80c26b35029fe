use Rattle.ca_meaning_laws.proofs.SerialTypes.{serial_ops_keep}
use Rattle.ca_meaning_laws.proofs.typing.operations_keep_types.Goals as goal

pub returns : goal.returns
returns c = λ p typed is w k t well. serial_ops_keep p typed is w k t well
