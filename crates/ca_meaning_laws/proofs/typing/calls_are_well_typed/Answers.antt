use Rattle.ca_meaning_laws.proofs.Evals.{due_typed}
use Rattle.ca_meaning_laws.proofs.FunctionTypes.{calls_typed}
use Rattle.ca_meaning_laws.proofs.typing.calls_are_well_typed.Goals as goal

pub returns : goal.returns
returns c = λ p typed s q at e op es class tys o te tes k. due_typed p s q _ (calls_typed p typed q.heap at.heap) at e op es class tys o te tes k
