use Rattle.ca_meaning_laws.proofs.Evals.{eval_typed}
use Rattle.ca_meaning_laws.proofs.FunctionTypes.{calls_typed}
use Rattle.ca_meaning_laws.proofs.typing.expressions_have_their_types.Goals as goal

pub returns : goal.returns
returns c = λ p typed s q at e ty t k. eval_typed p s q _ (calls_typed p typed q.heap at.heap) at e ty t k
