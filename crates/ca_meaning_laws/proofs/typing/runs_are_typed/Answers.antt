use Rattle.std.proofs.Common.{[]}
use Rattle.ca_model.specs.declared.value.Value.TheVariants.{Null}
use Rattle.ca_meaning.specs.ProgramTyped.{main_scope}
use Rattle.ca_meaning_laws.proofs.SerialTypes.{kept, main_typed}
use Rattle.ca_meaning_laws.proofs.typing.runs_are_typed.Goals as goal

pub returns : goal.returns
returns c = λ p typed k. kept p typed (main_scope p) Null [] _ (main_typed p typed k)
