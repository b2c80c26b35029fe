use Rattle.ca_typing.proofs.Texts.{text_is_typed}
use Rattle.ca_typing.proofs.laws.resolved_programs_are_typed.Goals as goal

pub returns : goal.returns
returns c = λ text tokens free tree p t d judged. text_is_typed text tokens free tree p t d judged
