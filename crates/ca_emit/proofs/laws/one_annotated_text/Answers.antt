use Rattle.ca_emit.proofs.OneText.{one_annotated_text}
use Rattle.ca_emit.proofs.laws.one_annotated_text.Goals as goal

pub returns : goal.returns
returns c = one_annotated_text
