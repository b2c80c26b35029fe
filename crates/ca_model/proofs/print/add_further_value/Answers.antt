use Rattle.std.proofs.Common.{codes}
use Rattle.ca_model.specs.Texts.{value_text}
use Rattle.ca_model.proofs.Lines.{adds_after, adds_more}
use Rattle.ca_model.proofs.print.add_further_value.Goals as goal

pub returns-in-Err-clause-bytes : goal.returns-in-Err-clause-bytes
returns-in-Err-clause-bytes g c = adds_more _ _ _ _ _ (codes ",") (value_text c.args.value) c.in-Err.ensures.bytes

pub returns-clause-bytes : goal.returns-clause-bytes
returns-clause-bytes g c = adds_after _ _ _ c.args.line.now (codes ",") _ (value_text c.args.value) _ _ c.in_default.ensures.bytes.whole c.add_value.ensures.bytes
