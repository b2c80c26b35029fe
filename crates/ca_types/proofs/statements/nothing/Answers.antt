use Rattle.std.proofs.Common.{◌∙◌, ap}
use Rattle.ca_program.specs.Plain.{block}
use Rattle.ca_program.specs.View.{statements_view}
use Rattle.ca_program.proofs.Rows.{block_is}
use Rattle.ca_types.proofs.statements.nothing.Goals as goal

pub returns : goal.returns
returns c = block_is c.args.line c.new.result ∙ ap (λ ss. block c.args.line (statements_view ss)) c.new.ensures.items
