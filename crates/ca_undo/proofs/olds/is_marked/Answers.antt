use Rattle.ca_undo.specs.Olds.{has_old}
use Rattle.ca_undo.proofs.Marking.{test_is}
use Rattle.ca_undo.proofs.olds.is_marked.Goals as goal

pub returns : goal.returns
returns c = λ olds marks. test_is c.args.marks c.args.field (has_old olds c.args.field 0) c.requires (marks c.args.field c.requires)
