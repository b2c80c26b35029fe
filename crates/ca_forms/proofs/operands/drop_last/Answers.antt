use Rattle.std.proofs.Common.{◌∙◌}
use Rattle.ca_forms.proofs.Folding.{rest_is}
use Rattle.ca_forms.proofs.operands.drop_last.Goals as goal

pub returns : goal.returns
returns c d = λ us x e. d.pop.ensures.rest ∙ rest_is d.args.from.now.items us x _ d.args.from.now.ok.0 e
