use Rattle.std.proofs.Common.{ap, ◌∙◌}
use Rattle.ca_forms.specs.Lists.{longest, polynomial_of}
use Rattle.ca_forms.proofs.polynomial.Polynomial.longest.Goals as goal

pub returns : goal.returns
returns c = c.longest_of.ensures ∙ ap (λ ps. longest (polynomial_of ps)) c.deref.ensures.value ∙ ap longest c.self.view_is
