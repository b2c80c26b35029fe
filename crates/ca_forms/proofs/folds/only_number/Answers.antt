use Rattle.std.proofs.Common.{[], sym, ap, ◌∙◌}
use Rattle.ca_forms.specs.Folds.{number_in}
use Rattle.ca_forms.proofs.Folding.{last_same}
use Rattle.ca_forms.proofs.folds.only_number.Goals as goal

pub returns-in-Some : goal.returns-in-Some
returns-in-Some c = λ x e. c.number_in.ensures ∙ ap number_in (last_same c.pop.new.self.items [] c.in-Some.only x (sym c.in-Some.ensures.items ∙ c.into_items-rest.ensures.items ∙ e)).0
