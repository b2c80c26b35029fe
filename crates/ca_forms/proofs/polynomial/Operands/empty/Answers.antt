use Rattle.std.proofs.Common.{sym, subst}
use Rattle.ca_folds.proofs.Rising.{Rising}
use Rattle.ca_forms.specs.Compare.{scalar_cmp}
use Rattle.ca_forms.proofs.polynomial.Operands.empty.Goals as goal

pub invariant_of-result : goal.invariant_of-result
invariant_of-result c = subst (Rising scalar_cmp) (sym c.new.ensures.items) tt
