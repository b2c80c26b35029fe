use Rattle.ca_forms.proofs.sums.apart.Goals as goal

pub returns : goal.returns
returns c = c.with_multiple.ensures
