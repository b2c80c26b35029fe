use Rattle.ca_forms.specs.Lists.{products_of}
use Rattle.ca_forms.proofs.Gathered.{gathered_once}
use Rattle.ca_forms.proofs.Told.{if_ok}
use Rattle.ca_forms.proofs.sums.together.Goals as goal

pub returns : goal.returns
returns c = if_ok c.with_multiple.result _ _ (gathered_once (products_of c.args.f) (products_of c.args.g)) c.with_multiple.ensures
