-- What is put is what is stored.
use Rattle.std.proofs.Common.{◌≡◌, refl}
use Rattle.ca_tree.specs.declared.tree.AssignOp.TheVariants.{Put}
use Rattle.ca_model.specs.declared.value.Value.{Value as Datum}
use Rattle.ca_model.specs.declared.value.Value.TheVariants.{Long}
use Rattle.ca_meaning.specs.Operators.{assigned}

pub put_stores : (old v : Datum) → assigned Put old v ≡ v
put_stores (Long a) (Long b) = refl
put_stores old v = refl
