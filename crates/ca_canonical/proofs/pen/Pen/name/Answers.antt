use Rattle.std.proofs.Common.{refl}
use Rattle.ca_tree.specs.declared.token.Kind.TheVariants.{Word}
use Rattle.ca_canonical.proofs.Writing.{one_token}
use Rattle.ca_canonical.proofs.pen.Pen.name.Goals as goal

pub returns : goal.returns
returns c = one_token (Word c.args.name.now) (rw c.as_bytes.ensures at c.put.ensures) (λ more. refl) (λ more. refl)
