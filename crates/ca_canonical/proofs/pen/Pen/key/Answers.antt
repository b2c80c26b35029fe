use Rattle.std.proofs.Common.{refl}
use Rattle.ca_tree.specs.declared.token.Kind.TheVariants.{Key}
use Rattle.ca_canonical.proofs.Writing.{one_token}
use Rattle.ca_canonical.proofs.pen.Pen.key.Goals as goal

pub returns : goal.returns
returns c = one_token (Key c.args.key) (rw (c.as_bytes.ensures.value, c.text.ensures) at c.put.ensures) (λ more. refl) (λ more. refl)
