use Rattle.std.proofs.Common.{refl}
use Rattle.ca_canonical.specs.Marks.{mark}
use Rattle.ca_canonical.proofs.Writing.{one_piece}
use Rattle.ca_canonical.proofs.pen.Pen.mark.Goals as goal

pub returns : goal.returns
returns c = one_piece (mark c.args.mark) (rw (c.as_bytes.ensures.value, c.text.ensures) at c.put.ensures) (λ more. refl) (λ more. refl)
