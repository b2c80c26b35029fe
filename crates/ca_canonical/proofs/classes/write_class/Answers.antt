use Rattle.ca_canonical.proofs.Writing.{then, after, as_pieces}
use Rattle.ca_canonical.proofs.classes.write_class.Goals as goal

pub returns : goal.returns
returns g c =
    after (as_pieces (then c.key.ensures (then c.name.ensures (then c.sign.ensures (then c.key-2.ensures c.sign-2.ensures)))))
    (after (rw c.deref.ensures.value at c.write_members.ensures) (as_pieces (then c.sign-3.ensures c.sign-4.ensures)))
