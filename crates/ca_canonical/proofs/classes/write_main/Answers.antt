use Rattle.ca_canonical.proofs.Writing.{then, after, as_pieces}
use Rattle.ca_canonical.proofs.classes.write_main.Goals as goal

pub returns : goal.returns
returns g c =
    let end = as_pieces (rw c.ends_in_zero.ensures at c.write_end.ensures) in
    after (as_pieces (then c.key.ensures (then c.key-2.ensures (then c.sign.ensures c.sign-2.ensures))))
    (after (as_pieces c.sign-3.ensures) (after (after c.write_statements.ensures end) (as_pieces c.sign-4.ensures)))
