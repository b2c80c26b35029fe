use Rattle.ca_canonical.proofs.Writing.{after, as_pieces}
use Rattle.ca_canonical.proofs.classes.write_method.Goals as goal

pub returns : goal.returns
returns g c =
    let opening = rw c.opening.ensures at c.marks.ensures in
    let statements = rw c.deref.ensures.value at c.write_statements.ensures in
    let closing = rw c.closing.ensures at c.marks-2.ensures in
    after (as_pieces c.write_signature.ensures) (after (as_pieces c.sign.ensures) (after (after opening (after statements closing)) (as_pieces c.sign-2.ensures)))
