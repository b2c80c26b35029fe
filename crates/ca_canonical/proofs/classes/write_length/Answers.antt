use Rattle.std.proofs.Common.{rules, w64}
use Rattle.std.proofs.lemmas.Int.{to_z-of_z}
use mir.Val.{SFits}
use Rattle.ca_canonical.proofs.Writing.{then}
use Rattle.ca_canonical.proofs.classes.write_length.Goals as goal

pub returns-in-Some : goal.returns-in-Some
returns-in-Some c =
    let f : SFits w64 c.in-Some.n = search rules in
    rw c.in-Some.is (then c.sign.ensures (then (rw (to_z-of_z w64 c.in-Some.n f) at c.number.ensures) c.sign-in-Some.ensures))
