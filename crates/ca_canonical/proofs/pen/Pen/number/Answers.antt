use Rattle.std.proofs.Common.{refl, rules, w64}
use Rattle.std.proofs.lemmas.Int.{to_z-of_z}
use mir.Val.{SFits}
use Rattle.ca_tree.specs.declared.token.Kind.TheVariants.{Number}
use Rattle.ca_canonical.proofs.Writing.{one_token}
use Rattle.ca_canonical.proofs.pen.Pen.number.Goals as goal

pub returns : goal.returns
returns c =
    let f : SFits w64 c.args.n = search rules in
    one_token (Number c.args.n) (rw (c.as_bytes.ensures.value, c.format.ensures.text, to_z-of_z w64 c.args.n f) at c.put.ensures) (λ more. refl) (λ more. refl)
