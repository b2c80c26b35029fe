use Rattle.std.proofs.Common.{rules, w64}
use Rattle.std.proofs.lemmas.Int.{to_z-of_z}
use mir.Val.{SFits}
use Rattle.ca_steps.proofs.gated.GatedAccess.add.Goals as goal

pub returns : goal.returns
returns g c =
    let small : SFits w64 c.args.n = search rules in
    record { adds = rw (to_z-of_z w64 c.args.n small) at c.add.ensures.adds; put = c.add.ensures.put; fixed = c.add.ensures.fixed; fits = λ bs h. h }
