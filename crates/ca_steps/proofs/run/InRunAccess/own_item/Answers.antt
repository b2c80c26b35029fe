use Rattle.std.proofs.Common.{rules, w64}
use mir.Val.{SFits}
use Rattle.std.proofs.lemmas.Int.{to_z-of_z}
use Rattle.ca_steps.proofs.run.InRunAccess.own_item.Goals as goal

pub returns : goal.returns
returns c =
    let small : SFits w64 c.args.index = search rules in
    λ past bs line k fits. rw (to_z-of_z w64 c.args.index small) at (c.own_look.ensures.looks line k)
