use Rattle.std.proofs.Common.{rules, w64}
use mir.Val.{SFits}
use Rattle.std.proofs.lemmas.Int.{to_z-of_z}
use Rattle.ca_sections.proofs.access.look_of.Goals as goal

pub returns-then-place : goal.returns-then-place
returns-then-place c =
    let small : SFits w64 c.args.index = search rules in
    λ line k. rw (to_z-of_z w64 c.args.index small) at (c.look_far.ensures line k)
