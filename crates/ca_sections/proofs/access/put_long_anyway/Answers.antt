use Rattle.std.proofs.Common.{rules, w64}
use mir.Val.{SFits}
use Rattle.std.proofs.lemmas.Int.{to_z-of_z}
use Rattle.ca_sections.proofs.access.put_long_anyway.Goals as goal

pub returns : goal.returns
returns c =
    let small : SFits w64 c.args.n = search rules in
    record { put = λ e. rw (to_z-of_z w64 c.args.n small) at (c.put_anyway.ensures.put e); back = c.put_anyway.ensures.back; there = c.put_anyway.ensures.there }
