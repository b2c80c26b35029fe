use Rattle.std.proofs.Common.{rules, w64}
use mir.Val.{SFits}
use Rattle.std.proofs.lemmas.Int.{to_z-of_z}
use Rattle.ca_sections.proofs.access.put_slowly.Goals as goal

pub returns-then-put_anyway : goal.returns-then-put_anyway
returns-then-put_anyway c =
    let small : SFits w64 c.args.n = search rules in
    record { put = (to_z-of_z w64 c.args.n small, rw (to_z-of_z w64 c.args.n small) at (c.put_anyway.ensures.put c.if-put_anyway.true)); back = c.put_anyway.ensures.back; there = c.put_anyway.ensures.there }

pub returns-else-put_anyway : goal.returns-else-put_anyway
returns-else-put_anyway c = record { put = tt; back = c.put_anyway.ensures.back; there = c.put_anyway.ensures.there }
