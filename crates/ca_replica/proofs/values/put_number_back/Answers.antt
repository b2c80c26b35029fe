use Rattle.std.proofs.Common.{rules, w64}
use Rattle.std.proofs.lemmas.Int.{to_z-of_z}
use mir.Val.{SFits}
use Rattle.ca_replica.proofs.values.put_number_back.Goals as goal

pub put_back_at-requires : goal.put_back_at-requires
put_back_at-requires c = c.requires

pub returns : goal.returns
returns c =
    let small : SFits w64 c.args.number = search rules in
    record { back = rw (to_z-of_z w64 c.args.number small) at c.put_back_at.ensures.back; has = c.put_back_at.ensures.has }
