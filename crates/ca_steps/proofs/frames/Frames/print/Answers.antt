use Rattle.std.proofs.Common.{◌+◌, refl}
use Rattle.ca_code.specs.Seen.{kind_seen}
use Rattle.ca_steps.specs.declared.frames.Frames.{Frames}
use Rattle.ca_steps.proofs.Creating.{printed_so}
use Rattle.ca_steps.proofs.Failing.{short_or}
use Rattle.ca_steps.proofs.frames.Frames.print.Goals as goal

pub returns-in-Some : goal.returns-in-Some
returns-in-Some c =
    let m = c.args.self.now in
    let now : Frames = record m { at = m.at + 1 } in
    record { some = λ p code line w next. printed_so p code line c.args.a (kind_seen c.args.kind) c.in-Some.value m now w next c.in-Some.ensures.some refl; none = tt }

pub returns-in-None : goal.returns-in-None
returns-in-None c = record { some = tt; none = short_or c.args.self.now c.args.a (kind_seen c.args.kind) c.in-None.ensures.none }
