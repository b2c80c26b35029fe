use Rattle.std.proofs.Common.{arith, rules}
use Rattle.ca_program.specs.View.{program_view}
use Rattle.ca_trace.specs.Lines.{Follows}
use Rattle.ca_lines.proofs.Bytes.{of_none, of_some}
use Rattle.ca_replay.proofs.Ends.{bad_within}
use Rattle.ca_app.proofs.Ended.{caused, written_so}
use Rattle.ca_app.proofs.Endings.{ends_written}
use Rattle.ca_app.proofs.Scheduled.{ends_yes, ends_no}
use Rattle.ca_app.proofs.verifying.verify_lines.Goals as goal

pub returns-in-None-clause-ends : goal.returns-in-None-clause-ends
returns-in-None-clause-ends g c =
    ends_yes c.args.budget (program_view c.args.program.now) c.in-Ok.marks c.in-Ok.ensures.planned _ c.from.ensures c.args.lines.items
    (of_none _ _ _ c.in-Ok-check.ensures c.in-None.is)
    (ends_written c.write_all.result 0 _ _ _ _ c.write_all.ensures.bytes (written_so _ _ _ c.finish.ensures))

pub returns-clause-ends : goal.returns-clause-ends
returns-clause-ends g c =
    ends_no c.args.budget (program_view c.args.program.now) c.in-Ok.marks c.in-Ok.ensures.planned _ c.from.ensures c.args.lines.items c.in-Some.place
    (of_some _ _ _ _ c.in-Ok-check.ensures c.in-Some.is)
    (ends_written c.write_no.result 9 _ _ _ _ c.write_no.ensures.bytes (written_so _ _ _ c.finish-in-Some.ensures))

pub write_no-requires : goal.write_no-requires
write_no-requires g c =
    let bad = of_some _ _ _ _ c.in-Ok-check.ensures c.in-Some.is in
    let within = bad_within (Follows (program_view c.args.program.now) c.in-Ok.marks c.from.result) c.args.lines.items c.in-Some.place bad in
    omega (arith, within, c.args.lines.ok.0, c.args.lines.small)

pub check-requires : goal.check-requires
check-requires g c = (search rules, (c.requires.checked.typed, c.in-Ok.ensures.sound))

pub returns-in-None-clause-write_fault : goal.returns-in-None-clause-write_fault
returns-in-None-clause-write_fault g c = caused _ _ c.write_all.result _ _ c.write_all.ensures.cause c.finish.ensures

pub returns-clause-write_fault : goal.returns-clause-write_fault
returns-clause-write_fault g c = caused _ _ c.write_no.result _ _ c.write_no.ensures.cause c.finish-in-Some.ensures
