use Rattle.ca_program.specs.View.{program_view}
use Rattle.ca_app.proofs.Ended.{caused, written_so}
use Rattle.ca_app.proofs.Traces.{two_lines, ends_told_lines}
use Rattle.ca_app.proofs.tracing.trace_program.Goals as goal

pub returns-clause-traced : goal.returns-clause-traced
returns-clause-traced g c =
    let p = program_view c.args.program.now in
    let follows = rw c.from.ensures at c.in-Ok.ensures.follows in
    let text = rw c.deref.ensures.value at c.in-Ok-write_lines.ensures in
    let written = rw c.deref-2.ensures.value at c.write_schedule.ensures.bytes in
    let status = (rw c.deref-3.ensures.value at c.status_of.ensures) p c.args.budget follows in
    ends_told_lines p c.args.budget c.in-Ok.lines.items c.in-Ok-write_lines.schedule.items follows c.in-Ok.ensures.of_program text _ _ _ status written (written_so _ _ _ c.finish.ensures)

pub status_of-requires : goal.status_of-requires
status_of-requires g c = rw c.deref-3.ensures.value (two_lines (program_view c.args.program.now) c.from.result c.in-Ok.lines.items c.in-Ok.ensures.follows)

pub returns-clause-write_fault : goal.returns-clause-write_fault
returns-clause-write_fault g c = caused _ _ c.write_schedule.result _ _ c.write_schedule.ensures.cause c.finish.ensures
