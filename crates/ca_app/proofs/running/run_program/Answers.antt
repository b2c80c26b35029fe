use Rattle.std.proofs.Common.{◌≡◌, refl}
use Rattle.ca_program.specs.View.{program_view}
use Rattle.ca_meaning.specs.Serial.{serial, done, trapped, spent}
use Rattle.ca_serial.specs.Runs.{prints_of}
use Rattle.ca_app.specs.Ends.{no_memory, write_fault}
use Rattle.ca_serial.proofs.Endings.{cause_after}
use Rattle.ca_app.proofs.Ended.{caused, written_so}
use Rattle.ca_app.proofs.Endings.{begun_run, ends_run_written}
use Rattle.ca_app.proofs.running.run_program.Goals as goal

pub returns-in-Ok-Done-clause-ends : goal.returns-in-Ok-Done-clause-ends
returns-in-Ok-Done-clause-ends g c =
    let p = program_view c.args.program.now in
    let prints = prints_of (serial p c.args.budget) in
    let e = done prints c.in-Ok-Done.heap c.in-Ok-Done.field-0-1 in
    let is : serial p c.args.budget ≡ e = rw (c.from.ensures, c.in-Ok-Done.field-0-is) at c.in-Ok-Done.ensures.outcome in
    let told = rw c.from.ensures at c.in-Ok-Done.ensures.prints.whole in
    ends_run_written p c.args.budget e c.print_heap.result 0 _ _ _ _ _ is refl told c.print_heap.ensures.bytes (written_so _ _ _ c.finish.ensures)

pub returns-in-Ok-Trapped-clause-ends : goal.returns-in-Ok-Trapped-clause-ends
returns-in-Ok-Trapped-clause-ends g c =
    let p = program_view c.args.program.now in
    let prints = prints_of (serial p c.args.budget) in
    let e = trapped prints c.in-Ok-Trapped.trap in
    let is : serial p c.args.budget ≡ e = rw (c.from.ensures, c.in-Ok-Trapped.field-0-is) at c.in-Ok-Trapped.ensures.outcome in
    let told = rw c.from.ensures at c.in-Ok-Trapped.ensures.prints.whole in
    ends_run_written p c.args.budget e c.write_trap.result 3 _ _ _ _ _ is refl told c.write_trap.ensures.bytes (written_so _ _ _ c.finish-in-Ok-Trapped.ensures)

pub returns-in-Ok-Spent-clause-ends : goal.returns-in-Ok-Spent-clause-ends
returns-in-Ok-Spent-clause-ends g c =
    let p = program_view c.args.program.now in
    let prints = prints_of (serial p c.args.budget) in
    let e = spent prints in
    let is : serial p c.args.budget ≡ e = rw (c.from.ensures, c.in-Ok-Spent.field-0-is) at c.in-Ok-Spent.ensures.outcome in
    let told = rw c.from.ensures at c.in-Ok-Spent.ensures.prints.whole in
    ends_run_written p c.args.budget e c.write_spent.result 4 _ _ _ _ _ is refl told c.write_spent.ensures.bytes (written_so _ _ _ c.finish-in-Ok-Spent.ensures)

pub returns-in-Err-Write-clause-ends : goal.returns-in-Err-Write-clause-ends
returns-in-Err-Write-clause-ends g c =
    write_fault refl (begun_run (program_view c.args.program.now) c.args.budget _ _ (rw c.from.ensures at c.in-Err-Write.ensures.prints.part))

pub returns-in-Err-Memory-clause-ends : goal.returns-in-Err-Memory-clause-ends
returns-in-Err-Memory-clause-ends g c =
    no_memory refl (begun_run (program_view c.args.program.now) c.args.budget _ _ (rw c.from.ensures at c.in-Err-Memory.ensures.prints.part))

pub returns-in-Ok-Done-clause-write_fault : goal.returns-in-Ok-Done-clause-write_fault
returns-in-Ok-Done-clause-write_fault g c = caused _ _ c.print_heap.result _ _ (cause_after _ _ _ c.print_heap.result c.in-Ok-Done.ensures.later c.print_heap.ensures.cause) c.finish.ensures

pub returns-in-Ok-Trapped-clause-write_fault : goal.returns-in-Ok-Trapped-clause-write_fault
returns-in-Ok-Trapped-clause-write_fault g c = caused _ _ c.write_trap.result _ _ (cause_after _ _ _ c.write_trap.result c.in-Ok-Trapped.ensures.later c.write_trap.ensures.cause) c.finish-in-Ok-Trapped.ensures

pub returns-in-Ok-Spent-clause-write_fault : goal.returns-in-Ok-Spent-clause-write_fault
returns-in-Ok-Spent-clause-write_fault g c = caused _ _ c.write_spent.result _ _ (cause_after _ _ _ c.write_spent.result c.in-Ok-Spent.ensures.later c.write_spent.ensures.cause) c.finish-in-Ok-Spent.ensures
