use Rattle.std.proofs.Common.{◌≡◌, [], subst}
use Rattle.ca_program.specs.View.{program_view}
use Rattle.ca_program.specs.declared.program.Program.{Program}
use Rattle.ca_parallel.specs.Bodies.{targets_of_all}
use Rattle.ca_parallel.specs.Extents.{operation_body}
use Rattle.ca_parallel.specs.Free.{IsFree}
use Rattle.ca_workers.proofs.Opened.{opened}
use Rattle.ca_workers.proofs.opening.open.Goals as goal

pub returns-in-Done : goal.returns-in-Done
returns-in-Done c =
    let op = c.args.op.now in
    let x = c.args.extent.now in
    let free = subst (λ (q : Program). (targets_of_all (operation_body (program_view q) op.op) ≡ []) × IsFree (program_view q) x.written op.op) c.program.ensures (c.locks-held.ensures.free c.if-held.false) in
    opened (program_view c.args.program.now) x c.args.heap.now c.requires.setting op c.requires.waiting free.0 free.1 c.args.left c.in-Done.steps c.section_frozen.new.out.items
    c.args.listed.now.items c.requires.none c.in_ok-answer.answer c.in-Done.is c.in_ok-answer.ensures.answer
