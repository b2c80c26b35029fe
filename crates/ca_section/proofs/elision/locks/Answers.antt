use Rattle.std.proofs.Common.{sym, ◌∙◌}
use Rattle.ca_program.specs.View.{program_view}
use Rattle.ca_section.proofs.Locking.{by_target, by_reads, free, locked}
use Rattle.ca_section.proofs.elision.locks.Goals as goal

pub returns-then-hold_target-clause-exact : goal.returns-then-hold_target-clause-exact
returns-then-hold_target-clause-exact c =
    c.if-hold_target.true ∙ by_target (program_view c.args.program.now) c.args.op c.args.extent.now.written _ c.hold_target.result (rw c.deref.ensures.value at c.body_at-body.ensures) c.hold_target.ensures c.if-hold_target.true

pub returns-then-hold_target-clause-locked : goal.returns-then-hold_target-clause-locked
returns-then-hold_target-clause-locked c = λ t roots is inside. locked (program_view c.args.program.now) c.args.op c.args.extent.now roots is inside (sym (returns-then-hold_target-clause-exact c) ∙ t)

pub returns-else-hold_target-clause-exact : goal.returns-else-hold_target-clause-exact
returns-else-hold_target-clause-exact c =
    by_reads (program_view c.args.program.now) c.args.op c.args.extent.now.written c.written.result.now _ c.hold_target.result c.touched_by_any.result (rw c.deref.ensures.value at c.body_at-body.ensures) c.written.ensures
    c.hold_target.ensures c.touched_by_any.ensures c.if-hold_target.false

pub returns-else-hold_target-clause-free : goal.returns-else-hold_target-clause-free
returns-else-hold_target-clause-free c = λ f. free (program_view c.args.program.now) c.args.op c.args.extent.now.written (sym (returns-else-hold_target-clause-exact c) ∙ f)

pub returns-else-hold_target-clause-locked : goal.returns-else-hold_target-clause-locked
returns-else-hold_target-clause-locked c = λ t roots is inside. locked (program_view c.args.program.now) c.args.op c.args.extent.now roots is inside (sym (returns-else-hold_target-clause-exact c) ∙ t)
