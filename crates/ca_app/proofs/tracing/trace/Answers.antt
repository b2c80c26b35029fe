use Rattle.std.proofs.Common.{Some, refl}
use Rattle.ca_words.specs.declared.Command.TheVariants.{Trace}
use Rattle.ca_app.specs.Ends.{unreplied}
use Rattle.ca_app.proofs.OneRefusal.{refused_as_long}
use Rattle.ca_app.proofs.Traces.{ends_untraced}
use Rattle.ca_app.proofs.Uses.{by_error, uses_read, uses_unread}
use Rattle.ca_app.proofs.tracing.trace.Goals as goal

pub returns-in-Ok-clause-traced : goal.returns-in-Ok-clause-traced
returns-in-Ok-clause-traced g c = λ text told.
    let same = rw told at c.in-Ok.ensures.bytes in
    rw c.exit_status.ensures (rw same at (rw c.deref.ensures.value at c.trace_text.ensures.traced))

pub returns-in-Ok-clause-uses : goal.returns-in-Ok-clause-uses
returns-in-Ok-clause-uses g c =
    rw c.exit_status.ensures
    (uses_read (Some (Trace c.args.workers c.args.budget)) refl c.trace_text.result c.in-Ok.ensures.end c.in-Ok.ensures.later c.trace_text.ensures.write_fault)

pub returns-in-Err-clause-traced : goal.returns-in-Err-clause-traced
returns-in-Err-clause-traced g c = λ text told.
    by_error 1048576 text told c.in-Err.error c.in-Err.ensures.limit c.tell_unread.ensures.untold unreplied (λ more. ends_untraced c.args.budget (refused_as_long more))

pub returns-in-Err-clause-uses : goal.returns-in-Err-clause-uses
returns-in-Err-clause-uses g c =
    let told = c.tell_unread.ensures in
    uses_unread (Some (Trace c.args.workers c.args.budget)) refl c.in-Err.error told.untold told.read_fault told.write_fault told.no_usage c.in-Err.ensures.later c.in-Err.ensures.limit c.in-Err.ensures.fault
