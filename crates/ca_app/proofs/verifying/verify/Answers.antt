use Rattle.std.proofs.Common.{Some, refl}
use Rattle.ca_words.specs.declared.Command.TheVariants.{Verify}
use Rattle.ca_app.proofs.Endings.{unreplied_ends}
use Rattle.ca_app.proofs.Scheduled.{ends_too_long}
use Rattle.ca_app.proofs.Uses.{by_error, uses_read, uses_unread}
use Rattle.ca_app.proofs.verifying.verify.Goals as goal

pub returns-in-Ok-clause-headline : goal.returns-in-Ok-clause-headline
returns-in-Ok-clause-headline g c = λ text told.
    let same = rw told at c.in-Ok.ensures.bytes in
    rw c.exit_status.ensures (rw same at (rw c.deref.ensures.value at c.verify_text.ensures.ends))

pub returns-in-Ok-clause-uses : goal.returns-in-Ok-clause-uses
returns-in-Ok-clause-uses g c =
    rw c.exit_status.ensures (uses_read (Some (Verify c.args.budget)) refl c.verify_text.result c.in-Ok.ensures.end c.in-Ok.ensures.later c.verify_text.ensures.write_fault)

pub returns-in-Err-clause-headline : goal.returns-in-Err-clause-headline
returns-in-Err-clause-headline g c = λ text told.
    by_error 67108864 text told c.in-Err.error c.in-Err.ensures.limit c.tell_unread.ensures.untold unreplied_ends (ends_too_long c.args.budget text)

pub returns-in-Err-clause-uses : goal.returns-in-Err-clause-uses
returns-in-Err-clause-uses g c =
    let told = c.tell_unread.ensures in
    uses_unread (Some (Verify c.args.budget)) refl c.in-Err.error told.untold told.read_fault told.write_fault told.no_usage c.in-Err.ensures.later c.in-Err.ensures.limit c.in-Err.ensures.fault
