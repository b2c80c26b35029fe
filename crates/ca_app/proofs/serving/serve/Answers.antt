use Rattle.std.proofs.Common.{Some, refl}
use Rattle.ca_words.specs.declared.Command.TheVariants.{OnText}
use Rattle.ca_app.proofs.Uses.{by_error, overlong_served, unserved, uses_read, uses_unread}
use Rattle.ca_app.proofs.serving.serve.Goals as goal

pub returns-in-Ok-clause-served : goal.returns-in-Ok-clause-served
returns-in-Ok-clause-served g c = λ text told.
    let same = rw told at c.in-Ok.ensures.bytes in
    rw c.exit_status.ensures (rw same at (rw c.deref.ensures.value at c.serve_text.ensures.served))

pub returns-in-Ok-clause-uses : goal.returns-in-Ok-clause-uses
returns-in-Ok-clause-uses g c =
    rw c.exit_status.ensures (uses_read (Some (OnText c.args.command)) refl c.serve_text.result c.in-Ok.ensures.end c.in-Ok.ensures.later c.serve_text.ensures.write_fault)

pub returns-in-Err-clause-served : goal.returns-in-Err-clause-served
returns-in-Err-clause-served g c = λ text told.
    by_error 1048576 text told c.in-Err.error c.in-Err.ensures.limit c.tell_unread.ensures.untold (unserved c.args.command text) (overlong_served c.args.command text)

pub returns-in-Err-clause-uses : goal.returns-in-Err-clause-uses
returns-in-Err-clause-uses g c =
    let told = c.tell_unread.ensures in
    uses_unread (Some (OnText c.args.command)) refl c.in-Err.error told.untold told.read_fault told.write_fault told.no_usage c.in-Err.ensures.later c.in-Err.ensures.limit c.in-Err.ensures.fault
