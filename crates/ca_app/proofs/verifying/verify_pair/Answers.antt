use Rattle.std.proofs.Common.{rules}
use Rattle.ca_program.specs.View.{program_view}
use Rattle.ca_app.proofs.AcceptedNames.{accepted_names}
use Rattle.ca_app.proofs.AcceptedTyped.{accepted_is_checked}
use Rattle.ca_app.proofs.Scheduled.{ends_source_refused, ends_read}
use Rattle.ca_app.proofs.verifying.verify_pair.Goals as goal

pub returns-in-Ok-clause-ends : goal.returns-in-Ok-clause-ends
returns-in-Ok-clause-ends g c = ends_read c.args.budget c.args.source.now c.args.schedule.now (program_view c.in-Ok.reading.program) c.in-Ok.ensures.program c.verify_schedule.ensures.ends

pub returns-in-Err-Refused-clause-ends : goal.returns-in-Err-Refused-clause-ends
returns-in-Err-Refused-clause-ends g c = ends_source_refused c.args.budget c.args.source.now c.args.schedule.now (rw c.in-Err-Refused.field-0-is at c.in-Err-Refused.ensures.cause) (rw c.in-Err-Refused.field-0-is at c.refuse.ensures.ends)

pub verify_schedule-requires : goal.verify_schedule-requires
verify_schedule-requires g c = (search rules, (accepted_is_checked c.in-Ok.ensures.program.accepted, (accepted_names c.in-Ok.ensures.program.accepted, (c.requires.header, c.requires.short))))
