use Rattle.std.proofs.Common.{rules}
use Rattle.ca_program.specs.View.{program_view}
use Rattle.ca_app.proofs.AcceptedTyped.{accepted_is_checked}
use Rattle.ca_app.proofs.Traces.{ends_traced, ends_untraced}
use Rattle.ca_app.proofs.tracing.trace_text.Goals as goal

pub returns-in-Ok-clause-traced : goal.returns-in-Ok-clause-traced
returns-in-Ok-clause-traced g c = ends_traced c.args.budget (program_view c.in-Ok.reading.program) c.in-Ok.ensures.program.accepted c.trace_program.ensures.traced

pub returns-in-Err-Refused-clause-traced : goal.returns-in-Err-Refused-clause-traced
returns-in-Err-Refused-clause-traced g c = ends_untraced c.args.budget (rw c.in-Err-Refused.field-0-is at c.in-Err-Refused.ensures.cause) (rw c.in-Err-Refused.field-0-is at c.refuse.ensures.ends)

pub trace_program-requires : goal.trace_program-requires
trace_program-requires g c = (search rules, (search rules, (accepted_is_checked c.in-Ok.ensures.program.accepted, c.requires.workers)))
