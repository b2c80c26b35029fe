use Rattle.ca_program.specs.View.{program_view}
use Rattle.ca_app.proofs.Scheduled.{ends_ill_formed, ends_judged}
use Rattle.ca_app.proofs.verifying.verify_schedule.Goals as goal

pub returns-in-Ok-clause-ends : goal.returns-in-Ok-clause-ends
returns-in-Ok-clause-ends g c =
    ends_judged c.args.budget (program_view c.args.program.now) c.requires.names c.args.schedule.now c.in-Ok.lines.items c.in-Ok.ensures.read c.verify_lines.ensures.ends

pub returns-in-Err-BadLine-clause-ends : goal.returns-in-Err-BadLine-clause-ends
returns-in-Err-BadLine-clause-ends g c =
    ends_ill_formed c.args.budget (program_view c.args.program.now) c.requires.names c.args.schedule.now c.of_line.result.at c.of_line.result.code.0 c.in-Err-BadLine.line (rw c.in-Err-BadLine.field-0-is at c.of_line.ensures.at) c.of_line.ensures.code
    (rw c.in-Err-BadLine.field-0-is at c.in-Err-BadLine.ensures.bad) c.refuse.ensures.ends
