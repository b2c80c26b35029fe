use Rattle.ca_app.proofs.OneRefusal.{refused_violation, program_of_tree}
use Rattle.ca_app.proofs.reading.read_program.Goals as goal

pub returns-in-Ok-clause-program : goal.returns-in-Ok-clause-program
returns-in-Ok-clause-program c = program_of_tree c.in_ok-tree.ensures.tree c.in-Ok.ensures.resolved

pub returns-in-Err-Violation-clause-cause : goal.returns-in-Err-Violation-clause-cause
returns-in-Err-Violation-clause-cause c =
    let told = rw c.in-Err-Violation.field-0-is at c.in-Err-Violation.ensures.refused in
    refused_violation (record { at = c.in-Err-Violation.at; code = c.in-Err-Violation.code.0 }) c.in_ok-tree.ensures.tree told.1

pub returns-in-Err-Limit-clause-cause : goal.returns-in-Err-Limit-clause-cause
returns-in-Err-Limit-clause-cause c =
    let told = rw c.in-Err-Limit.field-0-is at c.in-Err-Limit.ensures.refused in
    refused_violation (record { at = c.in-Err-Limit.at; code = c.in-Err-Limit.code.0 }) c.in_ok-tree.ensures.tree told.1
