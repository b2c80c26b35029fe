use Rattle.std.proofs.Common.{refl, sym, ◌∙◌}
use Rattle.ca_app.specs.clauses.Asked.{overlong, read_fault, no_memory}
use Rattle.ca_app.proofs.Ended.{no_six, no_two}
use Rattle.ca_app.proofs.serving.tell_unread.Goals as goal

pub returns-in-Limit-clause-untold : goal.returns-in-Limit-clause-untold
returns-in-Limit-clause-untold g c = rw c.in-Limit.is (rw c.exit_status.ensures (overlong c.refuse.ensures.ends))

pub returns-in-Limit-clause-read_fault : goal.returns-in-Limit-clause-read_fault
returns-in-Limit-clause-read_fault g c = λ six. absurd (no_six c.refuse.result (sym c.exit_status.ensures ∙ six))

pub returns-in-Limit-clause-write_fault : goal.returns-in-Limit-clause-write_fault
returns-in-Limit-clause-write_fault g c = rw c.exit_status.ensures c.refuse.ensures.write_fault

pub returns-in-Limit-clause-no_usage : goal.returns-in-Limit-clause-no_usage
returns-in-Limit-clause-no_usage g c = λ two. no_two c.refuse.result (sym c.exit_status.ensures ∙ two)

pub returns-in-Fault-clause-untold : goal.returns-in-Fault-clause-untold
returns-in-Fault-clause-untold g c = rw c.in-Fault.is (read_fault refl refl)

pub returns-in-Fault-clause-read_fault : goal.returns-in-Fault-clause-read_fault
returns-in-Fault-clause-read_fault g c = λ six. c.in-Fault.is

pub returns-in-Memory-clause-untold : goal.returns-in-Memory-clause-untold
returns-in-Memory-clause-untold g c = rw c.in-Memory.is (no_memory refl refl)
