use Rattle.ca_app.proofs.LoadedTexts.{never_trapped, never_spent, never_rose}
use Rattle.ca_app.proofs.loading.run_to_end.Goals as goal

pub unreachable-requires : goal.unreachable-requires
unreachable-requires g c = never_trapped _ _ c.requires.done (rw c.in-Ok-Trapped.field-0-is at c.in-Ok-Trapped.ensures.outcome)

pub unreachable-requires-in-Ok-Spent : goal.unreachable-requires-in-Ok-Spent
unreachable-requires-in-Ok-Spent g c = never_spent _ c.requires.done (rw c.in-Ok-Spent.field-0-is at c.in-Ok-Spent.ensures.outcome)

pub unreachable-requires-in-Err-Write : goal.unreachable-requires-in-Err-Write
unreachable-requires-in-Err-Write g c = never_rose (rw c.in-Err-Write.field-0-is at c.in-Err-Write.ensures.write)

pub returns-in-Ok-Done : goal.returns-in-Ok-Done
returns-in-Ok-Done g c = (_, rw c.in-Ok-Done.field-0-is at c.in-Ok-Done.ensures.outcome)
