use Rattle.std.proofs.Common.{[], ◌∷◌}
use Rattle.ca_base.proofs.Writing.{began_more, writes_after}
use Rattle.ca_app.proofs.tracing.write_schedule.Goals as goal

pub returns-in-Err-clause-bytes : goal.returns-in-Err-clause-bytes
returns-in-Err-clause-bytes g c = record { whole = tt; part = began_more _ _ (10 ∷ []) _ c.in-Err.ensures.bytes.part }

pub returns-clause-bytes : goal.returns-clause-bytes
returns-clause-bytes g c = writes_after _ _ _ _ (10 ∷ []) _ c.in_default.ensures.bytes.whole c.write_all-2.ensures.bytes
