use Rattle.ca_model.proofs.Lines.{flushed, not_added}
use Rattle.ca_model.proofs.print.write_together.Goals as goal

pub returns-in-Err-clause-bytes : goal.returns-in-Err-clause-bytes
returns-in-Err-clause-bytes g c = not_added _ _ _ _ _ (rw c.new-line.ensures at c.in-Err.ensures.bytes)

pub returns-clause-bytes : goal.returns-clause-bytes
returns-clause-bytes g c = flushed _ _ _ _ _ c.flush.result (rw c.new-line.ensures at c.in_default.ensures.bytes.whole) c.flush.ensures.bytes
