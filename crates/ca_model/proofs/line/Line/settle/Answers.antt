use Rattle.ca_model.proofs.Lines.{adds_nothing, adds_flushed}
use Rattle.ca_model.proofs.line.Line.settle.Goals as goal

pub returns-then-remaining_capacity-ge-SPARE-clause-bytes : goal.returns-then-remaining_capacity-ge-SPARE-clause-bytes
returns-then-remaining_capacity-ge-SPARE-clause-bytes g c = adds_nothing _ c.args.self.now tt

pub returns-clause-bytes : goal.returns-clause-bytes
returns-clause-bytes g c = adds_flushed _ _ c.args.self.now _ c.flush.result c.flush.ensures.bytes c.flush.ensures.none_left
