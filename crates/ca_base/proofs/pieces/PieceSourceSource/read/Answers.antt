use Rattle.ca_base.proofs.Reading.{reads_in_front}
use Rattle.ca_base.proofs.pieces.PieceSourceSource.read.Goals as goal

pub returns-clause-bytes : goal.returns-clause-bytes
returns-clause-bytes c =
    rw (← c.self.view_is) (reads_in_front _ _ c.read.result c.min-count.result _ c.args.buf.now c.read.new.buf c.read.ensures.within c.read.ensures.fits c.read.ensures.bytes)
