use Rattle.ca_serial.proofs.Listed.{passes_so}
use Rattle.ca_serial.proofs.listing.go_in.Goals as goal

pub returns : goal.returns
returns c = passes_so c.pass.result c.args.frames.now c.pass.new.self c.left-left.result c.args.frames.now.left c.left-left.ensures c.pass.ensures
