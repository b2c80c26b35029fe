use Rattle.ca_program.specs.View.{program_view}
use Rattle.ca_serial.proofs.Laid.{marked_so}
use Rattle.ca_serial.proofs.heeding.lay_out_marked.Goals as goal

pub returns : goal.returns
returns c = marked_so c.args.marks.now (program_view c.args.program.now) c.in_ok-code.code (rw c.in_ok-new.ensures at c.in_ok-code.ensures)
