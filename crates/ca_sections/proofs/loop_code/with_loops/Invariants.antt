use Rattle.std.proofs.Common.{map}
use Rattle.ca_program.specs.View.{program_view}
use Rattle.ca_code.specs.Seen.{placed}
use Rattle.ca_sections.specs.Extending.{Looked}
use Rattle.ca_sections.proofs.loop_code.with_loops.Given as goal

abbrev pub invariant-rows : goal.invariant-rows
invariant-rows l = Looked (program_view l.program) (map placed l.fn.code.rows.items) l.at l.rows l.places.items
