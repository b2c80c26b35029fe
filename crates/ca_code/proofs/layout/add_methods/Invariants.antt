use Rattle.std.proofs.Common.{drop, map}
use Rattle.ca_program.specs.View.{method_view, program_view}
use Rattle.ca_code.specs.Seen.{row_of}
use Rattle.ca_code.specs.Texts.{method_code}
use Rattle.ca_code.proofs.Places.{Left}
use Rattle.ca_code.proofs.layout.add_methods.Given as goal

abbrev pub invariant-methods : goal.invariant-methods
invariant-methods g l =
    Left l.initial.rows (map method_view l.methods) l.rows l.places.items (method_code (g.B.Bodies.acts l.bodies) (g.B.Bodies.hands l.bodies) (row_of 0 l.last) (program_view l.program)) (map method_view (drop l.m-index l.methods))
