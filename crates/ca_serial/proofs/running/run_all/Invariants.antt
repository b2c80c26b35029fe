use Rattle.std.proofs.Common.{◌≡◌, ◌≤◌}
use Rattle.ca_program.specs.View.{program_view}
use Rattle.ca_code.specs.Codes.{code_seen}
use Rattle.ca_serial.proofs.Going.{Going}
use Rattle.ca_serial.proofs.running.run_all.Given as goal

abbrev pub invariant-loop : goal.invariant-loop
invariant-loop g l =
    Going g.E.Extents.Accounts (program_view l.initial.run.program.now) (code_seen l.laid.code) l.laid.code.main l.budget (g.E.Extents.account l.initial.engine) (g.K.Sink.written l.initial.sink) l.frames l.run.heap (g.E.Extents.account l.engine) (g.K.Sink.written l.sink)
    × (g.K.Sink.faults l.initial.sink ≤ g.K.Sink.faults l.sink)
    × (l.run.program ≡ l.initial.run.program)
