use Rattle.std.proofs.Common.{◌≡◌}
use Rattle.ca_program.specs.View.{program_view}
use Rattle.ca_code.specs.Codes.{code_seen}
use Rattle.ca_steps.specs.Ways.{Way}
use Rattle.ca_steps.proofs.inside.run_inside.Given as goal

abbrev pub invariant-marks : goal.invariant-marks
invariant-marks g l =
    (l.run.run.program.now ≡ l.initial.run.run.program.now) × Way (g.D.Door.Lets l.door) (program_view l.initial.run.run.program.now) (code_seen l.laid.code) l.initial.frames l.initial.run.run.heap l.frames l.run.run.heap
