use Rattle.std.proofs.Common.{ap, ◌∙◌}
use Rattle.ca_program.specs.View.{program_view}
use Rattle.ca_beside.specs.Beside.{present}
use Rattle.ca_workers.proofs.Beginning.{may_run, separable}
use Rattle.ca_workers.proofs.Parts.{in_cells}
use Rattle.ca_workers.proofs.rounds.Rounds.run_in_cells.Goals as goal

pub make-requires-clause-program : goal.make-requires-clause-program
make-requires-clause-program g c = rw c.program.ensures c.requires.setting.program

pub make-requires-clause-separable : goal.make-requires-clause-separable
make-requires-clause-separable g c = rw c.program.ensures (separable (program_view c.args.self.now.program.now) c.args.self.now.extent.now c.args.frozen.now c.requires.setting)

pub make-requires-clause-frozen : goal.make-requires-clause-frozen
make-requires-clause-frozen g c = rw c.program.ensures c.requires.setting.heap

pub make-requires-clause-now : goal.make-requires-clause-now
make-requires-clause-now g c = rw c.program.ensures c.requires.waiting.stands

pub round-requires-clause-given : goal.round-requires-clause-given
round-requires-clause-given g c = λ κs o. (c.in_ok-cells.ensures.key.0 ∙ ap program_view c.program.ensures, c.in_ok-cells.ensures.key.2, c.in_ok-cells.ensures.key.3, c.in_ok-cells.ensures.key.1)

pub round-requires-clause-round : goal.round-requires-clause-round
round-requires-clause-round g c = λ κs o. c.in_ok-cells.ensures.round

pub round-requires-clause-first : goal.round-requires-clause-first
round-requires-clause-first g c = λ κs o. (may_run _ (program_view c.args.self.now.program.now) c.args.self.now.extent.now c.args.frozen.now (present c.args.frozen.now c.args.beside.now) (rw c.program.ensures at c.in_ok-cells.ensures.key) c.args.first.items c.requires.waiting, c.requires.begins)

pub returns : goal.returns
returns g c = in_cells (program_view c.args.self.now.program.now) c.args.self.now.extent.now c.args.frozen.now (present c.args.frozen.now c.args.beside.now) c.args.left c.args.quota c.args.first.items _ (rw c.program.ensures at c.in_ok-cells.ensures.key) _ c.args.keeps c.in_ok-cells.ensures.keeps c.round.result c.round.ensures.told c.round.ensures.keeps c.round.ensures.rounded
