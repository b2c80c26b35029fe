use Rattle.std.proofs.Common.{drop, map, arith}
use Rattle.ca_code.specs.Laying.{laid}
use Rattle.ca_code.proofs.Laying.{all_left, none_left, stopped}
use Rattle.ca_code.proofs.Copying.{placed_there, one_copied, no_row_left}
use Rattle.ca_code.proofs.Operands.{row_is}
use Rattle.ca_code.proofs.layout.add_copies.Goals as goal

pub rows-init : goal.rows-init
rows-init g c = all_left c.args.rows.now (map (g.B.Bodies.changed c.args.bodies.now) (drop c.args.from (laid c.args.rows.now)))

pub returns-in_default : goal.returns-in_default
returns-in_default g c = stopped c.fail.ensures

pub rows-preserved : goal.rows-preserved
rows-preserved g c =
    one_copied (g.B.Bodies.changed c.args.bodies.now) c.rows.at _ (omega (arith, c.rows-test.true, c.here-end.ensures.value)) (placed_there c.rows.rows.rows _ _ c.in-Some.ensures) c.rows.invariant (row_is c.change-changed.ensures c.again.ensures)

pub returns : goal.returns
returns g c =
    none_left c.rows.invariant (no_row_left (g.B.Bodies.changed c.args.bodies.now) (laid c.args.rows.now) c.rows.at (omega (arith, c.rows-test.false, c.here-end.ensures.value)))
