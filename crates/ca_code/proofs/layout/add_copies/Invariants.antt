use Rattle.std.proofs.Common.{drop, map}
use Rattle.ca_code.specs.Laying.{laid}
use Rattle.ca_code.proofs.Laying.{Leaves}
use Rattle.ca_code.proofs.layout.add_copies.Given as goal

-- of all copies these are left
abbrev pub invariant-rows : goal.invariant-rows
invariant-rows g l =
    Leaves l.initial.rows (map (g.B.Bodies.changed l.bodies) (drop l.from (laid l.initial.rows))) l.rows (map (g.B.Bodies.changed l.bodies) (drop l.at (laid l.initial.rows)))
