use Rattle.std.proofs.Common.{◌+◌, drop}
use Rattle.ca_program.specs.Layout.{starts_code}
use Rattle.ca_code.proofs.Laying.{Leaves}
use Rattle.ca_code.proofs.layout.add_starts.Given as goal

abbrev pub invariant-locals : goal.invariant-locals
invariant-locals l = Leaves l.initial.rows (starts_code l.first l.tys) l.rows (starts_code (l.first + l.i) (drop l.i l.tys))
