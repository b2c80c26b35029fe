-- Statements in memory, as the plain program has them.
use Rattle.std.proofs.Common.{◌≡◌, List, [], ◌∷◌, map, refl, ap}
use Rattle.ca_program.specs.declared.program.Stmt.{Stmt}
use Rattle.ca_program.specs.Plain as program
use Rattle.ca_program.specs.View as resolved
use Rattle.ca_types.specs.Statements.{statements_in}

pub statements_are : (ss : List Stmt) → statements_in (map resolved.statement_view ss) ≡ resolved.statements_view ss
statements_are [] = refl
statements_are (s ∷ ss) = ap (λ z. program.statement_and (resolved.statement_view s) z) (statements_are ss)
