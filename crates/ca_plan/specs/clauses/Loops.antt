-- Statements that are borrowed, as the plain ones.
use Rattle.std.specs.Prelude.{List, map}
use Rattle.std.specs.Borrow.{Bor}
use Rattle.ca_program.specs.declared.program.Stmt.{Stmt}
use Rattle.ca_program.specs.Plain.{Statement}
use Rattle.ca_program.specs.View.{statement_view}

abbrev pub seen : List (Bor Stmt) → List Statement
seen xs = map (λ x. statement_view x.now) xs
