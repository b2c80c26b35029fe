use Rattle.std.proofs.Common.{◌≡◌, List, [], ◌∷◌, ◌++◌, ap, ◌∙◌}
use Rattle.ca_program.specs.Plain.{Statement, no_statements, statement_and}
use Rattle.ca_program.specs.View.{statements_view}
use Rattle.ca_program.specs.declared.program.Stmt.{Stmt}
use Rattle.ca_counters.specs.Counters.{method}
use Rattle.ca_counters.proofs.counters.adding.Goals as goal

pub returns : goal.returns
returns c = let items : c.push.new.self.items ≡ c.count.result ∷ [] = c.in_ok-push.ensures.items ∙ ap (λ (ss : List Stmt). ss ++ c.count.result ∷ []) c.new-stmts.ensures.items in
    c.operation_of.ensures ∙ (ap (λ (ss : List Stmt). method (statements_view ss)) items ∙ ap (λ (s : Statement). method (statement_and s no_statements)) c.count.ensures)
