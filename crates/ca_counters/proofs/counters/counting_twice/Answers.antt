use Rattle.std.proofs.Common.{◌≡◌, List, [], ◌∷◌, ◌++◌, ap, ◌∙◌}
use Rattle.ca_program.specs.Plain.{Statement, no_statements, statement_and}
use Rattle.ca_program.specs.View.{statement_view, statements_view}
use Rattle.ca_program.specs.declared.program.Stmt.{Stmt}
use Rattle.ca_counters.specs.Counters.{method, counts_one}
use Rattle.ca_counters.proofs.counters.counting_twice.Goals as goal

pub returns : goal.returns
returns c = let first : c.push.new.self.items ≡ c.count.result ∷ [] = c.in_ok-push.ensures.items ∙ ap (λ (ss : List Stmt). ss ++ c.count.result ∷ []) c.new-stmts.ensures.items in
    c.operation_of.ensures ∙ (ap (λ (ss : List Stmt). method (statements_view ss)) c.in_ok-push-2.ensures.items ∙ (ap (λ (ss : List Stmt). method (statements_view (ss ++ c.call_add.result ∷ []))) first
    ∙ (ap (λ (s : Statement). method (statement_and s (statement_and (statement_view c.call_add.result) no_statements))) c.count.ensures
    ∙ ap (λ (s : Statement). method (statement_and counts_one (statement_and s no_statements))) c.call_add.ensures)))
