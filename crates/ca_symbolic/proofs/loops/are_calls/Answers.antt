use Rattle.std.proofs.Common.{◌≡◌, ◌+◌, List, drop, sym, ap, ◌∙◌}
use Rattle.std.proofs.lemmas.List.{drop_all}
use Rattle.ca_lists.proofs.Places.{item_and_rest}
use Rattle.ca_program.specs.declared.program.Stmt.{Stmt}
use Rattle.ca_program.specs.Plain.{statement_and}
use Rattle.ca_program.specs.View.{statement_view, statements_view}
use Rattle.ca_symbolic.specs.OtherLoops.{are_calls}
use Rattle.ca_symbolic.proofs.Blocks.{calls_so_far, no_call}
use Rattle.ca_symbolic.proofs.loops.are_calls.Goals as goal

pub statements-preserved : goal.statements-preserved
statements-preserved c =
    let rest = statements_view (drop (c.statements.s-index + 1) c.args.stmts.now) in
    let opened : statements_view (drop c.statements.s-index c.args.stmts.now) ≡ statement_and (statement_view c.s-item.result) rest =
    ap statements_view (item_and_rest c.args.stmts.now c.statements.s-index c.s-item.result c.statements-test.true c.s-item.is) in
    calls_so_far (statement_view c.s-item.result) rest (statements_view (drop c.statements.s-index c.args.stmts.now)) _ opened c.statements.invariant (sym c.is_call.ensures ∙ c.if-not-is_call.false)

pub returns-then-not-is_call : goal.returns-then-not-is_call
returns-then-not-is_call c =
    let rest = statements_view (drop (c.statements.s-index + 1) c.args.stmts.now) in
    let opened : statements_view (drop c.statements.s-index c.args.stmts.now) ≡ statement_and (statement_view c.s-item.result) rest =
    ap statements_view (item_and_rest c.args.stmts.now c.statements.s-index c.s-item.result c.statements-test.true c.s-item.is) in
    no_call (statement_view c.s-item.result) rest (statements_view (drop c.statements.s-index c.args.stmts.now)) _ opened c.statements.invariant (sym c.is_call.ensures ∙ c.if-not-is_call.true)

pub returns : goal.returns
returns c =
    sym (ap (λ (ss : List Stmt). are_calls (statements_view ss)) (drop_all c.statements.s-index c.args.stmts.now c.statements-test.false)) ∙ c.statements.invariant
