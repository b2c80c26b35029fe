use Rattle.std.proofs.Common.{◌≡◌, List, sym, subst, ◌∙◌, ap}
use Rattle.ca_program.specs.Plain as program
use Rattle.ca_program.proofs.Rows.{block_is}
use Rattle.ca_resolve.specs.Judged.{Answers, fine}
use Rattle.ca_types.specs.Statements.{statements_in}
use Rattle.ca_types.specs.clauses.View.{all_view}
use Rattle.ca_types.proofs.Answering.{within_ok}
use Rattle.ca_types.proofs.Nodes.{statements_are}
use Rattle.ca_types.proofs.statements.block.Goals as goal

pub returns : goal.returns
returns c = λ j h.
    let v = c.in_ok-stmts.stmts in
    let line = c.args.line in
    let known : j ≡ fine (all_view v) = subst (λ z. Answers all_view z j) c.in_ok-stmts.was h in
    within_ok j (λ (ss : List program.Statement). fine (program.block line (statements_in ss))) (all_view v) known
    ∙ (ap (λ ss. fine (program.block line ss)) (statements_are v.items) ∙ ap (λ (z : program.Statement). fine z) (sym (block_is line v)))
