use Rattle.std.proofs.Common.{sym, ◌∙◌, ap}
use Rattle.std.proofs.lemmas.List.{drop_all}
use Rattle.ca_tree.specs.View.{form_view, statements_view}
use Rattle.ca_tree.proofs.Rows.{block_is}
use Rattle.ca_types.specs.Rules.{returns, last_returns}
use Rattle.ca_types.proofs.Walks.{last_behind, all_last}
use Rattle.ca_types.proofs.members.+returns.Goals as goal

pub returns-returns-in-Block : goal.returns-returns-in-Block
returns-returns-in-Block t c =
    let at = c.args.stmt.now.at in
    c.last_returns.ensures
    ∙ (ap (λ xs. last_returns (statements_view xs)) c.deref.ensures.value
    ∙ ap returns (sym (ap (λ k. form_view k at) c.in-Block.is ∙ block_is at c.in-Block.stmts)))

pub last_returns-returns : goal.last_returns-returns
last_returns-returns t c =
    let xs = c.args.stmts.now in
    let none = ap (λ z. last_behind c.loop-stmt.last (statements_view z)) (drop_all c.loop-stmt.stmt-index xs c.loop-stmt-test.false) in
    sym (c.loop-stmt.invariant ∙ none) ∙ all_last (statements_view xs)
