use Rattle.std.proofs.Common.{◌≡◌, drop, false}
use Rattle.ca_tree.specs.View.{statements_view}
use Rattle.ca_types.proofs.Walks.{last_behind}
use Rattle.ca_types.proofs.members.+returns.Given as goal

abbrev pub invariant-last_returns-loop-stmt : goal.invariant-last_returns-loop-stmt
invariant-last_returns-loop-stmt l = last_behind false (statements_view l.stmts) ≡ last_behind l.last (statements_view (drop l.stmt-index l.stmts))
