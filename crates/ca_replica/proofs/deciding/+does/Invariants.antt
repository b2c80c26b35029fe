use Rattle.std.proofs.Common.{◌≡◌, drop}
use Rattle.ca_program.specs.View.{statements_view}
use Rattle.ca_replica.specs.Unsummed.{any_does_else}
use Rattle.ca_replica.proofs.deciding.+does.Given as goal

abbrev pub invariant-any_does_else-statements : goal.invariant-any_does_else-statements
invariant-any_does_else-statements l = any_does_else l.written (statements_view l.stmts) ≡ any_does_else l.written (statements_view (drop l.s-index l.stmts))
