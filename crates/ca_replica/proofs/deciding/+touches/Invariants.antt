use Rattle.std.proofs.Common.{◌≡◌, drop}
use Rattle.ca_program.specs.View.{expressions_view}
use Rattle.ca_replica.specs.Unsummed.{touches_any}
use Rattle.ca_replica.proofs.deciding.+touches.Given as goal

abbrev pub invariant-touches_any-expressions : goal.invariant-touches_any-expressions
invariant-touches_any-expressions l = touches_any l.written (expressions_view l.es) ≡ touches_any l.written (expressions_view (drop l.e-index l.es))
