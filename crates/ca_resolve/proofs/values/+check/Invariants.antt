use Rattle.ca_resolve.specs.View.{scope_view}
use Rattle.ca_resolve.proofs.Arguments.{Walked}
use Rattle.ca_resolve.proofs.values.+check.Given as goal

abbrev pub invariant-check_arguments-loop-i : goal.invariant-check_arguments-loop-i
invariant-check_arguments-loop-i l = Walked (scope_view l.scope) l.params l.args l.i l.values
