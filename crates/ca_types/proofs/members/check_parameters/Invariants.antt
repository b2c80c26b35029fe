use Rattle.std.proofs.Common.{drop}
use Rattle.ca_resolve.specs.Judged.{Judged, Answers, fine}
use Rattle.ca_types.specs.Classes.{behind_parameter}
use Rattle.ca_types.specs.clauses.Adding.{add_parameter}
use Rattle.ca_types.specs.clauses.View.{env_view}
use Rattle.ca_types.proofs.Lists.{Rest}
use Rattle.ca_types.proofs.members.check_parameters.Given as goal

abbrev pub invariant-loop-param : goal.invariant-loop-param
invariant-loop-param l =
    (front : Judged (Unit {0})) × Answers (λ u. u) l.answers front
    × Rest behind_parameter add_parameter (env_view l.fn.walk) (fine tt) l.params (env_view l.walk) front (drop l.param-index l.params)
