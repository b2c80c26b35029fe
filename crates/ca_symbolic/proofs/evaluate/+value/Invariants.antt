use Rattle.std.proofs.Common.{◌≡◌, ◌++◌, drop}
use Rattle.ca_program.specs.View.{expressions_view, program_view}
use Rattle.ca_symbolic.specs.Demands.{terms_in, demands_in_all}
use Rattle.ca_symbolic.specs.clauses.Refusals.{refused_all}
use Rattle.ca_symbolic.proofs.evaluate.+value.Given as goal

abbrev pub invariant-values_of-loop-e : goal.invariant-values_of-loop-e
invariant-values_of-loop-e l =
    (l.values.items ++ terms_in (program_view l.program) l.state (expressions_view (drop l.e-index l.es)) ≡ terms_in (program_view l.program) l.state (expressions_view l.es)) ×
    (l.out.guard ≡ l.initial.out.guard) ×
    (l.out.list ++ demands_in_all (program_view l.program) l.state l.initial.out.guard (expressions_view (drop l.e-index l.es)) ≡
    l.initial.out.list ++ demands_in_all (program_view l.program) l.state l.initial.out.guard (expressions_view l.es)) ×
    (refused_all (program_view l.program) l.state l.initial.out.guard (expressions_view (drop l.e-index l.es)) ≡
    refused_all (program_view l.program) l.state l.initial.out.guard (expressions_view l.es))
