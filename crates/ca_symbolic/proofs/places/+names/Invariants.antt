use Rattle.std.proofs.Common.{◌≡◌, drop}
use Rattle.ca_program.specs.View.{expressions_view}
use Rattle.ca_symbolic.specs.clauses.Places.{marked, locals_in_all}
use Rattle.ca_symbolic.proofs.places.+names.Given as goal

abbrev pub invariant-mark_all_names-loop-e : goal.invariant-mark_all_names-loop-e
invariant-mark_all_names-loop-e l = marked l.marks.items (locals_in_all (expressions_view (drop l.e-index l.es))) ≡ marked l.initial.marks.items (locals_in_all (expressions_view l.es))
