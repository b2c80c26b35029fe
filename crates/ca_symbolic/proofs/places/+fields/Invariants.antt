use Rattle.std.proofs.Common.{◌≡◌, drop}
use Rattle.ca_program.specs.View.{statements_view}
use Rattle.ca_symbolic.specs.clauses.Places.{marked, fields_put_all}
use Rattle.ca_symbolic.proofs.places.+fields.Given as goal

abbrev pub invariant-mark_all_fields-statements : goal.invariant-mark_all_fields-statements
invariant-mark_all_fields-statements l = marked l.marks.items (fields_put_all (statements_view (drop l.s-index l.stmts))) ≡ marked l.initial.marks.items (fields_put_all (statements_view l.stmts))
