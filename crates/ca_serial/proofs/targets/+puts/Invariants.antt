use Rattle.std.proofs.Common.{◌≡◌, drop}
use Rattle.ca_program.specs.View.{statements_view}
use Rattle.ca_parallel.specs.Bodies.{targets_of_all}
use Rattle.ca_note_laws.specs.Listing.{is_empty}
use Rattle.ca_serial.proofs.targets.+puts.Given as goal

abbrev pub invariant-put_nothing-statements : goal.invariant-put_nothing-statements
invariant-put_nothing-statements l = is_empty (targets_of_all (statements_view l.stmts)) ≡ is_empty (targets_of_all (statements_view (drop l.s-index l.stmts)))
