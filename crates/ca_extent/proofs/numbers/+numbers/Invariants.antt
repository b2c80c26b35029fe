use Rattle.std.proofs.Common.{◌≡◌, ◌++◌, drop}
use Rattle.ca_program.specs.View.{statements_view}
use Rattle.ca_extent.specs.clauses.Numbers.{numbers_of_all}
use Rattle.ca_extent.proofs.numbers.+numbers.Given as goal

abbrev pub invariant-add_all_numbers-statements : goal.invariant-add_all_numbers-statements
invariant-add_all_numbers-statements l = l.out.items ++ numbers_of_all l.callees (statements_view (drop l.s-index l.stmts)) ≡ l.initial.out.items ++ numbers_of_all l.callees (statements_view l.stmts)
