use Rattle.std.proofs.Common.{◌≡◌, ◌++◌, drop}
use Rattle.ca_program.specs.View.{expressions_view}
use Rattle.ca_extent.specs.clauses.Numbers.{values_in_all}
use Rattle.ca_extent.proofs.numbers.+values.Given as goal

abbrev pub invariant-add_all_values-expressions : goal.invariant-add_all_values-expressions
invariant-add_all_values-expressions l = l.out.items ++ values_in_all (expressions_view (drop l.e-index l.es)) ≡ l.initial.out.items ++ values_in_all (expressions_view l.es)
