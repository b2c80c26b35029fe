use Rattle.std.proofs.Common.{drop}
use Rattle.ca_tree.specs.View.{expressions_view}
use Rattle.ca_canonical.specs.Marks.{tokens}
use Rattle.ca_canonical.specs.Spell.{spell_list}
use Rattle.ca_canonical.proofs.Writing.{Leaves}
use Rattle.ca_canonical.proofs.Lists.{arguments_left}
use Rattle.ca_canonical.proofs.expressions.+expression.Given as goal

abbrev pub invariant-write_arguments-arguments : goal.invariant-write_arguments-arguments
invariant-write_arguments-arguments l = Leaves l.initial.pen (tokens (spell_list (expressions_view l.arguments))) l.pen (tokens (arguments_left l.begun (expressions_view (drop l.e-index l.arguments))))
