use Rattle.std.proofs.Common.{length, map}
use Rattle.ca_tree.specs.View.{class_view}
use Rattle.ca_parse.proofs.Lines.{Loop}
use Rattle.ca_parse.proofs.MemberRules.{declaration_lines}
use Rattle.ca_parse.proofs.whole.parse_classes.Given as goal

abbrev pub invariant-classes : goal.invariant-classes
invariant-classes l = Loop declaration_lines l.tokens (map class_view l.out.items) l.rest

abbrev pub decreases-classes : goal.decreases-classes
decreases-classes l = length l.rest
