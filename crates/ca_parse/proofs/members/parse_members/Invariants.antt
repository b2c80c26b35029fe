use Rattle.std.proofs.Common.{length, map}
use Rattle.ca_tree.specs.View.{member_view}
use Rattle.ca_parse.proofs.Lines.{Loop}
use Rattle.ca_parse.proofs.MemberRules.{member_lines}
use Rattle.ca_parse.proofs.members.parse_members.Given as goal

abbrev pub invariant-members : goal.invariant-members
invariant-members l = Loop member_lines l.tokens (map member_view l.out.items) l.rest

abbrev pub decreases-members : goal.decreases-members
decreases-members l = length l.rest
