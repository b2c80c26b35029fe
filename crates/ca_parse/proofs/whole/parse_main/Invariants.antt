use Rattle.std.proofs.Common.{length, map}
use Rattle.ca_tree.specs.View.{statement_view}
use Rattle.ca_parse.proofs.TextRules.{MainLoop}
use Rattle.ca_parse.proofs.whole.parse_main.Given as goal

abbrev pub invariant-items : goal.invariant-items
invariant-items l = MainLoop l.tokens (map statement_view l.out.items) l.ends l.rest

abbrev pub decreases-items : goal.decreases-items
decreases-items l = length l.rest
