use Rattle.std.proofs.Common.{length}
use Rattle.ca_parse.specs.Grammar.{Param, Listed}
use Rattle.ca_tree.specs.declared.token.Sign.TheVariants.{CloseParenthesis}
use Rattle.ca_expressions.proofs.Lists.{Commas}
use Rattle.ca_parse.proofs.members.parse_params.Given as goal

abbrev pub invariant-more : goal.invariant-more
invariant-more l = Commas Param CloseParenthesis (Listed Param) l.tokens (l.out.items) l.rest

abbrev pub decreases-more : goal.decreases-more
decreases-more l = length l.rest
