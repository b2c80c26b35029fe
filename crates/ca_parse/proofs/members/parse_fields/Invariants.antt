use Rattle.std.proofs.Common.{◌≡◌, length, map}
use Rattle.ca_tree.specs.View.{member_view}
use Rattle.ca_parse.specs.Grammar.{Further}
use Rattle.ca_parse.specs.clauses.Closed.{MemberRest}
use Rattle.ca_tree.specs.declared.token.Sign.TheVariants.{Semicolon}
use Rattle.ca_expressions.proofs.Lists.{Commas}
use Rattle.ca_parse.proofs.members.parse_fields.Given as goal

abbrev pub invariant-more : goal.invariant-more
invariant-more l = (l.ty ≡ l.fn.ty)
    × Commas (Further l.fn.ty) Semicolon (MemberRest l.fn.ty (l.fn.name, l.fn.at)) l.tokens (map member_view l.out.items) l.rest

abbrev pub decreases-more : goal.decreases-more
decreases-more l = length l.rest
