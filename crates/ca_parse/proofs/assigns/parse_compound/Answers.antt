use Rattle.std.proofs.Common.{refl}
use Rattle.ca_descent.proofs.Exact.{sees_got, sees_wrong}
use Rattle.ca_tree.specs.declared.token.Kind.TheVariants.{Sign as SignKind}
use Rattle.ca_tree.specs.declared.token.Sign.TheVariants.{PlusAssign}
use Rattle.ca_expressions.proofs.Terminals.{token}
use Rattle.ca_parse.specs.Compounds.{compound}
use Rattle.ca_parse.proofs.assigns.parse_compound.Goals as goal

pub returns-in-Some : goal.returns-in-Some
returns-in-Some c = record { answer = sees_got c.in-Some.ensures.some }

pub returns-in-None : goal.returns-in-None
returns-in-None c = record { answer = sees_wrong compound {t = token (SignKind PlusAssign)} refl c.in-None.ensures.none }
