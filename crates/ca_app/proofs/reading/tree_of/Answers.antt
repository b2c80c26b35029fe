use Rattle.std.proofs.Common.{◌≡◌, Err, sym}
use Rattle.ca_parse.specs.declared.whole.ParseError.TheVariants.{Syntax, Deep}
use Rattle.ca_app.proofs.OneProgram.{derived_by}
use Rattle.ca_app.proofs.OneRefusal.{refused_wrong, refused_deep}
use Rattle.ca_app.proofs.reading.tree_of.Goals as goal

pub returns-in-Ok-clause-tree : goal.returns-in-Ok-clause-tree
returns-in-Ok-clause-tree c = record {
  is = record { tokens = c.args.tokens.now; has_tokens = c.requires; derived = c.in-Ok.ensures.within };
  only = λ other has. sym (c.in-Ok.ensures.only 0 other (derived_by c.requires has));
}

pub returns-in-Err-Syntax-clause-cause : goal.returns-in-Err-Syntax-clause-cause
returns-in-Err-Syntax-clause-cause c =
    let is : c.parse.result ≡ Err (Syntax c.in-Err-Syntax.k) = cc in
    rw c.token_place.ensures (refused_wrong c.requires (c.parse.ensures.syntax c.in-Err-Syntax.k is))

pub returns-in-Err-Deep-clause-cause : goal.returns-in-Err-Deep-clause-cause
returns-in-Err-Deep-clause-cause c =
    let is : c.parse.result ≡ Err (Deep c.in-Err-Deep.k) = cc in
    rw c.token_place-in-Err-Deep.ensures (refused_deep c.requires (c.parse.ensures.deep c.in-Err-Deep.k is))
