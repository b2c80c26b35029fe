use Rattle.std.proofs.Common.{◌≡◌, Err}
use Rattle.ca_lex.specs.declared.LexError.TheVariants.{BadByte, WideNumber, Limit}
use Rattle.ca_app.proofs.OneRefusal.{refused_no_token}
use Rattle.ca_app.proofs.reading.tokens_of.Goals as goal

pub returns-in-Err-BadByte-clause-cause : goal.returns-in-Err-BadByte-clause-cause
returns-in-Err-BadByte-clause-cause c =
    let is : c.lex.result ≡ Err (BadByte c.in-Err-BadByte.at) = cc in
    refused_no_token c.requires (c.lex.ensures.bad_byte c.in-Err-BadByte.at is)

pub returns-in-Err-WideNumber-clause-cause : goal.returns-in-Err-WideNumber-clause-cause
returns-in-Err-WideNumber-clause-cause c =
    let is : c.lex.result ≡ Err (WideNumber c.in-Err-WideNumber.at) = cc in
    refused_no_token c.requires (c.lex.ensures.wide_number c.in-Err-WideNumber.at is)

pub returns-in-Err-Limit-clause-cause : goal.returns-in-Err-Limit-clause-cause
returns-in-Err-Limit-clause-cause c =
    let is : c.lex.result ≡ Err (Limit c.in-Err-Limit.at) = cc in
    refused_no_token c.requires (c.lex.ensures.limit c.in-Err-Limit.at is)
