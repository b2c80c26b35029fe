use Rattle.std.proofs.Common.{arith}
use Rattle.ca_lex.proofs.Derivations.{no_tokens}
use Rattle.ca_lex.proofs.laws.refused_texts_have_no_tokens.Goals as goal

pub returns : goal.returns
returns c = λ text p f ts d t few. no_tokens d 0 ts t (omega (arith, few))
