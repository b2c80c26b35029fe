use Rattle.ca_lex.proofs.Digits.{each_digit}
use Rattle.ca_lex.proofs.front.number.Goals as goal

pub value_of-requires : goal.value_of-requires
value_of-requires c = λ i h. each_digit c.args.text.now _ _ i c.digits_len.ensures.length c.split_at.ensures.front h
