use Rattle.ca_typing.proofs.Numbers.{loops_are_numbered}
use Rattle.ca_typing.proofs.laws.loop_numbers_are_different.Goals as goal

pub returns : goal.returns
returns c = λ tree p judged. loops_are_numbered tree p judged
