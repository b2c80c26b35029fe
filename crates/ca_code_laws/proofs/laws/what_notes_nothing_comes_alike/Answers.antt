use Rattle.ca_code_laws.proofs.Unnoted.{comes_unnoted}
use Rattle.ca_code_laws.proofs.laws.what_notes_nothing_comes_alike.Goals as goal

pub returns : goal.returns
returns c = λ p code into. comes_unnoted into p code
