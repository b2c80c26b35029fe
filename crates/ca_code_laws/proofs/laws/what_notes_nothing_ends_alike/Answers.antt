use Rattle.ca_code_laws.proofs.Unnoted.{ends_unnoted}
use Rattle.ca_code_laws.proofs.laws.what_notes_nothing_ends_alike.Goals as goal

pub returns : goal.returns
returns c = λ p code into. ends_unnoted into p code
