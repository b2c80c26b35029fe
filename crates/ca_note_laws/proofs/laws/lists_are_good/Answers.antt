use Rattle.ca_note_laws.proofs.Good.{lists_good}
use Rattle.ca_note_laws.proofs.laws.lists_are_good.Goals as goal

pub returns : goal.returns
returns c = lists_good
