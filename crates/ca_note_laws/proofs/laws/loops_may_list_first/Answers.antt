use Rattle.ca_note_laws.proofs.Listing.{lists_first}
use Rattle.ca_note_laws.proofs.laws.loops_may_list_first.Goals as goal

pub returns : goal.returns
returns c = lists_first
