use Rattle.ca_logs.proofs.FreeSections.{free_sections}
use Rattle.ca_logs.proofs.laws.free_sections_change_nothing.Goals as goal

pub returns : goal.returns
returns c = free_sections
