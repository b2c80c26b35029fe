use Rattle.ca_order_laws.proofs.ThenListed.{section_then_list}
use Rattle.ca_order_laws.proofs.laws.a_call_is_its_section_and_its_list.Goals as goal

pub returns : goal.returns
returns c = section_then_list
