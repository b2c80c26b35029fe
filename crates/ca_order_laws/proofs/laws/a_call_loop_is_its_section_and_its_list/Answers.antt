use Rattle.ca_order_laws.proofs.Loops.{loop_then_list}
use Rattle.ca_order_laws.proofs.laws.a_call_loop_is_its_section_and_its_list.Goals as goal

pub returns : goal.returns
returns c = loop_then_list
