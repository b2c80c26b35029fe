use Rattle.std.proofs.Common.{◌∙◌}
use Rattle.ca_sections.proofs.desk.Desk.undo.Goals as goal

pub put_back-requires : goal.put_back-requires
put_back-requires c = c.requires.1.there

pub returns : goal.returns
returns c = λ before can. λ i. record { class = can.class i; slots = (c.put_back.ensures.slots ∙ can.back) i }
