use Rattle.ca_app.proofs.OneReply.{one_reply}
use Rattle.ca_app.proofs.laws.one_reply.Goals as goal

pub returns : goal.returns
returns c = λ words text r s. one_reply
