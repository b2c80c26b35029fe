use Rattle.std.proofs.Common.{sym}
use Rattle.ca_verdicts.proofs.other_form.Goals as goal

pub returns-in-Some : goal.returns-in-Some
returns-in-Some c = record { told = λ both. (both, sym c.in-Some.ensures); none = tt }

pub returns-in-None : goal.returns-in-None
returns-in-None c = record { told = λ both. tt; none = sym c.in-None.ensures }
