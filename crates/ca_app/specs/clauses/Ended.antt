-- Statuses as a type, and the number with which a call ends.
use Rattle.std.specs.Prelude.{ℕ, Result, Ok, Err}
use Rattle.ca_app.specs.declared.serving.TheConstants.{DONE, REFUSED, TRAPPED, SPENT, NO_MEMORY, WRITE_FAULT, PAST_LIMIT, GOES_WRONG}
use Rattle.ca_app.specs.declared.ending.Status.{Status}
use Rattle.ca_app.specs.declared.ending.Status.TheVariants.{Done, Refused, Trapped, Spent, PastLimit, GoesWrong}
use Rattle.ca_app.specs.declared.ending.Unwritten.{Unwritten}
use Rattle.ca_app.specs.declared.ending.Unwritten.TheVariants.{Memory, Write}

abbrev pub number_of : Status → ℕ
number_of Done = DONE
number_of Refused = REFUSED
number_of Trapped = TRAPPED
number_of Spent = SPENT
number_of PastLimit = PAST_LIMIT
number_of GoesWrong = GOES_WRONG

abbrev pub ended : Result Status Unwritten → ℕ
ended (Ok status) = number_of status
ended (Err Memory) = NO_MEMORY
ended (Err Write) = WRITE_FAULT

-- what comes of writing a reply that has this status
abbrev pub finished : {T E : Type 0} → Result T E → Status → Result Status Unwritten
finished (Ok x) status = Ok status
finished (Err e) status = Err Write
