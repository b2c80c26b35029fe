-- How a run ends, and what it has printed.
use Rattle.std.specs.Prelude.{List, Result, Ok, Err}
use Rattle.ca_model.specs.declared.value.Value.{Value as Datum}
use Rattle.ca_meaning.specs.Serial.{Ended, done, trapped, spent}
use Rattle.ca_serial.specs.declared.running.Outcome.{Outcome}
use Rattle.ca_serial.specs.declared.running.Outcome.TheVariants.{Done, Trapped, Spent}
use Rattle.ca_serial.specs.declared.running.RunError.{RunError}
use Rattle.ca_serial.specs.declared.running.RunError.TheVariants.{Write, Memory}

abbrev pub prints_of : Ended → List Datum
prints_of (done prints heap steps) = prints
prints_of (trapped prints t) = prints
prints_of (spent prints) = prints

-- a run that printed these values and ends with this outcome
abbrev pub run_with : List Datum → Outcome → Ended
run_with prints (Done heap steps) = done prints heap steps
run_with prints (Trapped t) = trapped prints t
run_with prints Spent = spent prints

-- P, where the error is Write
abbrev pub OnWrite : {T : Type 0} → Result T RunError → Type 0 → Type 0
OnWrite (Ok x) P = Unit {0}
OnWrite (Err Write) P = P
OnWrite (Err Memory) P = Unit {0}
