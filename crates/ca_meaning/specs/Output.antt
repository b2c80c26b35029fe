-- What a run writes, and the status that it ends with.
use Rattle.std.specs.Prelude.{ℕ, List, ◌∷◌, [], ◌++◌, codes, decimal, flat_map}
use Rattle.ca_program.specs.Plain.{PlainProgram}
use Rattle.ca_model.specs.declared.value.Value.{Value as Datum}
use Rattle.ca_model.specs.declared.value.Trap.{Trap}
use Rattle.ca_model.specs.declared.value.TrapKind.{TrapKind}
use Rattle.ca_model.specs.declared.value.TrapKind.TheVariants.{NullPointer, OutOfRange, ZeroDivisor, HeapFull}
use Rattle.ca_model.specs.Texts.{value_text, heap_text}
use Rattle.ca_meaning.specs.Serial.{Ended, done, trapped, spent, serial}

-- a status and the bytes that are written
pub record Reply : Type 0 where
  pub status : ℕ
  pub bytes : List ℕ

-- each print is a line
abbrev pub print_text : Datum → List ℕ
print_text v = value_text v ++ 10 ∷ []

abbrev pub prints_text : List Datum → List ℕ
prints_text vs = flat_map print_text vs

abbrev pub kind_text : TrapKind → List ℕ
kind_text NullPointer = codes "NullPointer"
kind_text OutOfRange = codes "OutOfRange"
kind_text ZeroDivisor = codes "ZeroDivisor"
kind_text HeapFull = codes "HeapFull"

abbrev pub trap_text : Trap → List ℕ
trap_text t = codes "trap " ++ decimal t.line ++ codes " " ++ kind_text t.kind ++ 10 ∷ []

abbrev pub spent_text : ℕ → List ℕ
spent_text budget = codes "spent " ++ decimal budget ++ 10 ∷ []

-- the status of a run to its end, of a trap, and of a budget that is spent
abbrev pub done_status : ℕ
done_status = 0

abbrev pub trapped_status : ℕ
trapped_status = 3

abbrev pub spent_status : ℕ
spent_status = 4

abbrev pub reply_of : PlainProgram → ℕ → Ended → Reply
reply_of p budget (done prints heap steps) = record { status = done_status; bytes = prints_text prints ++ heap_text p heap }
reply_of p budget (trapped prints t) = record { status = trapped_status; bytes = prints_text prints ++ trap_text t }
reply_of p budget (spent prints) = record { status = spent_status; bytes = prints_text prints ++ spent_text budget }

-- the reply of a run with this budget
abbrev pub output : PlainProgram → ℕ → Reply
output p budget = reply_of p budget (serial p budget)
