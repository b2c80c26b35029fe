-- Which operations take a lock, as a row by their numbers.
use Rattle.std.specs.Prelude.{◌≡◌, Bool, min, List, length, Some, slice_get}
use Rattle.ca_program.specs.declared.program.FieldId.{FieldId}
use Rattle.ca_program.specs.declared.program.OpId.{OpId}
use Rattle.ca_program.specs.Plain.{PlainProgram}
use Rattle.ca_parallel.specs.Extents.{operation_body}
use Rattle.ca_section.specs.TakesLock.{takes_lock}

-- where these fields are written; each operation has a place whose number fits 32 bits
pub record AreLocks (p : PlainProgram) (written : List FieldId) (row : List Bool) : Type 0 where
  pub count : length row ≡ min (length p.ops) 4294967295
  pub each : (op : OpId) (lock : Bool) → slice_get row op.0 ≡ Some lock → lock ≡ takes_lock written (operation_body p op)
