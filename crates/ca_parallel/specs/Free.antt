-- Free operations of an extent: their bodies access no field that it writes, so they need no lock.
use Rattle.std.specs.Prelude.{List, ◌++◌, Contains}
use Rattle.ca_program.specs.declared.program.FieldId.{FieldId}
use Rattle.ca_program.specs.declared.program.OpId.{OpId}
use Rattle.ca_program.specs.Plain.{PlainProgram, Statements}
use Rattle.ca_parallel.specs.Bodies.{targets_of_all, reads_of_body}
use Rattle.ca_parallel.specs.Extents.{operation_body}

-- the fields that a body writes or reads, of the receiver and of other objects, the receivers and arguments of its calls included
abbrev pub accessed_by : Statements → List FieldId
accessed_by ss = targets_of_all ss ++ reads_of_body ss

-- none of them is written
pub record IsFree (p : PlainProgram) (written : List FieldId) (op : OpId) : Type 0 where
  pub untouched : (f : FieldId) → Contains (accessed_by (operation_body p op)) f → ¬ Contains written f
