-- Ids as numbers: the number of an operation, and the operations, value methods and fields that numbers stand for.
use Rattle.std.specs.Prelude.{ℕ}
use Rattle.ca_program.specs.declared.program.FieldId.{FieldId}
use Rattle.ca_program.specs.declared.program.FunctionId.{FunctionId}
use Rattle.ca_program.specs.declared.program.OpId.{OpId}

abbrev pub op_number : OpId → ℕ
op_number op = op.0

abbrev pub op_of : ℕ → OpId
op_of n = record { 0 = n }

abbrev pub function_of : ℕ → FunctionId
function_of n = record { 0 = n }

abbrev pub field_of : ℕ × ℕ → FieldId
field_of p = record { class = record { 0 = p.0 }; field = p.1 }
