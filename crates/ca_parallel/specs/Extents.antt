-- The extent of some operations: what a run of them may invoke, directly or indirectly, and what that writes.
use Rattle.std.specs.Prelude.{◌↔◌, List, slice_get, Contains}
use Rattle.ca_program.specs.declared.program.FieldId.{FieldId}
use Rattle.ca_program.specs.declared.program.FunctionId.{FunctionId}
use Rattle.ca_program.specs.declared.program.OpId.{OpId}
use Rattle.ca_program.specs.Plain.{PlainProgram, Statements}
use Rattle.ca_meaning.specs.Functions.{body_of}
use Rattle.ca_parallel.specs.Bodies.{calls_of_all, targets_of_all, functions_of_body}

abbrev pub operation_body : PlainProgram → OpId → Statements
operation_body p op = body_of (slice_get p.ops op.0)

abbrev pub function_body : PlainProgram → FunctionId → Statements
function_body p m = body_of (slice_get p.functions m.0)

-- The least set of operations that holds the roots, and each operation that the body of a member calls.
pub data Invokes (p : PlainProgram) (roots : List OpId) : OpId → Type 0 where
  root : {op : OpId} → Contains roots op → Invokes p roots op
  called : {op callee : OpId} → Invokes p roots op → Contains (calls_of_all (operation_body p op)) callee → Invokes p roots callee

-- The least set of value methods that holds those which the bodies of these operations call, and those
-- which the body of a member calls.
pub data Evaluates (p : PlainProgram) (roots : List OpId) : FunctionId → Type 0 where
  by_operation : {op : OpId} {m : FunctionId} → Invokes p roots op → Contains (functions_of_body (operation_body p op)) m → Evaluates p roots m
  by_function : {m callee : FunctionId} → Evaluates p roots m → Contains (functions_of_body (function_body p m)) callee → Evaluates p roots callee

-- the body of one of the operations writes the field
pub record Writes (p : PlainProgram) (roots : List OpId) (f : FieldId) : Type 0 where
  pub op : OpId
  pub invoked : Invokes p roots op
  pub target : Contains (targets_of_all (operation_body p op)) f

-- operations, value methods, and the fields that are written; all other fields are constants
pub record Extent : Type 0 where
  pub ops : List OpId
  pub functions : List FunctionId
  pub written : List FieldId

-- it is the extent of these operations
pub record IsExtentOf (p : PlainProgram) (roots : List OpId) (x : Extent) : Type 0 where
  pub ops : (op : OpId) → Contains x.ops op ↔ Invokes p roots op
  pub functions : (m : FunctionId) → Contains x.functions m ↔ Evaluates p roots m
  pub written : (f : FieldId) → Contains x.written f ↔ Writes p roots f
