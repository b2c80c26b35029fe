-- Statements of a serial run, one at a time.
use Rattle.std.proofs.Common.{◌≡◌, ℕ, suc, List, ap, ◌∙◌}
use Rattle.std.specs.Prelude.{slice_get}
use Rattle.ca_tree.specs.declared.tree.AssignOp.{AssignOp}
use Rattle.ca_tree.specs.declared.tree.AssignOp.TheVariants.{Put}
use Rattle.ca_program.specs.declared.program.FieldId.{FieldId}
use Rattle.ca_program.specs.declared.program.OpId.{OpId}
use Rattle.ca_program.specs.Plain.{PlainProgram, Expression, Expressions, Statement, Statements, put_field, invoke, if_else, statement_and}
use Rattle.ca_model.specs.declared.value.Value.{Value as Datum}
use Rattle.ca_model.specs.declared.value.Value.TheVariants.{Ref}
use Rattle.ca_meaning.specs.Operators.{assigned}
use Rattle.ca_meaning.specs.Expressions.{gives, Invocation, due}
use Rattle.ca_meaning.specs.Flows.{goes_on, and_on, with, choose, line_of, exec, exec_all}
use Rattle.ca_meaning.specs.Functions.{place, body_of, locals_of, functions_of, value_in}
use Rattle.ca_meaning.specs.Serial.{World, in_heap, put_own, own_value, came_back, operations_of, run_call, serial_parts}
use Rattle.ca_meaning.proofs.Fix.{call_means}
use Rattle.ca_meaning.proofs.Putting.{put_stores}

module _ (p : PlainProgram) (this : Datum) where
  -- a field is changed
  pub change_on : (ls : List Datum) (w : World) (line : ℕ) (f : FieldId) (a : AssignOp) (e : Expression) (rest : Statements) (k : ℕ) (v : Datum)
      → value_in p.functions w.heap this line ls e k ≡ gives v k
      → exec_all (serial_parts p this) ls w (statement_and (put_field line f a e) rest) k
      ≡ exec_all (serial_parts p this) ls (in_heap w (put_own w.heap this f 0 (assigned a (own_value w this f) v))) rest k
  change_on ls w line f a e rest k v is =
      ap (λ o. and_on (with o w (λ v k. goes_on ls (in_heap w (put_own w.heap this f 0 (assigned a (own_value w this f) v))) k)) (λ ls w k. exec_all (serial_parts p this) ls w rest k)) is

  -- a value is put to it
  pub put_on : (ls : List Datum) (w : World) (line : ℕ) (f : FieldId) (e : Expression) (rest : Statements) (k : ℕ) (v : Datum)
      → value_in p.functions w.heap this line ls e k ≡ gives v k
      → exec_all (serial_parts p this) ls w (statement_and (put_field line f Put e) rest) k
      ≡ exec_all (serial_parts p this) ls (in_heap w (put_own w.heap this f 0 v)) rest k
  put_on ls w line f e rest k v is =
      change_on ls w line f Put e rest k v is
      ∙ ap (λ x. exec_all (serial_parts p this) ls (in_heap w (put_own w.heap this f 0 x)) rest k) (put_stores (own_value w this f) v)

  -- a call that ends
  pub call_on : (ls : List Datum) (w : World) (line : ℕ) (e : Expression) (op : OpId) (es : Expressions) (rest : Statements) (k j : ℕ) (i : Invocation) (x : World)
      → due (functions_of p.functions w.heap).call (place w.heap this line ls) e op es k ≡ gives i k
      → run_call (operations_of p) ls i w k ≡ goes_on ls x j
      → exec_all (serial_parts p this) ls w (statement_and (invoke line e op es) rest) k ≡ exec_all (serial_parts p this) ls x rest j
  call_on ls w line e op es rest k j i x is runs =
      ap (λ o. and_on (with o w (λ i k. run_call (operations_of p) ls i w k)) (λ ls w k. exec_all (serial_parts p this) ls w rest k)) is
      ∙ ap (λ o. and_on o (λ ls w k. exec_all (serial_parts p this) ls w rest k)) runs

  -- a branch by the value of its condition
  pub branch_on : (ls : List Datum) (w : World) (line : ℕ) (c : Expression) (a b : Statement) (rest : Statements) (k : ℕ) (v : Datum)
      → value_in p.functions w.heap this line ls c k ≡ gives v k
      → exec_all (serial_parts p this) ls w (statement_and (if_else line c a b) rest) k
      ≡ and_on (choose v (exec (serial_parts p this) (line_of a) ls w a k) (exec (serial_parts p this) (line_of b) ls w b k)) (λ ls w k. exec_all (serial_parts p this) ls w rest k)
  branch_on ls w line c a b rest k v is =
      ap (λ o. and_on (with o w (λ v k. choose v (exec (serial_parts p this) (line_of a) ls w a k) (exec (serial_parts p this) (line_of b) ls w b k))) (λ ls w k. exec_all (serial_parts p this) ls w rest k)) is

-- a call takes a step, and ends as its body does
pub called : (p : PlainProgram) (ls after : List Datum) (i : Invocation) (w x : World) (k j : ℕ)
    → exec_all (serial_parts p (Ref i.receiver)) (locals_of (slice_get p.ops i.op.0) i.arguments) w (body_of (slice_get p.ops i.op.0)) k ≡ goes_on after x j
    → run_call (operations_of p) ls i w (suc k) ≡ goes_on ls x j
called p ls after i w x k j is = call_means p ls i w (suc k) ∙ ap (came_back ls) is
