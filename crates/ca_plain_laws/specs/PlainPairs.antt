-- Plain pairs: two operations of one class whose bodies have so plain a form that they surely commute. Each body first
-- updates fields and then calls operations. No field is updated in two ways, and what is computed is computed from
-- literals, parameters and constants.
use Rattle.std.specs.Prelude.{◌≡◌, ◌≤◌, ◌<◌, ◌+◌, ℕ, suc, ℤ, Bool, true, List, Contains, Option, Some, None, slice_get}
use Rattle.ca_tree.specs.declared.tree.AssignOp.{AssignOp}
use Rattle.ca_tree.specs.declared.tree.AssignOp.TheVariants.{Put, Add, Sub, Mul, BitAnd, BitOr, BitXor}
use Rattle.ca_tree.specs.declared.tree.BinaryOp.TheVariants.{Plus, Minus, Times}
use Rattle.ca_program.specs.declared.program.FieldId.{FieldId}
use Rattle.ca_program.specs.declared.program.LocalId.{LocalId}
use Rattle.ca_program.specs.declared.program.OpId.{OpId}
use Rattle.ca_program.specs.Plain.{PlainProgram, PlainMethod, Expression, Expressions, number, truth, null, this, local, own, own_item, read, read_item, value_call, unary, binary, no_expressions, expression_and, Statement, Statements, put_field, put_item, invoke, no_statements, statement_and}
use Rattle.ca_folds.specs.declared.operator.FoldOp.{FoldOp}
use Rattle.ca_folds.specs.declared.operator.FoldOp.TheVariants as fold_op
use Rattle.ca_norm.specs.Meanings.{binary_of}
use Rattle.ca_sweep.specs.Sweeps.{PlainSweep, is_atom, IsSweep}
use Rattle.ca_sweep.specs.Found.{known}

-- Expressions, in a method of an extent that writes these fields

-- a field of the method's class that the extent writes, and one that it doesn't
abbrev pub IsWritten : List FieldId → PlainMethod → FieldId → Type 0
IsWritten written m f = (f.class ≡ m.class) × Contains written f

abbrev pub IsConstant : List FieldId → PlainMethod → FieldId → Type 0
IsConstant written m f = (f.class ≡ m.class) × (¬ Contains written f)

pub data IsLiteral : Expression → Type 0 where
  a_number : (n : ℤ) → IsLiteral (number n)
  a_truth : (b : Bool) → IsLiteral (truth b)
  a_null : IsLiteral null

pub data IsAtom (written : List FieldId) (m : PlainMethod) : Expression → Type 0 where
  a_literal : {e : Expression} → IsLiteral e → IsAtom written m e
  the_receiver : IsAtom written m this
  a_parameter : (l : LocalId) → l.0 < m.params → IsAtom written m (local l)
  a_constant : (f : FieldId) → IsConstant written m f → IsAtom written m (own f)

-- an atom, or a product times a product
pub data IsProduct (written : List FieldId) (m : PlainMethod) : Expression → Type 0 where
  an_atom : {e : Expression} → IsAtom written m e → IsProduct written m e
  times : {a b : Expression} → IsProduct written m a → IsProduct written m b → IsProduct written m (binary Times a b)

-- a product, or a sum plus a sum
pub data IsSum (written : List FieldId) (m : PlainMethod) : Expression → Type 0 where
  a_product : {e : Expression} → IsProduct written m e → IsSum written m e
  plus : {a b : Expression} → IsSum written m a → IsSum written m b → IsSum written m (binary Plus a b)

abbrev mutual
  pub nodes_of : Expression → ℕ
  nodes_of (number n) = 1
  nodes_of (truth b) = 1
  nodes_of null = 1
  nodes_of this = 1
  nodes_of (local l) = 1
  nodes_of (own f) = 1
  nodes_of (own_item f i) = 1 + nodes_of i
  nodes_of (read e f) = 1 + nodes_of e
  nodes_of (read_item e f i) = 1 + nodes_of e + nodes_of i
  nodes_of (value_call e m arguments) = 1 + nodes_of e + nodes_of_all arguments
  nodes_of (unary op e) = 1 + nodes_of e
  nodes_of (binary op a b) = 1 + nodes_of a + nodes_of b

  pub nodes_of_all : Expressions → ℕ
  nodes_of_all no_expressions = 0
  nodes_of_all (expression_and e es) = nodes_of e + nodes_of_all es

-- a sum of at most 400 nodes
abbrev pub IsShortSum : List FieldId → PlainMethod → Expression → Type 0
IsShortSum written m e = IsSum written m e × (nodes_of e ≤ 400)

abbrev pub AreShortSums : List FieldId → PlainMethod → Expressions → Type 0
AreShortSums written m no_expressions = Unit {0}
AreShortSums written m (expression_and e es) = IsShortSum written m e × AreShortSums written m es

-- Updates

-- how a field is updated: it gets sums added and taken off, it is multiplied, it is joined with sums by one operator whose
-- operands may stand in any order, its items get sums added and taken off, or it is put to one literal
pub data Kind : Type 0 where
  sums : Kind
  products : Kind
  folds : FoldOp → Kind
  item_sums : Kind
  literal : Expression → Kind

-- the assignment that joins by the operator, if there is one
abbrev pub assign_of : FoldOp → Option AssignOp
assign_of fold_op.Max = None
assign_of fold_op.Min = None
assign_of fold_op.BitAnd = Some BitAnd
assign_of fold_op.BitOr = Some BitOr
assign_of fold_op.BitXor = Some BitXor

-- an atom that a sweep may name: a number, a parameter or a constant
abbrev pub IsNumber : List FieldId → PlainMethod → PlainSweep → Expression → Type 0
IsNumber written m s e = IsAtom written m e × (is_atom (known s.counter.0 (Some m.params) written) e ≡ true)

-- an update of the field in this way, written short or in full
pub data IsUpdateOf (written : List FieldId) (m : PlainMethod) (f : FieldId) : Kind → Statement → Type 0 where
  adds : (line : ℕ) (e : Expression) → IsShortSum written m e → IsUpdateOf written m f sums (put_field line f Add e)
  takes_off : (line : ℕ) (e : Expression) → IsShortSum written m e → IsUpdateOf written m f sums (put_field line f Sub e)
  puts_sum : (line : ℕ) (e : Expression) → IsShortSum written m e → IsUpdateOf written m f sums (put_field line f Put (binary Plus (own f) e))
  puts_difference : (line : ℕ) (e : Expression) → IsShortSum written m e → IsUpdateOf written m f sums (put_field line f Put (binary Minus (own f) e))
  multiplies : (line : ℕ) (e : Expression) → IsAtom written m e → IsUpdateOf written m f products (put_field line f Mul e)
  puts_product : (line : ℕ) (e : Expression) → IsAtom written m e → IsUpdateOf written m f products (put_field line f Put (binary Times (own f) e))
  joins : (line : ℕ) (o : FoldOp) (a : AssignOp) (e : Expression) → assign_of o ≡ Some a → IsShortSum written m e → IsUpdateOf written m f (folds o) (put_field line f a e)
  puts_joined : (line : ℕ) (o : FoldOp) (e : Expression) → IsShortSum written m e → IsUpdateOf written m f (folds o) (put_field line f Put (binary (binary_of o) (own f) e))
  adds_to_item : (line : ℕ) (i e : Expression) → IsShortSum written m i → IsShortSum written m e → IsUpdateOf written m f item_sums (put_item line f i Add e)
  puts_item_sum : (line : ℕ) (i e : Expression) → IsShortSum written m i → IsShortSum written m e → IsUpdateOf written m f item_sums (put_item line f i Put (binary Plus (own_item f i) e))
  takes_off_item : (line : ℕ) (i e : Expression) → IsShortSum written m i → IsShortSum written m e → IsUpdateOf written m f item_sums (put_item line f i Sub e)
  puts_item_difference : (line : ℕ) (i e : Expression) → IsShortSum written m i → IsShortSum written m e → IsUpdateOf written m f item_sums (put_item line f i Put (binary Minus (own_item f i) e))
  adds_to_range : {x : Statement} (s : PlainSweep) → IsSweep s x → s.field ≡ f → IsNumber written m s s.from → IsNumber written m s s.to → IsNumber written m s s.addend → IsUpdateOf written m f item_sums x
  puts_literal : (line : ℕ) (e : Expression) → IsLiteral e → IsUpdateOf written m f (literal e) (put_field line f Put e)

-- Bodies

-- calls of operations; the word `this` and a bare call are atoms
pub data AreCalls (written : List FieldId) (m : PlainMethod) : Statements → Type 0 where
  no_calls : AreCalls written m no_statements
  call_and : {xs : Statements} (line : ℕ) (e : Expression) (op : OpId) (arguments : Expressions) → IsAtom written m e → AreShortSums written m arguments → AreCalls written m xs → AreCalls written m (statement_and (invoke line e op arguments) xs)

-- updates, each field in its own way, and behind them calls
pub data AreUpdatesAndCalls (written : List FieldId) (m : PlainMethod) (kinds : ℕ → Kind) : Statements → Type 0 where
  calls : {xs : Statements} → AreCalls written m xs → AreUpdatesAndCalls written m kinds xs
  update_and : {x : Statement} {xs : Statements} (f : FieldId) → IsWritten written m f → IsUpdateOf written m f (kinds f.field) x → AreUpdatesAndCalls written m kinds xs → AreUpdatesAndCalls written m kinds (statement_and x xs)

abbrev pub count_of : Statements → ℕ
count_of no_statements = 0
count_of (statement_and x xs) = suc (count_of xs)

-- a method with such a body of at most 32 statements
pub record IsPlain (written : List FieldId) (kinds : ℕ → Kind) (m : PlainMethod) : Type 0 where
  pub body : AreUpdatesAndCalls written m kinds m.body.statements
  pub few : count_of m.body.statements ≤ 32

-- Both operations are plain, and update each field of their class in the same way.
pub record IsPlainPair (p : PlainProgram) (written : List FieldId) (a b : OpId) : Type 0 where
  pub first : PlainMethod
  pub second : PlainMethod
  pub first_is : slice_get p.ops a.0 ≡ Some first
  pub second_is : slice_get p.ops b.0 ≡ Some second
  pub one_class : first.class ≡ second.class
  pub kinds : ℕ → Kind
  pub first_plain : IsPlain written kinds first
  pub second_plain : IsPlain written kinds second
