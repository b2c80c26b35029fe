-- Pairs of operations that raise one field of their class to a limit, `if (f < e) f = e;`, or that lower it,
-- `if (e < f) f = e;`, where e is a parameter or a number.
use Rattle.std.specs.Prelude.{◌≡◌, ◌<◌, ℕ, ℤ, Bool, true, false, FitsSigned, Option, Some, None, slice_get}
use Rattle.std.specs.Int.{w64}
use Rattle.ca_tree.specs.declared.tree.AssignOp.TheVariants.{Put}
use Rattle.ca_tree.specs.declared.tree.BinaryOp.TheVariants.{Less, Greater, LessEqual, GreaterEqual}
use Rattle.ca_program.specs.declared.program.FieldId.{FieldId}
use Rattle.ca_program.specs.declared.program.FieldInfo.{FieldInfo}
use Rattle.ca_program.specs.declared.program.LocalId.{LocalId}
use Rattle.ca_program.specs.declared.program.OpId.{OpId}
use Rattle.ca_program.specs.declared.program.ValueType.TheVariants as type
use Rattle.ca_program.specs.Plain.{PlainProgram, PlainMethod, Expression, number, local, own, binary, Statement, block, put_field, if_else, no_statements, statement_and}
use Rattle.ca_model.specs.Heaps.{fields_of}

-- a number of 64 bits, or a parameter that is a number
pub data IsLimit (m : PlainMethod) : Expression → Type 0 where
  a_number : (n : ℤ) → FitsSigned w64 n → IsLimit m (number n)
  a_parameter : (l : LocalId) → l.0 < m.params → slice_get m.body.locals l.0 ≡ Some type.Long → IsLimit m (local l)

-- the field is put to it, with or without braces
pub data IsPut (f : FieldId) (e : Expression) : Statement → Type 0 where
  put : (line : ℕ) → IsPut f e (put_field line f Put e)
  in_block : (line : ℕ) {x : Statement} → IsPut f e x → IsPut f e (block line (statement_and x no_statements))

-- The field is to be moved to it: for a field that is raised `f < e` or `e > f`, and for false, which isn't strict, `f <= e`
-- or `e >= f`; for one that is lowered the same with the sides exchanged.
pub data IsPast (f : FieldId) (e : Expression) : Bool → Bool → Expression → Type 0 where
  less : IsPast f e true true (binary Less (own f) e)
  greater : IsPast f e true true (binary Greater e (own f))
  less_equal : IsPast f e true false (binary LessEqual (own f) e)
  greater_equal : IsPast f e true false (binary GreaterEqual e (own f))
  limit_less : IsPast f e false true (binary Less e (own f))
  limit_greater : IsPast f e false true (binary Greater (own f) e)
  limit_less_equal : IsPast f e false false (binary LessEqual e (own f))
  limit_greater_equal : IsPast f e false false (binary GreaterEqual (own f) e)

-- the body is one `if` without an `else`
pub record IsMoving (m : PlainMethod) (f : FieldId) (up : Bool) : Type 0 where
  pub limit : Expression
  pub is_limit : IsLimit m limit
  pub strict : Bool
  pub condition : Expression
  pub past : IsPast f limit up strict condition
  pub line : ℕ
  pub line_behind : ℕ
  pub part : Statement
  pub puts : IsPut f limit part
  pub body : m.body.statements ≡ statement_and (if_else line condition part (block line_behind no_statements)) no_statements

-- the field is one number
abbrev pub IsLong : Option FieldInfo → Type 0
IsLong None = ⊥
IsLong (Some f) = (f.ty ≡ type.Long) × (f.length ≡ None)

-- both raise the field, or both lower it
pub record IsMovingPair (p : PlainProgram) (a b : OpId) : Type 0 where
  pub first : PlainMethod
  pub second : PlainMethod
  pub first_is : slice_get p.ops a.0 ≡ Some first
  pub second_is : slice_get p.ops b.0 ≡ Some second
  pub field : FieldId
  pub is_long : IsLong (slice_get (fields_of (slice_get p.classes first.class.0)) field.field)
  pub up : Bool
  pub first_moves : IsMoving first field up
  pub second_moves : IsMoving second field up
