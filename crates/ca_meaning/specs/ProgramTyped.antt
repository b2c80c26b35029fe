-- Well typed programs: every expression has its type, literals fit 64 bits, every local, field, class and
-- method that is named is there, and arguments match their parameters. The checker makes no others.
use Rattle.std.specs.Prelude.{ℕ, ◌≡◌, ◌≤◌, ◌⊎◌, List, [], ◌∷◌, length, Option, Some, None, slice_get, FitsSigned, IsSome}
use Rattle.std.specs.Int.{w64}
pub use Rattle.ca_program.specs.Fields.{field_info}
use Rattle.ca_tree.specs.declared.tree.AssignOp.{AssignOp}
use Rattle.ca_tree.specs.declared.tree.AssignOp.TheVariants.{Put, Add, Sub, Mul}
use Rattle.ca_tree.specs.declared.tree.AssignOp.TheVariants as change
use Rattle.ca_tree.specs.declared.tree.UnaryOp.{UnaryOp}
use Rattle.ca_tree.specs.declared.tree.UnaryOp.TheVariants as sign
use Rattle.ca_tree.specs.declared.tree.BinaryOp.{BinaryOp}
use Rattle.ca_tree.specs.declared.tree.BinaryOp.TheVariants.{Or, And, Equal, NotEqual, Less, Greater, LessEqual, GreaterEqual, Plus, Minus, Times, Divide, Remainder, BitAnd, BitOr, BitXor, Max, Min}
use Rattle.ca_program.specs.declared.program.ClassId.{ClassId}
use Rattle.ca_program.specs.declared.program.FieldId.{FieldId}
use Rattle.ca_program.specs.declared.program.FieldInfo.{FieldInfo}
use Rattle.ca_program.specs.declared.program.ValueType.{ValueType}
use Rattle.ca_program.specs.declared.program.ValueType.TheVariants.{Long, Bool, Pointer}
use Rattle.ca_program.specs.Plain.{PlainProgram, PlainMethod, Expression, Expressions, number, truth, null, this, local, own, own_item, read, read_item, value_call, unary, binary, no_expressions, expression_and, Statement, Statements, block, put_local, put_field, put_item, new_local, new_field, new_item, invoke, if_else, while_loop, for_loop, return_value, print_value, no_statements, statement_and}
use Rattle.ca_meaning.specs.WellTyped.{parameters_of}

-- where an expression or statement stands: the class of the receiver, which `main` has none of, the types
-- of the locals, and the type of the value that is given back, which value methods alone have
pub record Scope : Type 0 where
  pub class : Option ClassId
  pub locals : List ValueType
  pub result : Option ValueType

-- there is such a field, of the type and no array
abbrev pub IsScalar : Option FieldInfo → ValueType → Type 0
IsScalar None ty = ⊥
IsScalar (Some f) ty = (f.ty ≡ ty) × (f.length ≡ None)

-- there is such a field, an array whose items have the type
abbrev pub IsArray : Option FieldInfo → ValueType → Type 0
IsArray None ty = ⊥
IsArray (Some f) ty = (f.ty ≡ ty) × IsSome f.length

-- what the sides of an operator have, and what it gives
abbrev pub SidesTyped : BinaryOp → ValueType → ValueType → Type 0
SidesTyped Or side ty = (side ≡ Bool) × (ty ≡ Bool)
SidesTyped And side ty = (side ≡ Bool) × (ty ≡ Bool)
SidesTyped Equal side ty = ty ≡ Bool
SidesTyped NotEqual side ty = ty ≡ Bool
SidesTyped Less side ty = (side ≡ Long) × (ty ≡ Bool)
SidesTyped Greater side ty = (side ≡ Long) × (ty ≡ Bool)
SidesTyped LessEqual side ty = (side ≡ Long) × (ty ≡ Bool)
SidesTyped GreaterEqual side ty = (side ≡ Long) × (ty ≡ Bool)
SidesTyped Plus side ty = (side ≡ Long) × (ty ≡ Long)
SidesTyped Minus side ty = (side ≡ Long) × (ty ≡ Long)
SidesTyped Times side ty = (side ≡ Long) × (ty ≡ Long)
SidesTyped Divide side ty = (side ≡ Long) × (ty ≡ Long)
SidesTyped Remainder side ty = (side ≡ Long) × (ty ≡ Long)
SidesTyped BitAnd side ty = (side ≡ Long) × (ty ≡ Long)
SidesTyped BitOr side ty = (side ≡ Long) × (ty ≡ Long)
SidesTyped BitXor side ty = (side ≡ Long) × (ty ≡ Long)
SidesTyped Max side ty = (side ≡ Long) × (ty ≡ Long)
SidesTyped Min side ty = (side ≡ Long) × (ty ≡ Long)

abbrev pub signed_type : UnaryOp → ValueType
signed_type sign.Minus = Long
signed_type sign.Not = Bool

-- there is such a value method: its class, the types of its parameters, and that of its result
abbrev pub IsFunction : Option PlainMethod → ClassId → List ValueType → ValueType → Type 0
IsFunction None c tys ty = ⊥
IsFunction (Some m) c tys ty = (m.class ≡ c) × (parameters_of m ≡ tys) × (m.result ≡ Some ty)

-- there is such an operation
abbrev pub IsOperation : Option PlainMethod → ClassId → List ValueType → Type 0
IsOperation None c tys = ⊥
IsOperation (Some m) c tys = (m.class ≡ c) × (parameters_of m ≡ tys)

abbrev mutual
  -- the expression has the type; null has that of each pointer
  pub ExpressionTyped : PlainProgram → Scope → Expression → ValueType → Type 0
  ExpressionTyped p s (number n) ty = (ty ≡ Long) × FitsSigned w64 n
  ExpressionTyped p s (truth b) ty = ty ≡ Bool
  ExpressionTyped p s null ty = (c : ClassId) × (ty ≡ Pointer c)
  ExpressionTyped p s this ty = (c : ClassId) × (ty ≡ Pointer c) × (s.class ≡ Some c)
  ExpressionTyped p s (local l) ty = slice_get s.locals l.0 ≡ Some ty
  ExpressionTyped p s (own f) ty = (s.class ≡ Some f.class) × IsScalar (field_info p f) ty
  ExpressionTyped p s (own_item f i) ty = (s.class ≡ Some f.class) × IsArray (field_info p f) ty × ExpressionTyped p s i Long
  ExpressionTyped p s (read e f) ty = ExpressionTyped p s e (Pointer f.class) × IsScalar (field_info p f) ty
  ExpressionTyped p s (read_item e f i) ty =
      ExpressionTyped p s e (Pointer f.class) × IsArray (field_info p f) ty × ExpressionTyped p s i Long
  ExpressionTyped p s (value_call e m arguments) ty =
      (c : ClassId) × (tys : List ValueType) × IsFunction (slice_get p.functions m.0) c tys ty × ExpressionTyped p s e (Pointer c) × ExpressionsTyped p s arguments tys
  ExpressionTyped p s (unary op e) ty = (ty ≡ signed_type op) × ExpressionTyped p s e (signed_type op)
  ExpressionTyped p s (binary op a b) ty =
      (side : ValueType) × SidesTyped op side ty × ExpressionTyped p s a side × ExpressionTyped p s b side

  pub ExpressionsTyped : PlainProgram → Scope → Expressions → List ValueType → Type 0
  ExpressionsTyped p s no_expressions tys = tys ≡ []
  ExpressionsTyped p s (expression_and e es) tys =
      (ty : ValueType) × (rest : List ValueType) × (tys ≡ ty ∷ rest) × ExpressionTyped p s e ty × ExpressionsTyped p s es rest

-- a compound assignment is one of numbers
abbrev pub AssignTyped : AssignOp → ValueType → Type 0
AssignTyped Put ty = Unit {0}
AssignTyped Add ty = ty ≡ Long
AssignTyped Sub ty = ty ≡ Long
AssignTyped Mul ty = ty ≡ Long
AssignTyped change.BitAnd ty = ty ≡ Long
AssignTyped change.BitOr ty = ty ≡ Long
AssignTyped change.BitXor ty = ty ≡ Long

-- the right side of an assignment to a target of the type
abbrev pub RightTyped : PlainProgram → Scope → AssignOp → Expression → ValueType → Type 0
RightTyped p s op e ty = AssignTyped op ty × ExpressionTyped p s e ty

abbrev pub IsClass : PlainProgram → ClassId → Type 0
IsClass p c = (k : _) × (slice_get p.classes c.0 ≡ Some k)

-- an own field, which value methods don't write
abbrev pub OwnTarget : Scope → FieldId → Type 0
OwnTarget s f = (s.result ≡ None) × (s.class ≡ Some f.class)

abbrev mutual
  pub StatementTyped : PlainProgram → Scope → Statement → Type 0
  StatementTyped p s (block line ss) = StatementsTyped p s ss
  StatementTyped p s (put_local line l op e) = (ty : ValueType) × (slice_get s.locals l.0 ≡ Some ty) × RightTyped p s op e ty
  StatementTyped p s (put_field line f op e) = (ty : ValueType) × OwnTarget s f × IsScalar (field_info p f) ty × RightTyped p s op e ty
  StatementTyped p s (put_item line f i op e) =
      (ty : ValueType) × OwnTarget s f × IsArray (field_info p f) ty × ExpressionTyped p s i Long × RightTyped p s op e ty
  StatementTyped p s (new_local line l c) = (s.result ≡ None) × (slice_get s.locals l.0 ≡ Some (Pointer c)) × IsClass p c
  StatementTyped p s (new_field line f c) = OwnTarget s f × IsScalar (field_info p f) (Pointer c) × IsClass p c
  StatementTyped p s (new_item line f i c) = OwnTarget s f × IsArray (field_info p f) (Pointer c) × ExpressionTyped p s i Long × IsClass p c
  StatementTyped p s (invoke line e op arguments) =
      (c : ClassId) × (tys : List ValueType) × (s.result ≡ None) × IsOperation (slice_get p.ops op.0) c tys × ExpressionTyped p s e (Pointer c) × ExpressionsTyped p s arguments tys
  StatementTyped p s (if_else line c a b) = ExpressionTyped p s c Bool × StatementTyped p s a × StatementTyped p s b
  StatementTyped p s (while_loop line c b) = ExpressionTyped p s c Bool × StatementTyped p s b
  StatementTyped p s (for_loop line site part first c next b) =
      StatementTyped p s first × ExpressionTyped p s c Bool × StatementTyped p s next × StatementTyped p s b
  StatementTyped p s (return_value line e) = (ty : ValueType) × (s.result ≡ Some ty) × ExpressionTyped p s e ty
  StatementTyped p s (print_value line e) = (s.result ≡ None) × (ExpressionTyped p s e Long ⊎ ExpressionTyped p s e Bool)

  pub StatementsTyped : PlainProgram → Scope → Statements → Type 0
  StatementsTyped p s no_statements = Unit {0}
  StatementsTyped p s (statement_and x rest) = StatementTyped p s x × StatementsTyped p s rest

-- A statement returns if it is a `return`, a block whose last statement returns, or an `if` both of whose
-- branches return.
abbrev mutual
  pub Returns : Statement → Type 0
  Returns (return_value line e) = Unit {0}
  Returns (block line ss) = LastReturns ss
  Returns (if_else line c a b) = Returns a × Returns b
  Returns _ = ⊥

  pub LastReturns : Statements → Type 0
  LastReturns no_statements = ⊥
  LastReturns (statement_and x no_statements) = Returns x
  LastReturns (statement_and x (statement_and y rest)) = LastReturns (statement_and y rest)

abbrev pub scope_of : PlainMethod → Scope
scope_of m = record { class = Some m.class; locals = m.body.locals; result = m.result }

-- the class is there, the parameters are the first locals, and the body is typed
pub record MethodTyped (p : PlainProgram) (m : PlainMethod) : Type 0 where
  pub class : IsClass p m.class
  pub parameters : m.params ≤ length m.body.locals
  pub body : StatementsTyped p (scope_of m) m.body.statements

-- an operation gives nothing back
pub record OperationTyped (p : PlainProgram) (m : PlainMethod) : Type 0 where
  pub method : MethodTyped p m
  pub result : m.result ≡ None

-- a value method gives a value back, and can't end without one
pub record FunctionTyped (p : PlainProgram) (m : PlainMethod) : Type 0 where
  pub method : MethodTyped p m
  pub type : ValueType
  pub result : m.result ≡ Some type
  pub returns : LastReturns m.body.statements

abbrev pub main_scope : PlainProgram → Scope
main_scope p = record { class = None; locals = p.main.locals; result = None }

pub record ProgramTyped (p : PlainProgram) : Type 0 where
  pub ops : (n : ℕ) (m : PlainMethod) → slice_get p.ops n ≡ Some m → OperationTyped p m
  pub functions : (n : ℕ) (m : PlainMethod) → slice_get p.functions n ≡ Some m → FunctionTyped p m
  pub main : StatementsTyped p (main_scope p) p.main.statements
