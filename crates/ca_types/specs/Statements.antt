-- Statements: where each stands, what it resolves to, and the violations in it.
use Rattle.std.specs.Prelude.{ℕ, ◌+◌, pos, Bool, true, false, List, [], ◌∷◌, ◌++◌, Option, Some, None, length}
use Rattle.ca_tree.specs.declared.name.Place.{Place}
use Rattle.ca_tree.specs.declared.tree.TypeNode.{TypeNode}
use Rattle.ca_tree.specs.declared.tree.TypeNode.TheVariants.{Long, Bool as Truth, Pointer}
use Rattle.ca_tree.specs.declared.tree.AssignOp.{AssignOp}
use Rattle.ca_tree.specs.declared.tree.AssignOp.TheVariants.{Put, Add, Sub, Mul, BitAnd, BitOr, BitXor}
use Rattle.ca_tree.specs.Plain.{Expression, RightSide, value, new, Statement, Statements, empty, block, local, assign, call_statement, if_only, if_else, while_loop, for_loop, return_value, print_value, no_statements, statement_and}
use Rattle.ca_program.specs.declared.program.ClassId.{ClassId}
use Rattle.ca_program.specs.declared.program.ValueType.{ValueType}
use Rattle.ca_program.specs.declared.program.ValueType.TheVariants.{Long as LongValue, Bool as TruthValue, Pointer as PointerTo}
use Rattle.ca_program.specs.declared.program.FirstPart.{FirstPart}
use Rattle.ca_program.specs.declared.program.FirstPart.TheVariants.{Declares, Assigns}
use Rattle.ca_program.specs.Plain as program
use Rattle.ca_resolve.specs.declared.codes.TheConstants.{UNKNOWN_CLASS}
use Rattle.ca_resolve.specs.Judged.{Violation, Judged, fine, faulty, both, within, unless, found, beside, each}
use Rattle.ca_resolve.specs.Scopes.{Ty, long, truth, pointer, undefined, no_object, ty_of, number_of, find_local, Scope, Target, to_local, to_field, to_item}
use Rattle.ca_resolve.specs.Rules.{value_agrees}
use Rattle.ca_resolve.specs.Values.{judge_value, judge_for, judge_target, judge_call, place_of, in_order}
use Rattle.ca_types.specs.Rules.{local_once, condition_agrees, printed_agrees, compound_agrees, writes_no_field, called_operation, creates_nothing, prints_nothing, return_stands, local_limit, loop_limit}

-- where a statement stands: what names mean there, the number of the first local that is its own block's, the types of all
-- locals that the body has declared, parameters first, how many `for` statements the program has before, and the type of the
-- result, in a value method
pub record Env : Type 0 where
  pub scope : Scope
  pub first : ℕ
  pub locals : List ValueType
  pub loops : ℕ
  pub result : Option Ty

-- where a block begins
abbrev pub enter_block : Env → Env
enter_block c = record { scope = c.scope; first = length c.locals; locals = c.locals; loops = c.loops; result = c.result }

-- behind a block that began at the first, and whose last statement ends at the second
abbrev pub leave_block : Env → Env → Env
leave_block c inside = record { scope = c.scope; first = c.first; locals = inside.locals; loops = inside.loops; result = c.result }

-- behind the word `for`
abbrev pub counted : Env → Env
counted c = record { scope = c.scope; first = c.first; locals = c.locals; loops = c.loops + 1; result = c.result }

-- types

-- 21, at the name: a class that is named in a type or after `new` is defined
abbrev pub class_defined : List (List ℕ) → List ℕ → Place → Judged ClassId
class_defined names name at = within (found (number_of names name) at UNKNOWN_CLASS) (λ n. fine (record { 0 = n }))

-- a type that is written, among classes of these names
abbrev pub judge_type : List (List ℕ) → TypeNode → Judged ValueType
judge_type names Long = fine LongValue
judge_type names Truth = fine TruthValue
judge_type names (Pointer name at) = within (class_defined names name at) (λ c. fine (PointerTo c))

-- the type of the values in a program; one that names no class stands in no program
abbrev pub type_of : Ty → ValueType
type_of long = LongValue
type_of truth = TruthValue
type_of (pointer c) = PointerTo c
type_of (undefined name) = LongValue
type_of no_object = LongValue

-- behind the declaration of a local
abbrev pub declare : Env → Ty → List ℕ → Env
declare c ty name = record {
  scope = record { classes = c.scope.classes; class = c.scope.class; locals = record { name = name; id = record { 0 = length c.locals }; ty = ty } ∷ c.scope.locals };
  first = c.first;
  locals = c.locals ++ type_of ty ∷ [];
  loops = c.loops;
  result = c.result;
}

-- a branch and the body of a loop stand in a block of their own, and the first part of a `for` in one round the loop
abbrev mutual
  -- where the statement behind it stands
  pub behind : Env → Statement → Env
  behind c (empty at) = c
  behind c (block at ss) = leave_block c (behind_all (enter_block c) ss)
  behind c (local at ty name name_at right) = declare c (ty_of c.scope.classes.names ty) name
  behind c (assign at target op right) = c
  behind c (call_statement at e) = c
  behind c (if_only at e s) = leave_block c (behind (enter_block c) s)
  behind c (if_else at e a b) = leave_block c (behind (enter_block (leave_block c (behind (enter_block c) a))) b)
  behind c (while_loop at e s) = leave_block c (behind (enter_block c) s)
  behind c (for_loop at first e next s) =
      let begun = behind (enter_block (counted c)) first in
      leave_block c (behind (enter_block (leave_block begun (behind (enter_block begun) next))) s)
  behind c (return_value at e) = c
  behind c (print_value at e) = c

  pub behind_all : Env → Statements → Env
  behind_all c no_statements = c
  behind_all c (statement_and s ss) = behind_all (behind c s) ss

-- right sides

-- what a target is put to: a value, or a new object of a class
pub data Source : Type 0 where
  of_value : program.Expression → Source
  of_new : ClassId → Source

abbrev pub creates : RightSide → Bool
creates (value e) = false
creates (new name at) = true

-- a value of the type that is wanted, where it is known
abbrev pub judge_wanted : Scope → Option Ty → Expression → Judged program.Expression
judge_wanted s None e = within (judge_value s e) (λ v. fine v.0)
judge_wanted s (Some wanted) e = judge_for s wanted e

abbrev pub new_agrees : Option Ty → ClassId → Place → Option Violation
new_agrees None c at = None
new_agrees (Some wanted) c at = value_agrees wanted (pointer c) at

abbrev pub judge_right : Scope → Option Ty → RightSide → Judged Source
judge_right s wanted (value e) = within (judge_wanted s wanted e) (λ v. fine (of_value v))
judge_right s wanted (new name at) = within (class_defined s.classes.names name at) (λ c. unless (new_agrees wanted c at) (of_new c))

-- the statement that puts
abbrev pub put : ℕ → Target → AssignOp → Source → program.Statement
put line (to_local l) op (of_value e) = program.put_local line l op e
put line (to_local l) op (of_new c) = program.new_local line l c
put line (to_field f) op (of_value e) = program.put_field line f op e
put line (to_field f) op (of_new c) = program.new_field line f c
put line (to_item f i) op (of_value e) = program.put_item line f i op e
put line (to_item f i) op (of_new c) = program.new_item line f i c

-- assignments

abbrev pub judge_put_target : Env → AssignOp → Expression → Judged (Target × Ty)
judge_put_target c op e =
    within (judge_target c.scope e)
    (λ t. beside (compound_agrees op t.1 (place_of e)) (unless (writes_no_field c.result t.0 (place_of e)) t))

-- the type that the right side is to have: the target's, or in a compound assignment a number
abbrev pub right_ty : AssignOp → Judged (Target × Ty) → Option Ty
right_ty Put (fine t) = Some t.1
right_ty Put (faulty v vs) = None
right_ty Add t = Some long
right_ty Sub t = Some long
right_ty Mul t = Some long
right_ty BitAnd t = Some long
right_ty BitOr t = Some long
right_ty BitXor t = Some long

-- an assignment of judged parts
abbrev pub judge_assignment : Option Ty → Bool → Place → AssignOp → Judged (Target × Ty) → Judged Source → Judged program.Statement
judge_assignment result creates at op target source = within (both target source) (λ p. unless (creates_nothing result creates at) (put at.line p.0.0 op p.1))

abbrev pub judge_assign : Env → Place → Judged (Target × Ty) → AssignOp → RightSide → Judged program.Statement
judge_assign c at target op right = judge_assignment c.result (creates right) at op target (judge_right c.scope (right_ty op target) right)

-- locals

-- what a local that is declared without a value is put to
abbrev pub start_value : Ty → program.Expression
start_value long = program.number (pos 0)
start_value truth = program.truth false
start_value (pointer c) = program.null
start_value (undefined name) = program.null
start_value no_object = program.null

-- the initial value, which doesn't see the local
abbrev pub judge_start : Scope → Ty → Option RightSide → Judged Source
judge_start s ty None = fine (of_value (start_value ty))
judge_start s ty (Some right) = judge_right s (Some ty) right

abbrev pub start_creates : Option RightSide → Bool
start_creates None = false
start_creates (Some right) = creates right

-- a local of its judged type and first value, by whether it creates and is declared again
abbrev pub judge_declaration : ℕ → Target → Option Violation → Option Violation → Judged (ValueType × Source) → Judged program.Statement
judge_declaration line target created again parts = within parts (λ p. beside created (unless again (put line target Put p.1)))

abbrev pub judge_local : Env → Place → TypeNode → List ℕ → Place → Option RightSide → Judged program.Statement
judge_local c at ty name name_at right =
    judge_declaration at.line (to_local (record { 0 = length c.locals })) (creates_nothing c.result (start_creates right) at) (local_once c.first (find_local c.scope.locals name) name_at)
    (beside (local_limit (length c.locals) name_at) (both (judge_type c.scope.classes.names ty) (judge_start c.scope (ty_of c.scope.classes.names ty) right)))

-- calls, conditions, `return` and `print`

abbrev pub judge_call_statement : Env → Place → Expression → Judged program.Statement
judge_call_statement c at e =
    within (judge_call c.scope e) (λ i. within (called_operation c.result i.callee (place_of e)) (λ o. fine (program.invoke at.line i.receiver o (in_order i.arguments))))

abbrev pub judge_condition : Scope → Expression → Judged program.Expression
judge_condition s e = within (judge_value s e) (λ v. unless (condition_agrees v.1 (place_of e)) v.0)

-- what a value method returns has its result's type
abbrev pub judge_return : Env → Place → Expression → Judged program.Statement
judge_return c at e = within (judge_wanted c.scope c.result e) (λ v. unless (return_stands c.result at) (program.return_value at.line v))

-- a number or a truth value, to be printed
abbrev pub judge_printed : Scope → Expression → Judged program.Expression
judge_printed s e = within (judge_value s e) (λ v. unless (printed_agrees v.1 (place_of e)) v.0)

abbrev pub judge_print : Env → Place → Expression → Judged program.Statement
judge_print c at e = within (judge_printed c.scope e) (λ v. unless (prints_nothing c.result at) (program.print_value at.line v))

-- statements

-- an empty statement and a missing `else`
abbrev pub nothing : ℕ → program.Statement
nothing line = program.block line program.no_statements

abbrev pub first_part : Statement → FirstPart
first_part (local at ty name name_at right) = Declares
first_part s = Assigns

abbrev pub statements_in : List program.Statement → program.Statements
statements_in [] = program.no_statements
statements_in (s ∷ ss) = program.statement_and s (statements_in ss)

-- statements of judged parts
abbrev pub judge_block : ℕ → Judged (List program.Statement) → Judged program.Statement
judge_block line all = within all (λ ss. fine (program.block line (statements_in ss)))

abbrev pub judge_if : ℕ → Judged program.Expression → Judged program.Statement → Judged program.Statement → Judged program.Statement
judge_if line cond yes_part no_part = within (both cond (both yes_part no_part)) (λ p. fine (program.if_else line p.0 p.1.0 p.1.1))

abbrev pub judge_while : ℕ → Judged program.Expression → Judged program.Statement → Judged program.Statement
judge_while line cond body = within (both cond body) (λ p. fine (program.while_loop line p.0 p.1))

abbrev pub judge_for_loop : Place → ℕ → FirstPart → Judged program.Statement → Judged program.Expression → Judged program.Statement → Judged program.Statement → Judged program.Statement
judge_for_loop at number part first cond next body =
    within (beside (loop_limit number at) (both (both first cond) (both next body)))
    (λ p. fine (program.for_loop at.line (record { 0 = number }) part p.0.0 p.0.1 p.1.0 p.1.1))

abbrev mutual
  pub judge_statement : Env → Statement → Judged program.Statement
  judge_statement c (empty at) = fine (nothing at.line)
  judge_statement c (block at ss) = judge_block at.line (each (judge_each (enter_block c) ss))
  judge_statement c (local at ty name name_at right) = judge_local c at ty name name_at right
  judge_statement c (assign at target op right) = judge_assign c at (judge_put_target c op target) op right
  judge_statement c (call_statement at e) = judge_call_statement c at e
  judge_statement c (if_only at e s) = judge_if at.line (judge_condition c.scope e) (judge_statement (enter_block c) s) (fine (nothing at.line))
  judge_statement c (if_else at e a b) =
      judge_if at.line (judge_condition c.scope e) (judge_statement (enter_block c) a) (judge_statement (enter_block (leave_block c (behind (enter_block c) a))) b)
  judge_statement c (while_loop at e s) = judge_while at.line (judge_condition c.scope e) (judge_statement (enter_block c) s)
  judge_statement c (for_loop at first e next s) =
      let begun = behind (enter_block (counted c)) first in
      judge_for_loop at c.loops (first_part first) (judge_statement (enter_block (counted c)) first) (judge_condition begun.scope e)
      (judge_statement (enter_block begun) next) (judge_statement (enter_block (leave_block begun (behind (enter_block begun) next))) s)
  judge_statement c (return_value at e) = judge_return c at e
  judge_statement c (print_value at e) = judge_print c at e

  -- each of the statements, where it stands
  pub judge_each : Env → Statements → List (Judged program.Statement)
  judge_each c no_statements = []
  judge_each c (statement_and s ss) = judge_statement c s ∷ judge_each (behind c s) ss

-- statements in order
abbrev pub judge_statements : Env → Statements → Judged (List program.Statement)
judge_statements c ss = each (judge_each c ss)
