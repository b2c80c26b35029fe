-- The rules of declarations and statements, one for each code, and the limits. Each gives the violation where it is broken.
use Rattle.std.specs.Prelude.{ℕ, ℤ, pos, int_le, int_lt, Bool, true, false, not, ◌&&◌, ◌||◌, List, [], ◌∷◌, Option, Some, None, is_some, nat_eq, nat_le}
use Rattle.ca_tree.specs.declared.name.Place.{Place}
use Rattle.ca_tree.specs.declared.tree.AssignOp.{AssignOp}
use Rattle.ca_tree.specs.declared.tree.AssignOp.TheVariants.{Put, Add, Sub, Mul, BitAnd, BitOr, BitXor}
use Rattle.ca_tree.specs.Plain.{Statement, Statements, empty, block, local, assign, call_statement, if_only, if_else, while_loop, for_loop, return_value, print_value, no_statements, statement_and}
use Rattle.ca_program.specs.declared.program.OpId.{OpId}
use Rattle.ca_types.specs.declared.limits.TheConstants.{MOST_CLASSES, MOST_FIELDS, MOST_OPERATIONS, MOST_FUNCTIONS, MOST_PARAMETERS, MOST_LOCALS, MOST_ITEMS, MOST_LOOPS}
use Rattle.ca_resolve.specs.declared.codes.TheConstants.{CLASS_TWICE, EMPTY_ARRAY, LOCAL_TWICE, MEMBER_TWICE, TOO_LONG_ARRAY, TOO_MANY_CLASSES, TOO_MANY_FIELDS, TOO_MANY_FUNCTIONS, TOO_MANY_LOCALS, TOO_MANY_LOOPS, TOO_MANY_OPERATIONS, TOO_MANY_PARAMETERS, TYPES_DISAGREE, VALUE_METHOD_ACTS, WRONG_CALL, WRONG_RETURN}
use Rattle.ca_resolve.specs.Judged.{Violation, Judged, unless, broken, broken_if}
use Rattle.ca_resolve.specs.Scopes.{Ty, VisibleLocal, Target, to_local, to_field, to_item, Callee, operation, function, number_of}
use Rattle.ca_resolve.specs.Rules.{is_long, is_truth}

-- the violation, if there is one
abbrev pub listed : Option Violation → List Violation
listed None = []
listed (Some v) = v ∷ []

-- names that are declared once

abbrev pub is_number : ℕ → Option ℕ → Bool
is_number n None = false
is_number n (Some m) = nat_eq m n

-- 20, at the second name: a class name is defined once, so the first class of the name is the one of this number
abbrev pub class_once : List (List ℕ) → ℕ → List ℕ → Place → Option Violation
class_once names number name at = broken_if (not (is_number number (number_of names name))) at CLASS_TWICE

-- 22, at the later name: the fields and methods of a class have different names, so the first member of the name is this one
abbrev pub member_once : List (List ℕ) → ℕ → List ℕ → Place → Option Violation
member_once names number name at = broken_if (not (is_number number (number_of names name))) at MEMBER_TWICE

-- 23, at the later name: a local is declared once in its block, so the visible local of the name has a number before the block's first
abbrev pub local_once : ℕ → Option VisibleLocal → Place → Option Violation
local_once first None at = None
local_once first (Some l) at = broken_if (nat_le first l.id.0) at LOCAL_TWICE

-- types

-- 25, at the expression: a condition is a truth value
abbrev pub condition_agrees : Ty → Place → Option Violation
condition_agrees t at = broken_if (not (is_truth t)) at TYPES_DISAGREE

-- 25, at the expression: a number or a truth value is printed
abbrev pub has_text : Ty → Bool
has_text t = is_long t || is_truth t

abbrev pub printed_agrees : Ty → Place → Option Violation
printed_agrees t at = broken_if (not (has_text t)) at TYPES_DISAGREE

abbrev pub is_put : AssignOp → Bool
is_put Put = true
is_put Add = false
is_put Sub = false
is_put Mul = false
is_put BitAnd = false
is_put BitOr = false
is_put BitXor = false

-- 25, at the target's node: a compound assignment is to a number
abbrev pub compound_agrees : AssignOp → Ty → Place → Option Violation
compound_agrees op t at = broken_if (not (is_put op) && not (is_long t)) at TYPES_DISAGREE

-- value methods, whose bodies know the type of their result

abbrev pub is_own : Target → Bool
is_own (to_local l) = false
is_own (to_field f) = true
is_own (to_item f i) = true

-- 29, at the target's node: a value method writes no field
abbrev pub writes_no_field : Option Ty → Target → Place → Option Violation
writes_no_field result t at = broken_if (is_some result && is_own t) at VALUE_METHOD_ACTS

-- 28, at the call's node: a value method's call isn't a statement; 29: a statement of a value method calls no operation
abbrev pub called_operation : Option Ty → Callee → Place → Judged OpId
called_operation result (operation o) at = unless (broken_if (is_some result) at VALUE_METHOD_ACTS) o
called_operation result (function f t) at = broken at WRONG_CALL

-- 29, at the statement: a value method creates nothing
abbrev pub creates_nothing : Option Ty → Bool → Place → Option Violation
creates_nothing result creates at = broken_if (is_some result && creates) at VALUE_METHOD_ACTS

-- 29, at the statement: a value method prints nothing
abbrev pub prints_nothing : Option Ty → Place → Option Violation
prints_nothing result at = broken_if (is_some result) at VALUE_METHOD_ACTS

-- 30, at the statement: `return` stands only in value methods
abbrev pub return_stands : Option Ty → Place → Option Violation
return_stands result at = broken_if (not (is_some result)) at WRONG_RETURN

abbrev mutual
  -- a statement returns if it is a `return`, a block whose last statement returns, or an `if` with both branches returning
  pub returns : Statement → Bool
  returns (empty at) = false
  returns (block at ss) = last_returns ss
  returns (local at ty name name_at right) = false
  returns (assign at target op right) = false
  returns (call_statement at e) = false
  returns (if_only at e s) = false
  returns (if_else at e a b) = returns a && returns b
  returns (while_loop at e s) = false
  returns (for_loop at first e next s) = false
  returns (return_value at e) = true
  returns (print_value at e) = false

  -- whether the last of the statements returns
  pub last_returns : Statements → Bool
  last_returns no_statements = false
  last_returns (statement_and s no_statements) = returns s
  last_returns (statement_and s (statement_and t ss)) = last_returns (statement_and t ss)

-- 30, at the method's name: a value method can't end without a `return`
abbrev pub ends_with_return : Bool → Statements → Place → Option Violation
ends_with_return has_result body at = broken_if (has_result && not (last_returns body)) at WRONG_RETURN

-- 33, at the field's name: an array has at least one item
abbrev pub length_stands : Option ℤ → Place → Option Violation
length_stands None at = None
length_stands (Some n) at = broken_if (int_le n (pos 0)) at EMPTY_ARRAY

-- the limits, each at the name of the first that is too many

abbrev pub limit : ℕ → ℕ → Place → ℕ → Option Violation
limit most before at code = broken_if (nat_eq before most) at code

abbrev pub class_limit : ℕ → Place → Option Violation
class_limit before at = limit MOST_CLASSES before at TOO_MANY_CLASSES

abbrev pub field_limit : ℕ → Place → Option Violation
field_limit before at = limit MOST_FIELDS before at TOO_MANY_FIELDS

abbrev pub operation_limit : ℕ → Place → Option Violation
operation_limit before at = limit MOST_OPERATIONS before at TOO_MANY_OPERATIONS

abbrev pub function_limit : ℕ → Place → Option Violation
function_limit before at = limit MOST_FUNCTIONS before at TOO_MANY_FUNCTIONS

abbrev pub parameter_limit : ℕ → Place → Option Violation
parameter_limit before at = limit MOST_PARAMETERS before at TOO_MANY_PARAMETERS

abbrev pub local_limit : ℕ → Place → Option Violation
local_limit before at = limit MOST_LOCALS before at TOO_MANY_LOCALS

-- at the field's name
abbrev pub length_limit : Option ℤ → Place → Option Violation
length_limit None at = None
length_limit (Some n) at = broken_if (int_lt MOST_ITEMS n) at TOO_LONG_ARRAY

-- at the word `for`
abbrev pub loop_limit : ℕ → Place → Option Violation
loop_limit before at = limit MOST_LOOPS before at TOO_MANY_LOOPS
