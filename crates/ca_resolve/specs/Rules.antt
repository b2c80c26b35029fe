-- The rules that concern expressions, one for each code. Each gives the violation where it is broken.
use Rattle.std.specs.Prelude.{ℕ, Bool, true, false, not, List, Option, cond, nat_eq, ◌&&◌}
use Rattle.ca_tree.specs.declared.name.Place.{Place}
use Rattle.ca_tree.specs.declared.tree.UnaryOp.{UnaryOp}
use Rattle.ca_tree.specs.declared.tree.UnaryOp.TheVariants.{Minus as Negative, Not}
use Rattle.ca_tree.specs.declared.tree.BinaryOp.{BinaryOp}
use Rattle.ca_tree.specs.declared.tree.BinaryOp.TheVariants.{Or, And, Equal, NotEqual, Less, Greater, LessEqual, GreaterEqual, Plus, Minus, Times, Divide, Remainder, BitAnd, BitOr, BitXor, Max, Min}
use Rattle.ca_program.specs.declared.program.ClassId.{ClassId}
use Rattle.ca_program.specs.declared.program.FieldId.{FieldId}
use Rattle.ca_program.specs.declared.program.FunctionId.{FunctionId}
use Rattle.ca_program.specs.Plain as program
use Rattle.ca_resolve.specs.declared.codes.TheConstants.{NO_TARGET, THIS_IN_MAIN, TYPES_DISAGREE, UNKNOWN_NAME, WRONG_CALL, WRONG_COUNT, WRONG_INDEX}
use Rattle.ca_resolve.specs.Judged.{Violation, Judged, fine, broken, broken_if, found}
use Rattle.ca_resolve.specs.Scopes.{Classes, Ty, long, truth, pointer, undefined, no_object, Callee, operation, function, Meaning, scalar, items, method, Found, a_value, an_array, Target, to_local, to_field, to_item, same_name, find_member}

-- which types agree

abbrev pub is_long : Ty → Bool
is_long long = true
is_long truth = false
is_long (pointer c) = false
is_long (undefined n) = false
is_long no_object = false

abbrev pub is_truth : Ty → Bool
is_truth long = false
is_truth truth = true
is_truth (pointer c) = false
is_truth (undefined n) = false
is_truth no_object = false

-- a pointer to the class of this number
abbrev pub points_to : ClassId → Ty → Bool
points_to c long = false
points_to c truth = false
points_to c (pointer d) = nat_eq c.0 d.0
points_to c (undefined n) = false
points_to c no_object = false

-- a pointer to the class of this name, which isn't defined
abbrev pub points_to_undefined : List ℕ → Ty → Bool
points_to_undefined n long = false
points_to_undefined n truth = false
points_to_undefined n (pointer c) = false
points_to_undefined n (undefined m) = same_name n m
points_to_undefined n no_object = false

abbrev pub is_no_object : Ty → Bool
is_no_object long = false
is_no_object truth = false
is_no_object (pointer c) = false
is_no_object (undefined n) = false
is_no_object no_object = true

-- two values of one type
abbrev pub same_ty : Ty → Ty → Bool
same_ty long t = is_long t
same_ty truth t = is_truth t
same_ty (pointer c) t = points_to c t
same_ty (undefined n) t = points_to_undefined n t
same_ty no_object t = is_no_object t

abbrev pub is_pointer : Ty → Bool
is_pointer long = false
is_pointer truth = false
is_pointer (pointer c) = true
is_pointer (undefined n) = true
is_pointer no_object = false

-- a target of the first type can hold a value of the second; `nullptr` is a value of each pointer type
abbrev pub can_hold : Ty → Ty → Bool
can_hold target value = cond (is_no_object value) (is_pointer target) (same_ty target value)

-- `==` and `!=` take two of one type, or a pointer and `nullptr`, or `nullptr` twice
abbrev pub can_compare : Ty → Ty → Bool
can_compare a b = cond (is_no_object a) (cond (is_no_object b) true (is_pointer b)) (can_hold a b)

abbrev pub takes_unary : UnaryOp → Ty → Bool
takes_unary Negative t = is_long t
takes_unary Not t = is_truth t

abbrev pub takes_binary : BinaryOp → Ty → Ty → Bool
takes_binary Or a b = is_truth a && is_truth b
takes_binary And a b = is_truth a && is_truth b
takes_binary Equal a b = can_compare a b
takes_binary NotEqual a b = can_compare a b
takes_binary Less a b = is_long a && is_long b
takes_binary Greater a b = is_long a && is_long b
takes_binary LessEqual a b = is_long a && is_long b
takes_binary GreaterEqual a b = is_long a && is_long b
takes_binary Plus a b = is_long a && is_long b
takes_binary Minus a b = is_long a && is_long b
takes_binary Times a b = is_long a && is_long b
takes_binary Divide a b = is_long a && is_long b
takes_binary Remainder a b = is_long a && is_long b
takes_binary BitAnd a b = is_long a && is_long b
takes_binary BitOr a b = is_long a && is_long b
takes_binary BitXor a b = is_long a && is_long b
takes_binary Max a b = is_long a && is_long b
takes_binary Min a b = is_long a && is_long b

abbrev pub unary_ty : UnaryOp → Ty
unary_ty Negative = long
unary_ty Not = truth

abbrev pub binary_ty : BinaryOp → Ty
binary_ty Or = truth
binary_ty And = truth
binary_ty Equal = truth
binary_ty NotEqual = truth
binary_ty Less = truth
binary_ty Greater = truth
binary_ty LessEqual = truth
binary_ty GreaterEqual = truth
binary_ty Plus = long
binary_ty Minus = long
binary_ty Times = long
binary_ty Divide = long
binary_ty Remainder = long
binary_ty BitAnd = long
binary_ty BitOr = long
binary_ty BitXor = long
binary_ty Max = long
binary_ty Min = long

-- 24, at the node: a name is a member of the class
abbrev pub member_known : Option Meaning → Place → Judged Meaning
member_known m at = found m at UNKNOWN_NAME

-- 24, at the node: a name that is called is a method
abbrev pub is_method : Meaning → Place → Judged (Callee × List Ty)
is_method (scalar f t) at = broken at UNKNOWN_NAME
is_method (items f t) at = broken at UNKNOWN_NAME
is_method (method c params) at = fine (c, params)

-- 25, at the `->`: a receiver is a pointer; 24: its class is defined and has a member of the name
abbrev pub receiver_member : Classes → Ty → List ℕ → Place → Judged Meaning
receiver_member classes long name at = broken at TYPES_DISAGREE
receiver_member classes truth name at = broken at TYPES_DISAGREE
receiver_member classes (pointer c) name at = member_known (find_member classes c name) at
receiver_member classes (undefined n) name at = broken at UNKNOWN_NAME
receiver_member classes no_object name at = broken at TYPES_DISAGREE

-- 25, at the operator: the operator takes operands of these types
abbrev pub operand_agrees : UnaryOp → Ty → Place → Option Violation
operand_agrees op t at = broken_if (not (takes_unary op t)) at TYPES_DISAGREE

abbrev pub operands_agree : BinaryOp → Ty → Ty → Place → Option Violation
operands_agree op a b at = broken_if (not (takes_binary op a b)) at TYPES_DISAGREE

-- 25, at the expression: the target can hold the value
abbrev pub value_agrees : Ty → Ty → Place → Option Violation
value_agrees target value at = broken_if (not (can_hold target value)) at TYPES_DISAGREE

-- 26, at the call's node: as many arguments as parameters
abbrev pub as_many : ℕ → ℕ → Place → Option Violation
as_many arguments parameters at = broken_if (not (nat_eq arguments parameters)) at WRONG_COUNT

-- 28, at the call's node: an operation is no value
abbrev pub is_value_method : Callee → Place → Judged (FunctionId × Ty)
is_value_method (operation o) at = broken at WRONG_CALL
is_value_method (function f t) at = fine (f, t)

-- 31, at the node: an array field has an index
abbrev pub has_index : Found → Place → Judged (program.Expression × Ty)
has_index (a_value e t) at = fine (e, t)
has_index (an_array o f t) at = broken at WRONG_INDEX

-- 31, at the `[`: nothing else has one
abbrev pub is_array : Found → Place → Judged (program.Expression × FieldId × Ty)
is_array (a_value e t) at = broken at WRONG_INDEX
is_array (an_array o f t) at = fine (o, f, t)

-- 32, at the word: `main` has no `this`
abbrev pub this_known : Option ClassId → Place → Judged ClassId
this_known class at = found class at THIS_IN_MAIN

-- 27, at the target's node: a target is a local, or an own scalar field
abbrev pub is_target : Found → Place → Judged (Target × Ty)
is_target (a_value (program.local l) t) at = fine (to_local l, t)
is_target (a_value (program.own f) t) at = fine (to_field f, t)
is_target (a_value e t) at = broken at NO_TARGET
is_target (an_array o f t) at = broken at NO_TARGET

-- 27, at the `[`: or an item of an own array field
abbrev pub is_item_target : Found → program.Expression → Place → Judged (Target × Ty)
is_item_target (an_array program.this f t) i at = fine (to_item f i, t)
is_item_target (an_array o f t) i at = broken at NO_TARGET
is_item_target (a_value e t) i at = broken at NO_TARGET
