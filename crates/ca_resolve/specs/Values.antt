-- What each expression resolves to, and its type, or all violations in it.
use Rattle.std.specs.Prelude.{ℕ, ◌+◌, List, [], ◌∷◌, Option, Some, None, cond, nat_eq, length}
use Rattle.ca_tree.specs.declared.name.Place.{Place}
use Rattle.ca_tree.specs.declared.tree.UnaryOp.{UnaryOp}
use Rattle.ca_tree.specs.declared.tree.BinaryOp.{BinaryOp}
use Rattle.ca_tree.specs.Plain.{Expression, Expressions, number, truth, null, this, named, call, field, method, index, unary, binary, no_expressions, expression_and}
use Rattle.ca_program.specs.declared.program.FieldId.{FieldId}
use Rattle.ca_program.specs.Plain as program
use Rattle.ca_resolve.specs.declared.codes.TheConstants.{UNKNOWN_NAME, WRONG_CALL}
use Rattle.ca_resolve.specs.Judged.{Judged, fine, faulty, both, within, broken, unless, each}
use Rattle.ca_resolve.specs.Scopes.{Ty, long, pointer, no_object, Callee, Meaning, scalar, items, Scope, VisibleLocal, Found, a_value, an_array, Target, Invocation, find_local, own_member}
use Rattle.ca_resolve.specs.Scopes as scopes
use Rattle.ca_resolve.specs.Rules.{member_known, is_method, receiver_member, operand_agrees, operands_agree, value_agrees, as_many, unary_ty, binary_ty, is_value_method, has_index, is_array, this_known, is_target, is_item_target}

-- the place at which an expression's type is told to be wrong
abbrev pub place_of : Expression → Place
place_of (number at n) = at
place_of (truth at b) = at
place_of (null at) = at
place_of (this at) = at
place_of (named at name) = at
place_of (call at name args) = at
place_of (field at e name) = at
place_of (method at e name args) = at
place_of (index at e i) = at
place_of (unary at op e) = at
place_of (binary at op a b) = at

-- a field or an item of the receiver, or of another object
abbrev pub field_of : program.Expression → FieldId → program.Expression
field_of program.this f = program.own f
field_of o f = program.read o f

abbrev pub item_of : program.Expression → FieldId → program.Expression → program.Expression
item_of program.this f i = program.own_item f i
item_of o f i = program.read_item o f i

-- resolved expressions in order
abbrev pub in_order : List program.Expression → program.Expressions
in_order [] = program.no_expressions
in_order (e ∷ es) = program.expression_and e (in_order es)

-- what is read of an object by a name: 24, at the node, where it is a method
abbrev pub member_read : program.Expression → Meaning → Place → Judged Found
member_read o (scalar f t) at = fine (a_value (field_of o f) t)
member_read o (items f t) at = fine (an_array o f t)
member_read o (scopes.method c params) at = broken at UNKNOWN_NAME

-- a name alone: the innermost local, else a field of the receiver
abbrev pub judge_named : Scope → Option VisibleLocal → List ℕ → Place → Judged Found
judge_named s (Some l) name at = fine (a_value (program.local l.id) l.ty)
judge_named s None name at = within (member_known (own_member s name) at) (λ m. member_read program.this m at)

abbrev pub judge_this : Scope → Place → Judged (program.Expression × Ty)
judge_this s at = within (this_known s.class at) (λ c. fine (program.this, pointer c))

abbrev pub as_value : program.Expression × Ty → Judged Found
as_value v = fine (a_value v.0 v.1)

-- `e->name`
abbrev pub judge_field : Scope → Judged (program.Expression × Ty) → List ℕ → Place → Judged Found
judge_field s receiver name at = within receiver (λ r. within (receiver_member s.classes r.1 name at) (λ m. member_read r.0 m at))

-- `e[i]`
abbrev pub judge_item : Judged Found → Judged program.Expression → Place → Judged Found
judge_item indexed i at = within (both indexed i) (λ p. within (is_array p.0 at) (λ a. fine (a_value (item_of a.0 a.1 p.1) a.2)))

abbrev pub judge_unary : Place → UnaryOp → Judged (program.Expression × Ty) → Judged Found
judge_unary at op operand = within operand (λ v. unless (operand_agrees op v.1 at) (a_value (program.unary op v.0) (unary_ty op)))

abbrev pub judge_binary : Place → BinaryOp → Judged (program.Expression × Ty) → Judged (program.Expression × Ty) → Judged Found
judge_binary at op a b = within (both a b) (λ p. unless (operands_agree op p.0.1 p.1.1 at) (a_value (program.binary op p.0.0 p.1.0) (binary_ty op)))

-- the method that a call names: a name alone is called on the receiver, and a local never hides a method
abbrev pub own_method : Scope → List ℕ → Place → Judged (Callee × List Ty)
own_method s name at = within (member_known (own_member s name) at) (λ m. is_method m at)

abbrev pub method_through : Scope → Judged (program.Expression × Ty) → List ℕ → Place → Judged (Callee × List Ty)
method_through s receiver name at = within receiver (λ r. within (receiver_member s.classes r.1 name at) (λ m. is_method m at))

abbrev pub count_of : Expressions → ℕ
count_of no_expressions = 0
count_of (expression_and e es) = count_of es + 1

-- the types of the parameters, where the method is known and has as many as there are arguments
abbrev pub parameters_of : Judged (Callee × List Ty) → ℕ → List Ty
parameters_of (fine c) n = cond (nat_eq n (length c.1)) c.1 []
parameters_of (faulty v vs) n = []

abbrev pub rest_of : List Ty → List Ty
rest_of [] = []
rest_of (t ∷ ts) = ts

-- a value for a target of the first of the types; with no type any value does
abbrev pub value_for : List Ty → Judged (program.Expression × Ty) → Place → Judged program.Expression
value_for [] v at = within v (λ r. fine r.0)
value_for (t ∷ ts) v at = within v (λ r. unless (value_agrees t r.1 at) r.0)

-- a call of a known receiver, method and arguments
abbrev pub judge_invocation : Judged program.Expression → Judged (Callee × List Ty) → List (Judged program.Expression) → Place → Judged Invocation
judge_invocation receiver callee arguments at =
    within (both receiver (each arguments))
    (λ p. within callee (λ c. unless (as_many (length p.1) (length c.1) at) (record { receiver = p.0; callee = c.0; arguments = p.1 })))

-- the value of a call
abbrev pub call_value : Place → Judged Invocation → Judged Found
call_value at c = within c (λ v. within (is_value_method v.callee at) (λ f. fine (a_value (program.value_call v.receiver f.0 (in_order v.arguments)) f.1)))

abbrev pub object_of : Judged (program.Expression × Ty) → Judged program.Expression
object_of receiver = within receiver (λ r. fine r.0)

-- a value, and no whole array
abbrev pub value_of : Expression → Judged Found → Judged (program.Expression × Ty)
value_of e j = within j (λ f. has_index f (place_of e))

abbrev mutual
  -- an expression, before it is asked whether it is a whole array
  pub judge_found : Scope → Expression → Judged Found
  judge_found s (number at n) = fine (a_value (program.number n) long)
  judge_found s (truth at b) = fine (a_value (program.truth b) scopes.truth)
  judge_found s (null at) = fine (a_value program.null no_object)
  judge_found s (this at) = within (judge_this s at) as_value
  judge_found s (named at name) = judge_named s (find_local s.locals name) name at
  judge_found s (call at name args) = call_value at (judge_invocation (fine program.this) (own_method s name at) (judge_arguments s (parameters_of (own_method s name at) (count_of args)) args) at)
  judge_found s (field at e name) = judge_field s (value_of e (judge_found s e)) name at
  judge_found s (method at e name args) =
      call_value at (judge_invocation (object_of (value_of e (judge_found s e))) (method_through s (value_of e (judge_found s e)) name at)
      (judge_arguments s (parameters_of (method_through s (value_of e (judge_found s e)) name at) (count_of args)) args) at)
  judge_found s (index at e i) = judge_item (judge_found s e) (value_for (long ∷ []) (value_of i (judge_found s i)) (place_of i)) at
  judge_found s (unary at op e) = judge_unary at op (value_of e (judge_found s e))
  judge_found s (binary at op a b) = judge_binary at op (value_of a (judge_found s a)) (value_of b (judge_found s b))

  -- each argument for its parameter
  pub judge_arguments : Scope → List Ty → Expressions → List (Judged program.Expression)
  judge_arguments s params no_expressions = []
  judge_arguments s params (expression_and e es) = value_for params (value_of e (judge_found s e)) (place_of e) ∷ judge_arguments s (rest_of params) es

-- the value of an expression, and its type
abbrev pub judge_value : Scope → Expression → Judged (program.Expression × Ty)
judge_value s e = value_of e (judge_found s e)

-- an expression whose value a target of the type is to hold
abbrev pub judge_for : Scope → Ty → Expression → Judged program.Expression
judge_for s target e = value_for (target ∷ []) (judge_value s e) (place_of e)

-- a call by the name alone, and one of a method of an object
abbrev pub judge_own_call : Scope → List ℕ → Expressions → Place → Judged Invocation
judge_own_call s name args at = judge_invocation (fine program.this) (own_method s name at) (judge_arguments s (parameters_of (own_method s name at) (count_of args)) args) at

abbrev pub judge_method_call : Scope → Judged (program.Expression × Ty) → List ℕ → Expressions → Place → Judged Invocation
judge_method_call s object name args at = judge_invocation (object_of object) (method_through s object name at) (judge_arguments s (parameters_of (method_through s object name at) (count_of args)) args) at

-- a call, before it is asked whether it is a statement or a value: 28, at the node, where it is none
abbrev pub judge_call : Scope → Expression → Judged Invocation
judge_call s (call at name args) = judge_own_call s name args at
judge_call s (method at e name args) = judge_method_call s (judge_value s e) name args at
judge_call s e = within (judge_value s e) (λ v. broken (place_of e) WRONG_CALL)

-- `e[i]` as a target
abbrev pub judge_item_target : Judged Found → Judged program.Expression → Place → Judged (Target × Ty)
judge_item_target indexed i at = within (both indexed i) (λ p. is_item_target p.0 p.1 at)

-- what a statement puts to, and the type of its values
abbrev pub judge_target : Scope → Expression → Judged (Target × Ty)
judge_target s (index at e i) = judge_item_target (judge_found s e) (judge_for s long i) at
judge_target s e = within (judge_found s e) (λ f. is_target f (place_of e))
