-- What the code keeps, as the definitions see it.
use Rattle.std.specs.Prelude.{ℕ, List, [], ◌∷◌, Option, Some, None, map}
use Rattle.std.specs.List.{zip}
use Rattle.std.specs.Borrow.{Bor}
use Rattle.std.specs.declared.vec.Vec.{Vec}
use Rattle.std.specs.Global.{Global}
use Rattle.ca_tree.specs.declared.name.Place.{Place}
use Rattle.ca_program.specs.declared.program.Expr.{Expr}
use Rattle.ca_program.specs.Plain as program
use Rattle.ca_program.specs.View.{expression_view}
use Rattle.ca_resolve.specs.Judged.{Violation}
use Rattle.ca_resolve.specs.declared.errors.Code.{Code}
use Rattle.ca_resolve.specs.declared.types.Ty.{Ty as CodeTy}
use Rattle.ca_resolve.specs.declared.types.Callee.{Callee as CodeCallee}
use Rattle.ca_resolve.specs.declared.types.Callee.TheVariants.{Operation, Function}
use Rattle.ca_resolve.specs.declared.classes.Meaning.{Meaning as CodeMeaning}
use Rattle.ca_resolve.specs.declared.classes.Meaning.TheVariants.{Scalar, Items, Method}
use Rattle.ca_resolve.specs.declared.classes.MemberTable.{MemberTable}
use Rattle.ca_resolve.specs.declared.classes.ClassTable.{ClassTable}
use Rattle.ca_resolve.specs.declared.members.Numbers.{Numbers as CodeNumbers}
use Rattle.ca_resolve.specs.declared.scope.Scope.{Scope as CodeScope}
use Rattle.ca_resolve.specs.declared.found.Found.{Found as CodeFound}
use Rattle.ca_resolve.specs.declared.found.Found.TheVariants.{Value, Array}
use Rattle.ca_resolve.specs.declared.found.Target.{Target as CodeTarget}
use Rattle.ca_resolve.specs.declared.found.Target.TheVariants.{Local as ToLocal, Field as ToField, Item as ToItem}
use Rattle.ca_resolve.specs.declared.found.Invocation.{Invocation as CodeInvocation}
use Rattle.ca_resolve.specs.LocalView.{ty_view}
use Rattle.ca_resolve.specs.Scopes.{Ty, Callee, operation, function, Meaning, scalar, items, method, Numbers, Classes, Scope, Found, a_value, an_array, Target, to_local, to_field, to_item, Invocation}

abbrev pub violation_of : Place × Code → Violation
violation_of p = record { at = p.0; code = p.1.0 }

abbrev pub callee_view : CodeCallee → Callee
callee_view (Operation o) = operation o
callee_view (Function f t) = function f (ty_view t)

abbrev pub meaning_view : CodeMeaning → Meaning
meaning_view (Scalar f t) = scalar f (ty_view t)
meaning_view (Items f t) = items f (ty_view t)
meaning_view (Method c params) = method (callee_view c) (map ty_view params.items)

abbrev pub numbers_view : CodeNumbers → Numbers
numbers_view n = record { field = n.field; operation = n.operation; function = n.function }

abbrev pub members_view : MemberTable → List (List ℕ × Meaning)
members_view t = zip t.names (map meaning_view t.meanings.items)

abbrev pub classes_view : ClassTable → Classes
classes_view t = record { names = t.names; members = map members_view t.members.items }

abbrev pub scope_view : CodeScope → Scope
scope_view s = record { classes = classes_view s.classes.now; class = s.class; locals = s.locals.now }

abbrev pub found_view : CodeFound → Found
found_view (Value e t) = a_value (expression_view e) (ty_view t)
found_view (Array o f t) = an_array (expression_view o) f (ty_view t)

abbrev pub value_view : Expr × CodeTy → program.Expression × Ty
value_view p = (expression_view p.0, ty_view p.1)

-- the type that a value is for, if it is known
abbrev pub wanted_view : Option CodeTy → List Ty
wanted_view None = []
wanted_view (Some t) = ty_view t ∷ []

abbrev pub values_view : Vec Expr Global → List program.Expression
values_view v = map expression_view v.items

abbrev pub method_view : CodeCallee × Bor (List CodeTy) → Callee × List Ty
method_view p = (callee_view p.0, map ty_view p.1.now)

abbrev pub target_view : CodeTarget × CodeTy → Target × Ty
target_view (ToLocal l, t) = (to_local l, ty_view t)
target_view (ToField f, t) = (to_field f, ty_view t)
target_view (ToItem f i, t) = (to_item f (expression_view i), ty_view t)

abbrev pub invocation_view : CodeInvocation → Invocation
invocation_view i = record { receiver = expression_view i.receiver; callee = callee_view i.callee; arguments = values_view i.arguments }
