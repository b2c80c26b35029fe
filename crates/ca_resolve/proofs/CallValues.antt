-- The value of a call.
use Rattle.std.proofs.Common.{◌≡◌, refl, Global}
use Rattle.std.specs.declared.boxed.Box.{Box}
use Rattle.ca_tree.specs.declared.name.Place.{Place}
use Rattle.ca_program.specs.declared.program.Expr.{Expr, Value as ValueCall}
use Rattle.ca_program.specs.declared.program.FunctionId.{FunctionId}
use Rattle.ca_program.proofs.Rows.{row_is_list}
use Rattle.ca_resolve.specs.declared.types.Ty.{Ty as CodeTy}
use Rattle.ca_resolve.specs.declared.types.Callee.TheVariants.{Function}
use Rattle.ca_resolve.specs.declared.found.Invocation.{Invocation as CodeInvocation}
use Rattle.ca_resolve.specs.declared.found.Found.TheVariants.{Value}
use Rattle.ca_resolve.specs.Judged.{Judged, fine}
use Rattle.ca_resolve.specs.Scopes.{Invocation}
use Rattle.ca_resolve.specs.Values.{call_value}
use Rattle.ca_resolve.specs.View.{invocation_view, found_view}
use Rattle.ca_resolve.proofs.InMemory.{in_order_is}

pub call_value_is : (at : Place) (c : CodeInvocation) (p : Box Expr Global) (id : FunctionId) (t : CodeTy) (j : Judged Invocation)
    → j ≡ fine (invocation_view c) → c.callee ≡ Function id t → p.value ≡ c.receiver → call_value at j ≡ fine (found_view (Value (ValueCall p id c.arguments) t))
call_value_is at c p id t j e f g =
    rw (e, f) (rw (row_is_list c.arguments) (rw (in_order_is c.arguments.items, g) refl))
