-- Types and visible locals, as the definitions see them.
use Rattle.ca_resolve.specs.declared.types.Ty.{Ty as CodeTy}
use Rattle.ca_resolve.specs.declared.types.Ty.TheVariants.{Long, Truth, Pointer, Undefined, NoObject}
use Rattle.ca_resolve.specs.declared.locals.VisibleLocal.{VisibleLocal as CodeLocal}
use Rattle.ca_resolve.specs.Scopes.{Ty, long, truth, pointer, undefined, no_object, VisibleLocal}

abbrev pub ty_view : CodeTy → Ty
ty_view Long = long
ty_view Truth = truth
ty_view (Pointer c) = pointer c
ty_view (Undefined name) = undefined name.now
ty_view NoObject = no_object

abbrev pub local_view : CodeLocal → VisibleLocal
local_view l = record { name = l.name.now; id = l.id; ty = ty_view l.ty }
