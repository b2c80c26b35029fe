-- Well typed objects and calls. In a call the receiver names an object of the operation's class, and the
-- arguments have the number and the types of the parameters. What has a type in a heap is said in `Typed`
-- of ca_model.
use Rattle.std.specs.Prelude.{ℕ, ◌≡◌, List, [], ◌∷◌, take, Option, Some, None, slice_get}
use Rattle.ca_program.specs.declared.program.ClassId.{ClassId}
use Rattle.ca_program.specs.declared.program.ValueType.{ValueType}
use Rattle.ca_program.specs.Plain.{PlainProgram, PlainMethod}
use Rattle.ca_model.specs.declared.value.Value.{Value as Datum}
use Rattle.ca_model.specs.declared.value.Object.{Object}
use Rattle.ca_model.specs.Typed.{IsOfClass, HasType, ObjectTyped}
use Rattle.ca_meaning.specs.Expressions.{Invocation}

-- as many values as types, each of its type
abbrev pub ValuesTyped : List Object → List Datum → List ValueType → Type 0
ValuesTyped h [] [] = Unit {0}
ValuesTyped h (v ∷ vs) (ty ∷ tys) = HasType h v ty × ValuesTyped h vs tys
ValuesTyped h _ _ = ⊥

-- the types of the parameters, which are the first locals
abbrev pub parameters_of : PlainMethod → List ValueType
parameters_of m = take m.params m.body.locals

abbrev pub CallTyped : List Object → Option PlainMethod → ℕ → List Datum → Type 0
CallTyped h None r vs = ⊥
CallTyped h (Some m) r vs = IsOfClass (slice_get h r) m.class × ValuesTyped h vs (parameters_of m)

-- the operation is well typed in the heap
abbrev pub WellTyped : PlainProgram → List Object → Invocation → Type 0
WellTyped p h i = CallTyped h (slice_get p.ops i.op.0) i.receiver i.arguments

abbrev pub AllWellTyped : PlainProgram → List Object → List Invocation → Type 0
AllWellTyped p h [] = Unit {0}
AllWellTyped p h (i ∷ is) = WellTyped p h i × AllWellTyped p h is

abbrev pub IsMethodOf : Option PlainMethod → ClassId → Type 0
IsMethodOf None c = ⊥
IsMethodOf (Some m) c = m.class ≡ c

-- an object of the class, with a slot of the right type for each field
pub record IsTypedObject (p : PlainProgram) (h : List Object) (c : ClassId) (o : Object) : Type 0 where
  pub class : o.class ≡ c
  pub slots : ObjectTyped h (slice_get p.classes c.0) o.slots
