-- Values and due calls agree in the serial run and in the section.
use Rattle.std.proofs.Common.{◌≡◌, ℕ, List, Some, refl, ap, sym, ◌∙◌, true, false, Bool}
use Rattle.std.specs.Prelude.{slice_get, Contains}
use Rattle.ca_program.specs.declared.program.ClassId.{ClassId}
use Rattle.ca_program.specs.declared.program.FieldId.{FieldId}
use Rattle.ca_program.specs.declared.program.OpId.{OpId}
use Rattle.ca_program.specs.declared.program.ValueType.{ValueType}
use Rattle.ca_program.specs.declared.program.ValueType.TheVariants.{Pointer}
use Rattle.ca_program.specs.Plain.{PlainProgram, Expression, Expressions}
use Rattle.ca_model.specs.declared.value.Value.{Value as Datum}
use Rattle.ca_model.specs.declared.value.Slot.{Slot}
use Rattle.ca_model.specs.declared.value.Object.{Object}
use Rattle.ca_model.specs.Typed.{TypedHeap}
use Rattle.ca_meaning.specs.Expressions.{due}
use Rattle.ca_meaning.specs.Functions.{own_of, place, functions_of, value_in}
use Rattle.ca_meaning.specs.Sections.{Section, section_place, section_value}
use Rattle.ca_meaning.specs.WellTyped.{ValuesTyped}
use Rattle.ca_meaning.specs.ProgramTyped.{Scope, ExpressionTyped, ExpressionsTyped, ProgramTyped}
use Rattle.ca_meaning_laws.specs.Typed.{PlaceTyped, IsReceiver, SectionTyped}
use Rattle.ca_meaning_laws.proofs.FunctionTypes.{calls_typed}
use Rattle.ca_parallel.specs.Separable.{IsClean, AreClean}
use Rattle.ca_order_laws.proofs.Likes.{Like, LikeOwn, clean_fine, clean_fine_all, eval_like, due_like}
use Rattle.ca_order_laws.proofs.LikeCalls.{calls_like, own_same}

-- The heap of the serial run agrees with the frozen one on what isn't written; where no call came before,
-- the receiver's slots are the section's; and the section kept the receiver's constants.
pub record Stands (written : List FieldId) (sc : Scope) (frozen h : List Object) (this : Datum) (b : Bool) (own : List Slot) : Type 0 where
  pub heaps : Like written frozen h
  pub own_before : b ≡ false → own_of h this ≡ own
  pub constants : (f : FieldId) → sc.class ≡ Some f.class → ¬ Contains written f → slice_get own f.field ≡ slice_get (own_of frozen this) f.field

module _ (p : PlainProgram) (program : ProgramTyped p) (written : List FieldId) (sc : Scope) (frozen h : List Object) (this : Datum) (heap : TypedHeap p frozen) (there : IsReceiver frozen sc.class this) where
  own_like : (b : Bool) (own : List Slot) → Stands written sc frozen h this b own → LikeOwn written b sc.class own (own_of h this)
  own_like false own a = record { slots = λ f e m. ap (λ z. slice_get z f.field) (sym (a.own_before refl)) }
  own_like true own a =
      let z : LikeOwn written true sc.class (own_of frozen this) (own_of h this) = own_same written frozen h a.heaps sc.class this there in
      record { slots = λ f e m. a.constants f e m ∙ z.slots f e m }

  section_typed_place : (s : Section) → SectionTyped p frozen sc s → (line : ℕ) (ls : List Datum) → ValuesTyped frozen ls sc.locals → PlaceTyped p sc (section_place frozen this s.own line ls)
  section_typed_place s t line ls v = record { heap = heap; this = there; own = t.own; locals = v }

  pub values_agree : (b : Bool) (s : Section) → SectionTyped p frozen sc s → Stands written sc frozen h this b s.own → (line : ℕ) (ls : List Datum) → ValuesTyped frozen ls sc.locals → (e : Expression) (ty : ValueType) → ExpressionTyped p sc e ty → IsClean p written b e → (k : ℕ)
      → value_in p.functions h this line ls e k ≡ section_value p frozen this line ls s e k
  values_agree b s t a line ls v e ty et c k =
      sym (eval_like p written sc b frozen h this s.own (own_of h this) line ls _ _ (calls_typed p program frozen heap) (calls_like p program written frozen h heap a.heaps) a.heaps (own_like b s.own a) (section_typed_place s t line ls v) e ty et (clean_fine p written b e c) k)

  pub dues_agree : (b : Bool) (s : Section) → SectionTyped p frozen sc s → Stands written sc frozen h this b s.own → (line : ℕ) (ls : List Datum) → ValuesTyped frozen ls sc.locals → (e : Expression) (op : OpId) (es : Expressions) (c : ClassId) (tys : List ValueType) → ExpressionTyped p sc e (Pointer c) → ExpressionsTyped p sc es tys → IsClean p written b e → AreClean p written b es → (k : ℕ)
      → due (functions_of p.functions h).call (place h this line ls) e op es k ≡ due (functions_of p.functions frozen).call (section_place frozen this s.own line ls) e op es k
  dues_agree b s t a line ls v e op es c tys et ts ce cs k =
      sym (due_like p written sc b frozen h this s.own (own_of h this) line ls _ _ (calls_typed p program frozen heap) (calls_like p program written frozen h heap a.heaps) a.heaps (own_like b s.own a) (section_typed_place s t line ls v) e op es c tys et ts (clean_fine p written b e ce) (clean_fine_all p written b es cs) k)
