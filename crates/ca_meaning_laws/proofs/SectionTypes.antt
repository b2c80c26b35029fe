-- Sections of a typed program leave a typed object, and list well typed calls.
use Rattle.std.proofs.Common.{◌≡◌, ℕ, zero, suc, List, [], ◌∷◌, ◌++◌, Option, Some, None, refl, ap, sym, subst}
use Rattle.std.specs.Prelude.{slice_get}
use Rattle.ca_program.specs.declared.program.ClassId.{ClassId}
use Rattle.ca_program.specs.declared.program.FieldId.{FieldId}
use Rattle.ca_program.specs.declared.program.OpId.{OpId}
use Rattle.ca_program.specs.declared.program.ValueType.{ValueType}
use Rattle.ca_program.specs.declared.program.ValueType.TheVariants.{Long as LongType}
use Rattle.ca_program.specs.Plain.{PlainProgram, PlainMethod, Expression, Statement, Statements, Statements, block, put_local, put_field, put_item, new_local, new_field, new_item, invoke, if_else, while_loop, for_loop, return_value, print_value}
use Rattle.ca_model.specs.declared.value.Value.{Value as Datum}
use Rattle.ca_model.specs.declared.value.Value.TheVariants.{Ref}
use Rattle.ca_model.specs.declared.value.Slot.{Slot}
use Rattle.ca_model.specs.declared.value.Object.{Object}
use Rattle.ca_model.specs.Heaps.{fields_of}
use Rattle.ca_model.specs.Slots.{put_slot}
use Rattle.ca_model.specs.Typed.{HasType, ObjectTyped, TypedHeap}
use Rattle.ca_meaning.specs.Expressions.{one_in, Invocation, invocation}
use Rattle.ca_meaning.specs.Flows.{Flow, goes_on, gives_back, stops, runs_out, exec, exec_all}
use Rattle.ca_meaning.specs.Functions.{body_of, locals_of, functions_of}
use Rattle.ca_meaning.specs.Sections.{Section, with_own, with_listed, section_place, section_act, Again, section_parts_with, loops, loops_of, section_parts, section_start, section_value, section_item_at, sectioned, section}
use Rattle.ca_meaning.specs.WellTyped.{ValuesTyped, CallTyped, WellTyped, AllWellTyped, IsMethodOf}
use Rattle.ca_meaning.specs.WellTyped.{IsTypedObject}
use Rattle.ca_meaning.specs.ProgramTyped.{Scope, IsScalar, field_info, ExpressionTyped, StatementTyped, StatementsTyped, scope_of, MethodTyped, OperationTyped, ProgramTyped}
use Rattle.ca_meaning_laws.specs.Typed.{Yields, Extends, IsReceiver, OwnTyped, PlaceTyped, FlowTyped, goes_on_typed, runs_out_typed, SectionTyped, SectionLeaves, frozen_heap}
use Rattle.ca_meaning_laws.proofs.Values.{assigned_typed, frame_typed, own_scalar, own_array, indexed_typed, own_put, FieldHas, scalar_has, array_has}
use Rattle.ca_meaning_laws.proofs.Heaps.{extends_self}
use Rattle.ca_meaning_laws.proofs.Evals.{own_at, eval_typed, due_typed}
use Rattle.ca_meaning_laws.proofs.Statements.{typed_with, PartsTyped, exec_typed, all_exec_typed, turn_typed}
use Rattle.ca_meaning_laws.proofs.FunctionTypes.{calls_typed}

abbrev pub SectionFlow : PlainProgram → List Object → Scope → Flow Section → Type 0
SectionFlow p h s a = FlowTyped (frozen_heap h) (SectionTyped p h s) s h a

listed_more : (p : PlainProgram) (h : List Object) (is : List Invocation) (i : Invocation) → AllWellTyped p h is → WellTyped p h i → AllWellTyped p h (is ++ i ∷ [])
listed_more p h [] i t well = (well, tt)
listed_more p h (j ∷ is) i t well = (t.0, listed_more p h is i t.1 well)

-- where the class is known, a put into the own slots
own_put_at : (p : PlainProgram) (h : List Object) (class : Option ClassId) (ss : List Slot) (f : FieldId) (i : ℕ) (v : Datum) (ty : ValueType) → OwnTyped p h class ss → class ≡ Some f.class → FieldHas (field_info p f) ty → HasType h v ty → OwnTyped p h class (put_slot ss f.field i v)
own_put_at p h None ss f i v ty t e has hv = tt
own_put_at p h (Some d) ss f i v ty t e has hv =
    let same : f.class ≡ d = cc in
    own_put h (slice_get p.classes d.0) ss f.field i v ty t (subst (λ z. FieldHas (slice_get (fields_of (slice_get p.classes z.0)) f.field) ty) same has) hv

module _ (p : PlainProgram) (typed : ProgramTyped p) (h : List Object) (heap : TypedHeap p h) (s : Scope) (r : Datum) (here : IsReceiver h s.class r) where
  section_at : (x : Section) (line : ℕ) (ls : List Datum) → SectionTyped p h s x → ValuesTyped h ls s.locals → PlaceTyped p s (section_place h r x.own line ls)
  section_at x line ls good v = record { heap = heap; this = here; own = good.own; locals = v }

  section_value_typed : (x : Section) (line : ℕ) (ls : List Datum) (e : Expression) (ty : ValueType) (k : ℕ) → SectionTyped p h s x → ValuesTyped h ls s.locals → ExpressionTyped p s e ty → Yields (λ v. HasType h v ty) (section_value p h r line ls x e k)
  section_value_typed x line ls e ty k good v t = eval_typed p s (section_place h r x.own line ls) (functions_of p.functions h).call (calls_typed p typed h heap) (section_at x line ls good v) e ty t k

  old_typed : (x : Section) (f : FieldId) (ty : ValueType) → SectionTyped p h s x → s.class ≡ Some f.class → IsScalar (field_info p f) ty → HasType h (one_in (slice_get x.own f.field)) ty
  old_typed x f ty good e t = own_scalar h (slice_get p.classes f.class.0) x.own f.field ty (own_at p h s.class x.own f.class good.own e) t

  put_goes : (g : List Object) (x : Section) (ls : List Datum) (f : FieldId) (i : ℕ) (v : Datum) (ty : ValueType) (k : ℕ) → SectionTyped p h s x → Extends g h → ValuesTyped h ls s.locals → s.class ≡ Some f.class → FieldHas (field_info p f) ty → HasType h v ty → FlowTyped (frozen_heap h) (SectionTyped p h s) s g (goes_on ls (with_own x (put_slot x.own f.field i v)) k)
  put_goes g x ls f i v ty k good ext vs e has hv = goes_on_typed ls _ k (record { own = own_put_at p h s.class x.own f i v ty good.own e has hv; listed = good.listed }) ext vs

  section_act_typed : (g : List Object) (line : ℕ) (ls : List Datum) (x : Section) (y : Statement) (k : ℕ) → SectionTyped p h s x → Extends g h → ValuesTyped h ls s.locals → StatementTyped p s y → FlowTyped (frozen_heap h) (SectionTyped p h s) s g (section_act p h r line ls x y k)
  section_act_typed g line ls x (put_field l f op e) k good ext vs t =
      typed_with (frozen_heap h) (SectionTyped p h s) s (λ v. HasType h v t.0) g _ x _ good ext (section_value_typed x line ls e t.0 k good vs t.3.1)
      (λ v k1 hv. put_goes g x ls f 0 _ t.0 k1 good ext vs t.1.1 (scalar_has (field_info p f) t.0 t.2) (assigned_typed h op _ v t.0 t.3.0 (old_typed x f t.0 good t.1.1 t.2) hv))
  section_act_typed g line ls x (put_item l f i op e) k good ext vs t =
      typed_with (frozen_heap h) (SectionTyped p h s) s (λ v. HasType h v LongType) g _ x _ good ext (section_value_typed x line ls i LongType k good vs t.3)
      (λ v k1 hv. typed_with (frozen_heap h) (SectionTyped p h s) s (λ item. HasType h item.value t.0) g (section_item_at line x f v k1) x _ good ext
      (indexed_typed h line _ v k1 t.0 (own_array h (slice_get p.classes f.class.0) x.own f.field t.0 (own_at p h s.class x.own f.class good.own t.1.1) t.2))
      (λ item k2 old. typed_with (frozen_heap h) (SectionTyped p h s) s (λ v. HasType h v t.0) g _ x _ good ext (section_value_typed x line ls e t.0 k2 good vs t.4.1)
      (λ v k3 hv. put_goes g x ls f item.place _ t.0 k3 good ext vs t.1.1 (array_has (field_info p f) t.0 t.2) (assigned_typed h op item.value v t.0 t.4.0 old hv))))
  section_act_typed g line ls x (new_local l i c) k good ext vs t = goes_on_typed ls x k good ext vs
  section_act_typed g line ls x (new_field l f c) k good ext vs t = goes_on_typed ls x k good ext vs
  section_act_typed g line ls x (new_item l f i c) k good ext vs t = goes_on_typed ls x k good ext vs
  section_act_typed g line ls x (print_value l e) k good ext vs t = goes_on_typed ls x k good ext vs
  section_act_typed g line ls x (block l ss) k good ext vs t = goes_on_typed ls x k good ext vs
  section_act_typed g line ls x (put_local l i op e) k good ext vs t = goes_on_typed ls x k good ext vs
  section_act_typed g line ls x (invoke l e op es) k good ext vs t = goes_on_typed ls x k good ext vs
  section_act_typed g line ls x (if_else l c a b) k good ext vs t = goes_on_typed ls x k good ext vs
  section_act_typed g line ls x (while_loop l c b) k good ext vs t = goes_on_typed ls x k good ext vs
  section_act_typed g line ls x (for_loop l site part first c next b) k good ext vs t = goes_on_typed ls x k good ext vs
  section_act_typed g line ls x (return_value l e) k good ext vs t = goes_on_typed ls x k good ext vs

  abbrev pub AgainTyped : Again → Type 0
  AgainTyped a = (g : List Object) (line : ℕ) (ls : List Datum) (x : Section) (y : Statement) (k : ℕ) → SectionTyped p h s x → Extends g h → ValuesTyped h ls s.locals → StatementTyped p s y → FlowTyped (frozen_heap h) (SectionTyped p h s) s g (a line ls x y k)

  pub section_parts_typed : (a : Again) → AgainTyped a → PartsTyped (frozen_heap h) (SectionTyped p h s) p s (section_parts_with p h r a)
  section_parts_typed a all = record {
    values = λ line ls x e ty k good v t. section_value_typed x line ls e ty k good v t;
    acts = λ g line ls x y k good ext v t. section_act_typed g line ls x y k good ext v t;
    calls = λ g line ls x e op es k class tys good ext v o te tes.
        typed_with (frozen_heap h) (SectionTyped p h s) s (λ i. WellTyped p h i) g _ x _ good ext
        (due_typed p s (section_place h r x.own line ls) (functions_of p.functions h).call (calls_typed p typed h heap) (section_at x line ls good v) e op es class tys o te tes k)
        (λ i k1 well. goes_on_typed ls (with_listed x i) k1 (record { own = good.own; listed = listed_more p h x.listed i good.listed well }) ext v);
    agains = all;
    begins = λ g line ls x y k b good ext v t flow. flow;
  }

  pub loops_typed : (n : ℕ) → AgainTyped (loops n p h r)
  loops_typed zero = λ g line ls x y k good ext v t. runs_out_typed x good ext
  loops_typed (suc n) = λ g line ls x y k good ext v t. turn_typed (frozen_heap h) (SectionTyped p h s) p s (section_parts_with p h r (loops n p h r)) (section_parts_typed (loops n p h r) (loops_typed n)) g y t line ls x k good ext v

  pub all_section_parts_typed : PartsTyped (frozen_heap h) (SectionTyped p h s) p s (section_parts p h r)
  all_section_parts_typed = section_parts_typed (loops_of p h r) (λ g line ls x y k good ext v t. loops_typed (suc k) g line ls x y k good ext v t)

  -- the body of an operation, or a loop of serial code, in a section
  pub section_all_typed : (ys : Statements) → StatementsTyped p s ys → (ls : List Datum) (x : Section) (k : ℕ) → SectionTyped p h s x → ValuesTyped h ls s.locals → SectionFlow p h s (exec_all (section_parts p h r) ls x ys k)
  section_all_typed ys t ls x k good v = all_exec_typed (frozen_heap h) (SectionTyped p h s) p s (section_parts p h r) all_section_parts_typed h ys t ls x k good (extends_self h) v

  pub section_loop_typed : (y : Statement) → StatementTyped p s y → (line : ℕ) (ls : List Datum) (x : Section) (k : ℕ) → SectionTyped p h s x → ValuesTyped h ls s.locals → SectionFlow p h s (exec (section_parts p h r) line ls x y k)
  section_loop_typed y t line ls x k good v = exec_typed (frozen_heap h) (SectionTyped p h s) p s (section_parts p h r) all_section_parts_typed h y t line ls x k good (extends_self h) v

leaves : (p : PlainProgram) (h : List Object) (s : Scope) (c d : ClassId) (budget : ℕ) → s.class ≡ Some c → d ≡ c → (a : Flow Section) → SectionFlow p h s a → SectionLeaves p h c (sectioned d budget a)
leaves p h s c d budget e is (goes_on ls x k) (goes_on_typed _ _ _ good ext v) = (record { class = is; slots = own_at p h s.class x.own c good.own e }, good.listed)
leaves p h s c d budget e is (gives_back u x k) f = tt
leaves p h s c d budget e is (stops t x) f = tt
leaves p h s c d budget e is (runs_out x) f = tt

body_leaves : (p : PlainProgram) → ProgramTyped p → (h : List Object) → TypedHeap p h → (n r : ℕ) (o : Object) (vs : List Datum) (k budget : ℕ) (c : ClassId) (m : Option PlainMethod) → slice_get p.ops n ≡ m → CallTyped h m r vs → IsMethodOf m c → IsTypedObject p h c o → SectionLeaves p h c (sectioned o.class budget (exec_all (section_parts p h (Ref r)) (locals_of m vs) (section_start o.slots) (body_of m) k))
body_leaves p typed h t n r o vs k budget c None e call of_class object = absurd call
body_leaves p typed h t n r o vs k budget c (Some m) e call of_class object =
    let mt : OperationTyped p m = typed.ops n m e in
    let mm : MethodTyped p m = mt.method in
    leaves p h (scope_of m) c o.class budget (ap Some of_class) object.class _
    (section_all_typed p typed h t (scope_of m) (Ref r) call.0 m.body.statements mm.body _ _ k
    (record { own = subst (λ z. ObjectTyped h (slice_get p.classes z.0) o.slots) (sym of_class) object.slots; listed = tt })
    (frame_typed h vs m.params m.body.locals call.1))

-- the section of a well typed call on a typed object
pub section_leaves : (p : PlainProgram) → ProgramTyped p → (h : List Object) → TypedHeap p h → (r : ℕ) (o : Object) (op : OpId) (vs : List Datum) (budget : ℕ) (c : ClassId) → WellTyped p h (invocation r op vs) → IsMethodOf (slice_get p.ops op.0) c → IsTypedObject p h c o → SectionLeaves p h c (section p h r o op vs budget)
section_leaves p typed h t r o op vs zero c well of_class object = tt
section_leaves p typed h t r o op vs (suc k) c well of_class object = body_leaves p typed h t op.0 r o vs k (suc k) c (slice_get p.ops op.0) refl well of_class object
