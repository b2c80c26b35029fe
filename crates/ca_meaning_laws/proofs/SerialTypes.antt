-- Operations and `main` of a typed program keep a typed heap typed.
use Rattle.std.proofs.Common.{◌≡◌, ℕ, zero, suc, List, [], ◌∷◌, Option, Some, None, refl, sym, subst, true, false, Bool, length, ⊎_elim}
use Rattle.std.specs.Prelude.{slice_get}
use Rattle.ca_program.specs.declared.program.ClassId.{ClassId}
use Rattle.ca_program.specs.declared.program.FieldId.{FieldId}
use Rattle.ca_program.specs.declared.program.ValueType.{ValueType}
use Rattle.ca_program.specs.declared.program.ValueType.TheVariants.{Long as LongType, Bool as BoolType, Pointer}
use Rattle.ca_program.specs.Plain.{PlainProgram, PlainMethod, Expression, Statement, block, put_local, put_field, put_item, new_local, new_field, new_item, invoke, if_else, while_loop, for_loop, return_value, print_value}
use Rattle.ca_model.specs.declared.value.Value.{Value as Datum}
use Rattle.ca_model.specs.declared.value.Value.TheVariants.{Null, Ref}
use Rattle.ca_model.specs.declared.value.Object.{Object}
use Rattle.ca_model.specs.Heaps.{created, starts_of, is_full}
use Rattle.ca_model.specs.Typed.{IsOfClass, HasType, TypedHeap}
use Rattle.ca_meaning.specs.Expressions.{eval, Invocation}
use Rattle.ca_meaning.specs.Flows.{Flow, goes_on, gives_back, stops, runs_out, and_on, with, exec, exec_all}
use Rattle.ca_meaning.specs.Functions.{own_of, place, body_of, locals_of, functions_of}
use Rattle.ca_meaning.specs.Serial.{World, in_heap, printed, put_own, unless_full, room_for, own_value, own_item_at, Operations, came_back, run_call, operation_act, operation_parts, operations, operations_of, serial_parts, serial_ops, main_run}
use Rattle.ca_meaning.specs.WellTyped.{ValuesTyped, parameters_of, CallTyped, WellTyped, AllWellTyped}
use Rattle.ca_meaning.specs.ProgramTyped.{Scope, IsScalar, IsArray, field_info, IsClass, ExpressionTyped, StatementTyped, scope_of, MethodTyped, OperationTyped, main_scope, ProgramTyped}
use Rattle.ca_meaning_laws.specs.Typed.{Yields, yields, yields_trap, Extends, IsReceiver, FlowTyped, goes_on_typed, gives_back_typed, stops_typed, runs_out_typed, KeepsHeap, goes_on_kept, gives_back_kept, stops_kept, runs_out_kept, WorldTyped, heap_of}
use Rattle.ca_meaning_laws.proofs.Values.{assigned_typed, local_set, starts_typed, frame_typed, own_scalar, own_array, indexed_typed, FieldHas, scalar_has, array_has}
use Rattle.ca_meaning_laws.proofs.Heaps.{extends_self, extends_then, values_kept, receiver_kept, own_typed, extends_put, put_typed, extends_created, new_class, created_typed}
use Rattle.ca_meaning_laws.proofs.Evals.{own_at, eval_typed, due_typed}
use Rattle.ca_meaning_laws.proofs.Statements.{typed_with, typed_step, PartsTyped, exec_typed, all_exec_typed, turn_typed}
use Rattle.ca_meaning_laws.proofs.FunctionTypes.{serial_place, calls_typed}

abbrev pub WorldFlow : PlainProgram → Scope → Datum → List Object → Flow World → Type 0
WorldFlow p s r h a = FlowTyped heap_of (WorldTyped p s r) s h a

pub record OperationsTyped (p : PlainProgram) (o : Operations) : Type 0 where
  pub invokes : (i : Invocation) (w : World) (k : ℕ) → TypedHeap p w.heap → WellTyped p w.heap i → KeepsHeap p w.heap (o.invoke i w k)
  pub agains : (s : Scope) (r : Datum) (h : List Object) (line : ℕ) (ls : List Datum) (w : World) (x : Statement) (k : ℕ) → WorldTyped p s r w → Extends h w.heap → ValuesTyped w.heap ls s.locals → StatementTyped p s x → WorldFlow p s r h (o.again r line ls w x k)

-- the world with a heap that has all objects of the old one
moved : (p : PlainProgram) (s : Scope) (r : Datum) (w : World) (v : World) → WorldTyped p s r w → TypedHeap p v.heap → Extends w.heap v.heap → WorldTyped p s r v
moved p s r w v good t ext = record { heap = t; receiver = receiver_kept w.heap v.heap ext s.class r good.receiver }

-- a statement that goes on with such a world and typed locals
goes_to : (p : PlainProgram) (s : Scope) (r : Datum) (h : List Object) (w v : World) (ls : List Datum) (k : ℕ) → WorldTyped p s r w → Extends h w.heap → TypedHeap p v.heap → Extends w.heap v.heap → ValuesTyped v.heap ls s.locals → WorldFlow p s r h (goes_on ls v k)
goes_to p s r h w v ls k good ext t more vs = goes_on_typed ls v k (moved p s r w v good t more) (extends_then h w.heap v.heap ext more) vs

pub came_typed : (p : PlainProgram) (s : Scope) (r : Datum) (h : List Object) (w : World) (ls : List Datum) → WorldTyped p s r w → Extends h w.heap → ValuesTyped w.heap ls s.locals → (a : Flow World) → KeepsHeap p w.heap a → WorldFlow p s r h (came_back ls a)
came_typed p s r h w ls good ext vs (goes_on _ v k) (goes_on_kept _ _ _ t more) = goes_to p s r h w v ls k good ext t more (values_kept w.heap v.heap more ls s.locals vs)
came_typed p s r h w ls good ext vs (gives_back _ v k) (gives_back_kept _ _ _ t more) = runs_out_typed v (moved p s r w v good t more) (extends_then h w.heap v.heap ext more)
came_typed p s r h w ls good ext vs (stops u v) (stops_kept _ _ t more) = stops_typed u v (moved p s r w v good t more) (extends_then h w.heap v.heap ext more)
came_typed p s r h w ls good ext vs (runs_out v) (runs_out_kept _ t more) = runs_out_typed v (moved p s r w v good t more) (extends_then h w.heap v.heap ext more)

pub run_typed : (p : PlainProgram) (o : Operations) → OperationsTyped p o → (s : Scope) (r : Datum) (h : List Object) (ls : List Datum) (i : Invocation) (w : World) (k : ℕ) → WorldTyped p s r w → Extends h w.heap → ValuesTyped w.heap ls s.locals → WellTyped p w.heap i → WorldFlow p s r h (run_call o ls i w k)
run_typed p o all s r h ls i w k good ext vs t =
    typed_step heap_of (WorldTyped p s r) s h w k _ good ext (λ j. came_typed p s r h w ls good ext vs (o.invoke i w j) (all.invokes i w j good.heap t))

room_yields : (full : Bool) (line n k : ℕ) → Yields (λ m. m ≡ n) (unless_full full line n k)
room_yields true line n k = yields_trap _
room_yields false line n k = yields n k refl

-- where the class is known, the receiver names an object of it
pub receiver_at : (h : List Object) (class : Option ClassId) (r : Datum) (c : ClassId) → IsReceiver h class r → class ≡ Some c → IsReceiver h (Some c) r
receiver_at h None r c t e = cc
receiver_at h (Some d) r c t e = let same : d ≡ c = cc in subst (λ z. IsReceiver h (Some z) r) same t

-- what was kept from a later heap on was kept
further : (p : PlainProgram) (h g : List Object) → Extends h g → (a : Flow World) → KeepsHeap p g a → KeepsHeap p h a
further p h g more (goes_on ls w k) (goes_on_kept _ _ _ t ext) = goes_on_kept ls w k t (extends_then h g w.heap more ext)
further p h g more (gives_back v w k) (gives_back_kept _ _ _ t ext) = gives_back_kept v w k t (extends_then h g w.heap more ext)
further p h g more (stops x w) (stops_kept _ _ t ext) = stops_kept x w t (extends_then h g w.heap more ext)
further p h g more (runs_out w) (runs_out_kept _ t ext) = runs_out_kept w t (extends_then h g w.heap more ext)

call_kept : (h g : List Object) → Extends h g → (m : Option PlainMethod) (r : ℕ) (vs : List Datum) → CallTyped h m r vs → CallTyped g m r vs
call_kept h g more None r vs t = absurd t
call_kept h g more (Some m) r vs t = (more.keeps r m.class t.0, values_kept h g more vs (parameters_of m) t.1)

pub well_kept : (p : PlainProgram) (h g : List Object) → Extends h g → (is : List Invocation) → AllWellTyped p h is → AllWellTyped p g is
well_kept p h g more [] t = tt
well_kept p h g more (i ∷ is) t = (call_kept h g more (slice_get p.ops i.op.0) i.receiver i.arguments t.0, well_kept p h g more is t.1)

module _ (p : PlainProgram) (typed : ProgramTyped p) where
  serial_value : (s : Scope) (r : Datum) (w : World) (line : ℕ) (ls : List Datum) (e : Expression) (ty : ValueType) (k : ℕ) → WorldTyped p s r w → ValuesTyped w.heap ls s.locals → ExpressionTyped p s e ty → Yields (λ v. HasType w.heap v ty) (eval (functions_of p.functions w.heap).call (place w.heap r line ls) e k)
  serial_value s r w line ls e ty k good v t =
      eval_typed p s (place w.heap r line ls) (functions_of p.functions w.heap).call (calls_typed p typed w.heap good.heap) (serial_place p w.heap s r line ls good.heap good.receiver v) e ty t k

  -- a put of a typed value into an own field
  put_goes : (s : Scope) (r : Datum) (h : List Object) (w : World) (ls : List Datum) (f : FieldId) (i : ℕ) (v : Datum) (ty : ValueType) (k : ℕ) → WorldTyped p s r w → Extends h w.heap → ValuesTyped w.heap ls s.locals → s.class ≡ Some f.class → FieldHas (field_info p f) ty → HasType w.heap v ty → WorldFlow p s r h (goes_on ls (in_heap w (put_own w.heap r f i v)) k)
  put_goes s r h w ls f i v ty k good ext vs e has hv =
      let more : Extends w.heap (put_own w.heap r f i v) = extends_put w.heap r f i v in
      goes_to p s r h w (in_heap w (put_own w.heap r f i v)) ls k good ext
      (put_typed p w.heap r f i v ty good.heap (receiver_at w.heap s.class r f.class good.receiver e) has hv) more (values_kept w.heap (put_own w.heap r f i v) more ls s.locals vs)

  own_old : (s : Scope) (r : Datum) (w : World) (f : FieldId) (ty : ValueType) → WorldTyped p s r w → s.class ≡ Some f.class → IsScalar (field_info p f) ty → HasType w.heap (own_value w r f) ty
  own_old s r w f ty good e t =
      own_scalar w.heap (slice_get p.classes f.class.0) (own_of w.heap r) f.field ty (own_at p w.heap s.class (own_of w.heap r) f.class (own_typed p w.heap s.class r good.heap good.receiver) e) t

  own_item_yields : (s : Scope) (r : Datum) (w : World) (line : ℕ) (f : FieldId) (v : Datum) (ty : ValueType) (k : ℕ) → WorldTyped p s r w → s.class ≡ Some f.class → IsArray (field_info p f) ty → Yields (λ item. HasType w.heap item.value ty) (own_item_at line w r f v k)
  own_item_yields s r w line f v ty k good e t =
      indexed_typed w.heap line _ v k ty (own_array w.heap (slice_get p.classes f.class.0) (own_of w.heap r) f.field ty (own_at p w.heap s.class (own_of w.heap r) f.class (own_typed p w.heap s.class r good.heap good.receiver) e) t)

  -- a put of the new object into an own field
  new_goes : (s : Scope) (r : Datum) (h : List Object) (w : World) (ls : List Datum) (f : FieldId) (i : ℕ) (c : ClassId) (n k : ℕ) → WorldTyped p s r w → Extends h w.heap → ValuesTyped w.heap ls s.locals → s.class ≡ Some f.class → FieldHas (field_info p f) (Pointer c) → IsClass p c → n ≡ length w.heap → WorldFlow p s r h (goes_on ls (in_heap w (put_own (created p c w.heap) r f i (Ref n))) k)
  new_goes s r h w ls f i c n k good ext vs e has there is =
      let g : List Object = created p c w.heap in
      let more : Extends w.heap g = extends_created p c w.heap in
      put_goes s r h (in_heap w g) ls f i (Ref n) (Pointer c) k (moved p s r w (in_heap w g) good (created_typed p c w.heap good.heap there) more) (extends_then h w.heap g ext more)
      (values_kept w.heap g more ls s.locals vs) e has (subst (λ m. IsOfClass (slice_get g m) c) (sym is) (new_class p c w.heap))

  print_goes : (s : Scope) (r : Datum) (h : List Object) (line : ℕ) (ls : List Datum) (w : World) (e : Expression) (ty : ValueType) (k : ℕ) → WorldTyped p s r w → Extends h w.heap → ValuesTyped w.heap ls s.locals → ExpressionTyped p s e ty → WorldFlow p s r h (with (eval (functions_of p.functions w.heap).call (place w.heap r line ls) e k) w (λ v k. goes_on ls (printed w v) k))
  print_goes s r h line ls w e ty k good ext vs t =
      typed_with heap_of (WorldTyped p s r) s (λ v. HasType w.heap v ty) h _ w _ good ext (serial_value s r w line ls e ty k good vs t)
      (λ v k1 hv. goes_to p s r h w (printed w v) ls k1 good ext good.heap (extends_self w.heap) vs)

  pub act_typed : (s : Scope) (r : Datum) (h : List Object) (line : ℕ) (ls : List Datum) (w : World) (y : Statement) (k : ℕ) → WorldTyped p s r w → Extends h w.heap → ValuesTyped w.heap ls s.locals → StatementTyped p s y → WorldFlow p s r h (operation_act p r line ls w y k)
  act_typed s r h line ls w (put_field l f op e) k good ext vs t =
      typed_with heap_of (WorldTyped p s r) s (λ v. HasType w.heap v t.0) h _ w _ good ext (serial_value s r w line ls e t.0 k good vs t.3.1)
      (λ v k1 hv. put_goes s r h w ls f 0 _ t.0 k1 good ext vs t.1.1 (scalar_has (field_info p f) t.0 t.2) (assigned_typed w.heap op (own_value w r f) v t.0 t.3.0 (own_old s r w f t.0 good t.1.1 t.2) hv))
  act_typed s r h line ls w (put_item l f i op e) k good ext vs t =
      typed_with heap_of (WorldTyped p s r) s (λ v. HasType w.heap v LongType) h _ w _ good ext (serial_value s r w line ls i LongType k good vs t.3)
      (λ v k1 hv. typed_with heap_of (WorldTyped p s r) s (λ item. HasType w.heap item.value t.0) h (own_item_at line w r f v k1) w _ good ext (own_item_yields s r w line f v t.0 k1 good t.1.1 t.2)
      (λ item k2 old. typed_with heap_of (WorldTyped p s r) s (λ v. HasType w.heap v t.0) h _ w _ good ext (serial_value s r w line ls e t.0 k2 good vs t.4.1)
      (λ v k3 hv. put_goes s r h w ls f item.place _ t.0 k3 good ext vs t.1.1 (array_has (field_info p f) t.0 t.2) (assigned_typed w.heap op item.value v t.0 t.4.0 old hv))))
  act_typed s r h line ls w (new_local l i c) k good ext vs t =
      let g : List Object = created p c w.heap in
      let more : Extends w.heap g = extends_created p c w.heap in
      typed_with heap_of (WorldTyped p s r) s (λ n. n ≡ length w.heap) h (room_for p line w.heap c k) w _ good ext (room_yields (is_full w.heap (starts_of p c)) line (length w.heap) k)
      (λ n k1 is. goes_to p s r h w (in_heap w g) _ k1 good ext (created_typed p c w.heap good.heap t.2) more
      (local_set g ls s.locals i.0 (Ref n) (Pointer c) (values_kept w.heap g more ls s.locals vs) t.1 (subst (λ m. IsOfClass (slice_get g m) c) (sym is) (new_class p c w.heap))))
  act_typed s r h line ls w (new_field l f c) k good ext vs t =
      typed_with heap_of (WorldTyped p s r) s (λ n. n ≡ length w.heap) h (room_for p line w.heap c k) w _ good ext (room_yields (is_full w.heap (starts_of p c)) line (length w.heap) k)
      (λ n k1 is. new_goes s r h w ls f 0 c n k1 good ext vs t.0.1 (scalar_has (field_info p f) (Pointer c) t.1) t.2 is)
  act_typed s r h line ls w (new_item l f i c) k good ext vs t =
      typed_with heap_of (WorldTyped p s r) s (λ v. HasType w.heap v LongType) h _ w _ good ext (serial_value s r w line ls i LongType k good vs t.2)
      (λ v k1 hv. typed_with heap_of (WorldTyped p s r) s (λ item. HasType w.heap item.value (Pointer c)) h (own_item_at line w r f v k1) w _ good ext (own_item_yields s r w line f v (Pointer c) k1 good t.0.1 t.1)
      (λ item k2 old. typed_with heap_of (WorldTyped p s r) s (λ n. n ≡ length w.heap) h (room_for p line w.heap c k2) w _ good ext (room_yields (is_full w.heap (starts_of p c)) line (length w.heap) k2)
      (λ n k3 is. new_goes s r h w ls f item.place c n k3 good ext vs t.0.1 (array_has (field_info p f) (Pointer c) t.1) t.3 is)))
  act_typed s r h line ls w (print_value l e) k good ext vs t = ⊎_elim (λ a. print_goes s r h line ls w e LongType k good ext vs a) (λ b. print_goes s r h line ls w e BoolType k good ext vs b) t.1
  act_typed s r h line ls w (block l ss) k good ext vs t = goes_on_typed ls w k good ext vs
  act_typed s r h line ls w (put_local l i op e) k good ext vs t = goes_on_typed ls w k good ext vs
  act_typed s r h line ls w (invoke l e op es) k good ext vs t = goes_on_typed ls w k good ext vs
  act_typed s r h line ls w (if_else l c a b) k good ext vs t = goes_on_typed ls w k good ext vs
  act_typed s r h line ls w (while_loop l c b) k good ext vs t = goes_on_typed ls w k good ext vs
  act_typed s r h line ls w (for_loop l site part first c next b) k good ext vs t = goes_on_typed ls w k good ext vs
  act_typed s r h line ls w (return_value l e) k good ext vs t = goes_on_typed ls w k good ext vs

  pub parts_typed : (o : Operations) → OperationsTyped p o → (s : Scope) (r : Datum) → PartsTyped heap_of (WorldTyped p s r) p s (operation_parts p o r)
  parts_typed o all s r = record {
    values = λ line ls w e ty k good v t. serial_value s r w line ls e ty k good v t;
    acts = λ h line ls w y k good ext v t. act_typed s r h line ls w y k good ext v t;
    calls = λ h line ls w e op es k class tys good ext v o te tes.
        typed_with heap_of (WorldTyped p s r) s (λ i. WellTyped p w.heap i) h _ w _ good ext
        (due_typed p s (place w.heap r line ls) (functions_of p.functions w.heap).call (calls_typed p typed w.heap good.heap) (serial_place p w.heap s r line ls good.heap good.receiver v) e op es class tys o te tes k)
        (λ i k1 well. run_typed p _ all s r h ls i w k1 good ext v well);
    agains = λ h line ls w y k good ext v t. all.agains s r h line ls w y k good ext v t;
    begins = λ h line ls w y k a good ext v t flow. flow;
  }

  pub kept : (s : Scope) (r : Datum) (h : List Object) (a : Flow World) → WorldFlow p s r h a → KeepsHeap p h a
  kept s r h (goes_on ls w k) (goes_on_typed _ _ _ good ext v) = goes_on_kept ls w k good.heap ext
  kept s r h (gives_back u w k) (gives_back_typed _ _ _ ty good ext e t) = gives_back_kept u w k good.heap ext
  kept s r h (stops t w) (stops_typed _ _ good ext) = stops_kept t w good.heap ext
  kept s r h (runs_out w) (runs_out_typed _ good ext) = runs_out_kept w good.heap ext

  -- the body of an operation on a typed receiver and arguments
  operation_body : (o : Operations) → OperationsTyped p o → (n r : ℕ) (vs : List Datum) (w : World) (k : ℕ) → TypedHeap p w.heap → (m : Option PlainMethod) → slice_get p.ops n ≡ m → CallTyped w.heap m r vs → KeepsHeap p w.heap (exec_all (operation_parts p o (Ref r)) (locals_of m vs) w (body_of m) k)
  operation_body o all n r vs w k t None e c = absurd c
  operation_body o all n r vs w k t (Some m) e c =
      let mt : OperationTyped p m = typed.ops n m e in
      let mm : MethodTyped p m = mt.method in
      kept (scope_of m) (Ref r) w.heap _
      (all_exec_typed heap_of (WorldTyped p (scope_of m) (Ref r)) p (scope_of m) (operation_parts p o (Ref r)) (parts_typed o all (scope_of m) (Ref r)) w.heap m.body.statements mm.body _ w k
      (record { heap = t; receiver = c.0 }) (extends_self w.heap) (frame_typed w.heap vs m.params m.body.locals c.1))

  pub operations_typed : (n : ℕ) → OperationsTyped p (operations n p)
  operations_typed zero = record {
    invokes = λ i w k t well. runs_out_kept w t (extends_self w.heap);
    agains = λ s r h line ls w x k good ext v t. runs_out_typed w good ext;
  }
  operations_typed (suc n) =
      let all : OperationsTyped p (operations n p) = operations_typed n in
      record {
        invokes = λ i w k t well. operation_body (operations n p) all i.op.0 i.receiver i.arguments w k t (slice_get p.ops i.op.0) refl well;
        agains = λ s r h line ls w x k good ext v t. turn_typed heap_of (WorldTyped p s r) p s (operation_parts p (operations n p) r) (parts_typed (operations n p) all s r) h x t line ls w k good ext v;
      }

  pub all_operations_typed : OperationsTyped p (operations_of p)
  all_operations_typed = record {
    invokes = λ i w k t well. (operations_typed (suc k)).invokes i w k t well;
    agains = λ s r h line ls w x k good ext v t. (operations_typed (suc k)).agains s r h line ls w x k good ext v t;
  }

  pub serial_parts_typed : (s : Scope) (r : Datum) → PartsTyped heap_of (WorldTyped p s r) p s (serial_parts p r)
  serial_parts_typed s r = parts_typed (operations_of p) all_operations_typed s r

  -- a statement of an operation or of `main`
  pub statement_typed : (s : Scope) (r : Datum) (line : ℕ) (ls : List Datum) (w : World) (y : Statement) (k : ℕ) → WorldTyped p s r w → ValuesTyped w.heap ls s.locals → StatementTyped p s y → WorldFlow p s r w.heap (exec (serial_parts p r) line ls w y k)
  statement_typed s r line ls w y k good v t = exec_typed heap_of (WorldTyped p s r) p s (serial_parts p r) (serial_parts_typed s r) w.heap y t line ls w k good (extends_self w.heap) v

  call_keeps : (ls : List Datum) (i : Invocation) (w : World) (k : ℕ) → TypedHeap p w.heap → WellTyped p w.heap i → KeepsHeap p w.heap (run_call (operations_of p) ls i w k)
  call_keeps ls i w zero t well = runs_out_kept w t (extends_self w.heap)
  call_keeps ls i w (suc k) t well = back ((operations_of p).invoke i w k) (all_operations_typed.invokes i w k t well)
    where
      back : (a : Flow World) → KeepsHeap p w.heap a → KeepsHeap p w.heap (came_back ls a)
      back (goes_on _ v j) (goes_on_kept _ _ _ u ext) = goes_on_kept ls v j u ext
      back (gives_back _ v j) (gives_back_kept _ _ _ u ext) = runs_out_kept v u ext
      back (stops x v) (stops_kept _ _ u ext) = stops_kept x v u ext
      back (runs_out v) (runs_out_kept _ u ext) = runs_out_kept v u ext

  -- operations run in order, each well typed
  pub serial_ops_keep : (is : List Invocation) (w : World) (k : ℕ) → TypedHeap p w.heap → AllWellTyped p w.heap is → KeepsHeap p w.heap (serial_ops p is w k)
  serial_ops_keep [] w k t well = goes_on_kept [] w k t (extends_self w.heap)
  serial_ops_keep (i ∷ is) w k t well = next (run_call (operations_of p) [] i w k) (call_keeps [] i w k t well.0) (λ v j u all. serial_ops_keep is v j u all)
    where
      next : (a : Flow World) → KeepsHeap p w.heap a → ((v : World) (j : ℕ) → TypedHeap p v.heap → AllWellTyped p v.heap is → KeepsHeap p v.heap (serial_ops p is v j)) → KeepsHeap p w.heap (and_on a (λ ls v j. serial_ops p is v j))
      next (goes_on ls v j) (goes_on_kept _ _ _ u ext) rest = further p w.heap v.heap ext _ (rest v j u (well_kept p w.heap v.heap ext is well.1))
      next (gives_back x v j) (gives_back_kept _ _ _ u ext) rest = gives_back_kept x v j u ext
      next (stops x v) (stops_kept _ _ u ext) rest = stops_kept x v u ext
      next (runs_out v) (runs_out_kept _ u ext) rest = runs_out_kept v u ext

  -- the whole run of `main`
  pub main_typed : (k : ℕ) → WorldFlow p (main_scope p) Null [] (main_run p k)
  main_typed k =
      all_exec_typed heap_of (WorldTyped p (main_scope p) Null) p (main_scope p) (serial_parts p Null) (serial_parts_typed (main_scope p) Null) [] p.main.statements typed.main _ (record { heap = []; prints = []; notes = [] }) k
      (record { heap = tt; receiver = tt }) (extends_self []) (starts_typed [] p.main.locals)
