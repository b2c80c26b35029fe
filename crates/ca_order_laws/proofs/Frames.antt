-- Operations of the extent that run change written fields alone.
use Rattle.std.proofs.Common.{◌≡◌, ℕ, zero, suc, List, [], ◌∷◌, Option, Some, None, refl, sym, subst, ◌∙◌, ◌+◌, true, false}
use Rattle.std.specs.Prelude.{slice_get, slice_set, Contains}
use Rattle.std.proofs.lemmas.List.Elements.{Contains-push, Contains-append_left, Contains-append_right}
use Rattle.ca_program.specs.declared.program.ClassId.{ClassId}
use Rattle.ca_program.specs.declared.program.FieldId.{FieldId}
use Rattle.ca_program.specs.declared.program.OpId.{OpId}
use Rattle.ca_program.specs.declared.program.ValueType.{ValueType}
use Rattle.ca_program.specs.declared.program.ValueType.TheVariants.{Bool as BoolType}
use Rattle.ca_program.specs.Plain.{PlainProgram, PlainMethod, Expression, Statement, Statements, block, put_local, put_field, put_item, new_local, new_field, new_item, invoke, if_else, while_loop, for_loop, return_value, print_value, no_statements, statement_and}
use Rattle.ca_model.specs.declared.value.Value.{Value as Datum}
use Rattle.ca_model.specs.declared.value.Value.TheVariants.{Long, Bool as Truth, Null, Ref}
use Rattle.ca_model.specs.declared.value.Object.{Object}
use Rattle.ca_model.specs.Heaps.{created}
use Rattle.ca_model.specs.Typed.{IsOfClass, HasType, TypedHeap}
use Rattle.ca_meaning.specs.Expressions.{Out, gives, traps, over, value_at, eval, Invocation, slot_of}
use Rattle.ca_meaning.specs.Flows.{Flow, goes_on, gives_back, stops, runs_out, and_on, with, choose, Parts, line_of, turn_of, exec, exec_all, turn}
use Rattle.ca_meaning.specs.Operators.{assigned}
use Rattle.ca_meaning.specs.Functions.{place, body_of, locals_of, functions_of, value_in}
use Rattle.ca_meaning.specs.Serial.{World, in_heap, printed, put_own, own_value, own_item_at, room_for, Operations, came_back, run_call, operation_act, operation_parts, operations, operations_of, serial_ops}
use Rattle.ca_meaning.specs.WellTyped.{ValuesTyped, CallTyped, WellTyped, AllWellTyped}
use Rattle.ca_meaning.specs.ProgramTyped.{Scope, ExpressionTyped, StatementTyped, StatementsTyped, scope_of, MethodTyped, OperationTyped, ProgramTyped}
use Rattle.ca_meaning_laws.specs.Budgets.{on_with, Reaches}
use Rattle.ca_meaning_laws.specs.Typed.{Yields, yields, yields_trap, yields_over, Extends, IsReceiver, FlowTyped, goes_on_typed, gives_back_typed, stops_typed, runs_out_typed, KeepsHeap, goes_on_kept, gives_back_kept, stops_kept, runs_out_kept, WorldTyped, heap_of}
use Rattle.ca_meaning_laws.proofs.Values.{assigned_typed, frame_typed, local_typed, local_set}
use Rattle.ca_meaning_laws.proofs.Heaps.{extends_self, extends_then, extends_created, values_kept, receiver_kept}
use Rattle.ca_meaning_laws.proofs.Evals.{eval_typed, due_typed}
use Rattle.ca_meaning_laws.proofs.Statements.{typed_with, typed_step, typed_on}
use Rattle.ca_meaning_laws.proofs.FunctionTypes.{calls_typed, serial_place}
use Rattle.ca_meaning_laws.proofs.SerialTypes.{receiver_at, well_kept, act_typed}
use Rattle.ca_parallel.specs.Extents.{operation_body}
use Rattle.ca_parallel.specs.Lists.{world_after}
use Rattle.ca_order_laws.proofs.Likes.{Like}
use Rattle.ca_order_laws.proofs.Puts.{put_like}
use Rattle.ca_order_laws.proofs.Kept.{IsKept, AreKept}
use Rattle.ca_order_laws.proofs.Grown.{due_calls}

pub like_self : (written : List FieldId) (h : List Object) → Like written h h
like_self written h = record { slots = λ n f a b. refl }

pub like_then : (written : List FieldId) (h g w : List Object) → Extends h g → Like written h g → Like written g w → Like written h w
like_then written h g w ext a b = record { slots = λ n f there free. a.slots n f there free ∙ b.slots n f (ext.keeps n f.class there) free }

put_own_like : (written : List FieldId) (h : List Object) (r : Datum) (f : FieldId) (i : ℕ) (v : Datum) → Contains written f → IsReceiver h (Some f.class) r → Like written h (put_own h r f i v)
put_own_like written h (Ref n) f i v at there = put_like written h n f i v at there
put_own_like written h (Long n) f i v at there = absurd there
put_own_like written h (Truth n) f i v at there = absurd there
put_own_like written h Null f i v at there = absurd there

-- a new object leaves those that are there as they are
created_like : (written : List FieldId) (p : PlainProgram) (c : ClassId) (h : List Object) → Like written h (created p c h)
created_like written p c h = record { slots = λ n f there free. from h n f there }
  where
    from : (h : List Object) (n : ℕ) (f : FieldId) → IsOfClass (slice_get h n) f.class → slot_of h n f ≡ slot_of (created p c h) n f
    from [] n f there = absurd there
    from (o ∷ h) zero f there = refl
    from (o ∷ h) (suc n) f there = from h n f there

both_yield : {A : Type 0} (P Q : A → Type 0) (o : Out A) → Yields P o → Yields Q o → Yields (λ v. P v × Q v) o
both_yield P Q (gives v k) (yields _ _ a) (yields _ _ b) = yields v k (a, b)
both_yield P Q (traps t) a b = yields_trap t
both_yield P Q over a b = yields_over

module _ (p : PlainProgram) (program : ProgramTyped p) (written : List FieldId) (ops : List OpId) (bodies : (op : OpId) → Contains ops op → AreKept written ops (operation_body p op)) (h0 : List Object) where
  abbrev Good : Scope → Datum → World → Type 0
  Good s r w = WorldTyped p s r w × Like written h0 w.heap

  abbrev Framed : Scope → Datum → List Object → Flow World → Type 0
  Framed s r h a = FlowTyped heap_of (Good s r) s h a

  -- what a run of operations keeps
  pub record Kept (h : List Object) (a : Flow World) : Type 0 where
    pub heap : KeepsHeap p h a
    pub like : Like written h0 (world_after a).heap

  -- the heap at the end differs in written fields alone
  record LikeAfter (a : Flow World) : Type 0 where
    like : Like written h0 (world_after a).heap

  like_with : {A : Type 0} (o : Out A) (w : World) (g : A → ℕ → Flow World) → Like written h0 w.heap → ((v : A) (k : ℕ) → LikeAfter (g v k)) → LikeAfter (with o w g)
  like_with (gives v k) w g at f = f v k
  like_with (traps t) w g at f = record { like = at }
  like_with over w g at f = record { like = at }

  record OpsFramed (o : Operations) : Type 0 where
    invokes : (i : Invocation) (w : World) (k : ℕ) → Contains ops i.op → TypedHeap p w.heap → Extends h0 w.heap → Like written h0 w.heap → WellTyped p w.heap i → Kept w.heap (o.invoke i w k)
    agains : (s : Scope) (r : Datum) (h : List Object) (line : ℕ) (ls : List Datum) (w : World) (y : Statement) (k : ℕ) → Extends h0 h → Good s r w → Extends h w.heap → ValuesTyped w.heap ls s.locals → StatementTyped p s y → IsKept written ops y → Framed s r h (o.again r line ls w y k)

  paired : (s : Scope) (r : Datum) (h : List Object) (a : Flow World) → FlowTyped heap_of (WorldTyped p s r) s h a → Like written h0 (world_after a).heap → Framed s r h a
  paired s r h (goes_on ls w k) (goes_on_typed _ _ _ good ext v) like = goes_on_typed ls w k (good, like) ext v
  paired s r h (gives_back u w k) (gives_back_typed _ _ _ ty good ext e t) like = gives_back_typed u w k ty (good, like) ext e t
  paired s r h (stops t w) (stops_typed _ _ good ext) like = stops_typed t w (good, like) ext
  paired s r h (runs_out w) (runs_out_typed _ good ext) like = runs_out_typed w (good, like) ext

  framed_choose : (s : Scope) (r : Datum) (h : List Object) (v : Datum) (a b : Flow World) → Framed s r h a → Framed s r h b → Framed s r h (choose v a b)
  framed_choose s r h (Truth true) a b x y = x
  framed_choose s r h (Truth false) a b x y = y
  framed_choose s r h (Long n) a b x y = y
  framed_choose s r h (Ref n) a b x y = y
  framed_choose s r h Null a b x y = y

  came_framed : (s : Scope) (r : Datum) (h : List Object) (w : World) (ls : List Datum) → Good s r w → Extends h w.heap → ValuesTyped w.heap ls s.locals → (a : Flow World) → Kept w.heap a → Framed s r h (came_back ls a)
  came_framed s r h w ls good ext vs a kept = from a kept.heap kept.like
    where
      moved : (v : World) → TypedHeap p v.heap → Extends w.heap v.heap → WorldTyped p s r v
      moved v t more = record { heap = t; receiver = receiver_kept w.heap v.heap more s.class r good.0.receiver }

      from : (a : Flow World) → KeepsHeap p w.heap a → Like written h0 (world_after a).heap → Framed s r h (came_back ls a)
      from (goes_on _ v k) (goes_on_kept _ _ _ t more) like = goes_on_typed ls v k (moved v t more, like) (extends_then h w.heap v.heap ext more) (values_kept w.heap v.heap more ls s.locals vs)
      from (gives_back _ v k) (gives_back_kept _ _ _ t more) like = runs_out_typed v (moved v t more, like) (extends_then h w.heap v.heap ext more)
      from (stops u v) (stops_kept _ _ t more) like = stops_typed u v (moved v t more, like) (extends_then h w.heap v.heap ext more)
      from (runs_out v) (runs_out_kept _ t more) like = runs_out_typed v (moved v t more, like) (extends_then h w.heap v.heap ext more)

  module _ (o : Operations) (all : OpsFramed o) (s : Scope) (r : Datum) (h : List Object) (base : Extends h0 h) where
    abbrev wp : Parts World
    wp = operation_parts p o r

    value : (w : World) (line : ℕ) (ls : List Datum) (e : Expression) (ty : ValueType) (k : ℕ) → Good s r w → ValuesTyped w.heap ls s.locals → ExpressionTyped p s e ty → Yields (λ v. HasType w.heap v ty) (eval (functions_of p.functions w.heap).call (place w.heap r line ls) e k)
    value w line ls e ty k good v t = eval_typed p s (place w.heap r line ls) (functions_of p.functions w.heap).call (calls_typed p program w.heap good.0.heap) (serial_place p w.heap s r line ls good.0.heap good.0.receiver v) e ty t k

    put_stays : (w : World) (f : FieldId) (i : ℕ) (v : Datum) → Good s r w → Extends h w.heap → Contains written f → s.class ≡ Some f.class → Like written h0 (put_own w.heap r f i v)
    put_stays w f i v good ext at e = like_then written h0 w.heap _ (extends_then h0 h w.heap base ext) good.1 (put_own_like written w.heap r f i v at (receiver_at w.heap s.class r f.class good.0.receiver e))

    -- a new object, and then a put of it
    new_stays : (w : World) (c : ClassId) → Good s r w → Extends h w.heap → Like written h0 (created p c w.heap)
    new_stays w c good ext = like_then written h0 w.heap _ (extends_then h0 h w.heap base ext) good.1 (created_like written p c w.heap)

    new_put_stays : (w : World) (c : ClassId) (f : FieldId) (i n : ℕ) → Good s r w → Extends h w.heap → Contains written f → s.class ≡ Some f.class → Like written h0 (put_own (created p c w.heap) r f i (Ref n))
    new_put_stays w c f i n good ext at e =
        let more : Extends w.heap (created p c w.heap) = extends_created p c w.heap in
        let from : Extends h0 (created p c w.heap) = extends_then h0 w.heap (created p c w.heap) (extends_then h0 h w.heap base ext) more in
        like_then written h0 (created p c w.heap) _ from (new_stays w c good ext)
        (put_own_like written (created p c w.heap) r f i (Ref n) at (receiver_kept w.heap (created p c w.heap) more (Some f.class) r (receiver_at w.heap s.class r f.class good.0.receiver e)))

    act_like : (y : Statement) → StatementTyped p s y → IsKept written ops y → (line : ℕ) (ls : List Datum) (w : World) (k : ℕ) → Good s r w → Extends h w.heap → LikeAfter (operation_act p r line ls w y k)
    act_like (put_field l f op e) t kept line ls w k good ext =
        like_with {A = Datum} (value_in p.functions w.heap r line ls e k) w (λ v k. goes_on ls (in_heap w (put_own w.heap r f 0 (assigned op (own_value w r f) v))) k) good.1 (λ v k. record { like = put_stays w f 0 (assigned op (own_value w r f) v) good ext kept t.1.1 })
    act_like (put_item l f i op e) t kept line ls w k good ext =
        like_with {A = Datum} (value_in p.functions w.heap r line ls i k) w (λ u k. with (own_item_at line w r f u k) w (λ item k. with (value_in p.functions w.heap r line ls e k) w (λ v k. goes_on ls (in_heap w (put_own w.heap r f item.place (assigned op item.value v))) k))) good.1
        (λ u k. like_with (own_item_at line w r f u k) w (λ item k. with (value_in p.functions w.heap r line ls e k) w (λ v k. goes_on ls (in_heap w (put_own w.heap r f item.place (assigned op item.value v))) k)) good.1
        (λ item k. like_with {A = Datum} (value_in p.functions w.heap r line ls e k) w (λ v k. goes_on ls (in_heap w (put_own w.heap r f item.place (assigned op item.value v))) k) good.1
        (λ v k. record { like = put_stays w f item.place (assigned op item.value v) good ext kept t.1.1 })))
    act_like (print_value l e) t kept line ls w k good ext = like_with {A = Datum} (value_in p.functions w.heap r line ls e k) w (λ v k. goes_on ls (printed w v) k) good.1 (λ v k. record { like = good.1 })
    act_like (new_local l i c) t kept line ls w k good ext = like_with (room_for p line w.heap c k) w (λ n k. goes_on (slice_set ls i.0 (Ref n)) (in_heap w (created p c w.heap)) k) good.1 (λ n k. record { like = new_stays w c good ext })
    act_like (new_field l f c) t kept line ls w k good ext =
        like_with (room_for p line w.heap c k) w (λ n k. goes_on ls (in_heap w (put_own (created p c w.heap) r f 0 (Ref n))) k) good.1 (λ n k. record { like = new_put_stays w c f 0 n good ext kept t.0.1 })
    act_like (new_item l f i c) t kept line ls w k good ext =
        like_with {A = Datum} (value_in p.functions w.heap r line ls i k) w (λ v k. with (own_item_at line w r f v k) w (λ item k. with (room_for p line w.heap c k) w (λ n k. goes_on ls (in_heap w (put_own (created p c w.heap) r f item.place (Ref n))) k))) good.1
        (λ v k. like_with (own_item_at line w r f v k) w (λ item k. with (room_for p line w.heap c k) w (λ n k. goes_on ls (in_heap w (put_own (created p c w.heap) r f item.place (Ref n))) k)) good.1
        (λ item k. like_with (room_for p line w.heap c k) w (λ n k. goes_on ls (in_heap w (put_own (created p c w.heap) r f item.place (Ref n))) k) good.1
        (λ n k. record { like = new_put_stays w c f item.place n good ext kept t.0.1 })))
    act_like (block l ss) t kept line ls w k good ext = record { like = good.1 }
    act_like (put_local l i op e) t kept line ls w k good ext = record { like = good.1 }
    act_like (invoke l e op es) t kept line ls w k good ext = record { like = good.1 }
    act_like (if_else l c a b) t kept line ls w k good ext = record { like = good.1 }
    act_like (while_loop l c b) t kept line ls w k good ext = record { like = good.1 }
    act_like (for_loop l site part first c next b) t kept line ls w k good ext = record { like = good.1 }
    act_like (return_value l e) t kept line ls w k good ext = record { like = good.1 }

    act_framed : (y : Statement) → StatementTyped p s y → IsKept written ops y → (line : ℕ) (ls : List Datum) (w : World) (k : ℕ) → Good s r w → Extends h w.heap → ValuesTyped w.heap ls s.locals → Framed s r h (operation_act p r line ls w y k)
    act_framed y t kept line ls w k good ext v = paired s r h _ (act_typed p program s r h line ls w y k good.0 ext v t) (act_like y t kept line ls w k good ext).like

    turn_of_framed : (c : Expression) (f : List Datum → World → ℕ → Flow World) (loop : Statement) (line : ℕ) (ls : List Datum) (w : World) (k : ℕ) → Good s r w → Extends h w.heap → ValuesTyped w.heap ls s.locals → ExpressionTyped p s c BoolType → StatementTyped p s loop → IsKept written ops loop → ((ls : List Datum) (w : World) (k : ℕ) → Good s r w → Extends h w.heap → ValuesTyped w.heap ls s.locals → Framed s r h (f ls w k)) → Framed s r h (turn_of wp c f loop line ls w k)
    turn_of_framed c f loop line ls w k good ext t tc tl kept body =
        typed_with heap_of (Good s r) s (λ v. HasType w.heap v BoolType) h (wp.value line ls w c k) w _ good ext (value w line ls c BoolType k good t tc)
        (λ v k1 hv. framed_choose s r h v _ _
        (typed_step heap_of (Good s r) s h w k1 _ good ext (λ j. typed_on heap_of (Good s r) s h (f ls w j) _ (body ls w j good ext t) (λ ls2 x2 k2 good2 ext2 t2. all.agains s r h line ls2 x2 loop k2 base good2 ext2 t2 tl kept)))
        (goes_on_typed ls w k1 good ext t))

    mutual
      exec_framed : (y : Statement) → StatementTyped p s y → IsKept written ops y → (line : ℕ) (ls : List Datum) (w : World) (k : ℕ) → Good s r w → Extends h w.heap → ValuesTyped w.heap ls s.locals → Framed s r h (exec wp line ls w y k)
      exec_framed (block l ss) ty kept line ls w k good ext t = all_exec_framed ss ty kept ls w k good ext t
      exec_framed (put_local l i op e) ty kept line ls w k good ext t =
          typed_with heap_of (Good s r) s (λ v. HasType w.heap v ty.0) h (wp.value line ls w e k) w _ good ext (value w line ls e ty.0 k good t ty.2.1)
          (λ v k1 hv. goes_on_typed _ w k1 good ext (local_set w.heap ls s.locals i.0 _ ty.0 t ty.1 (assigned_typed w.heap op (value_at ls i.0) v ty.0 ty.2.0 (local_typed w.heap ls s.locals i.0 ty.0 t ty.1) hv)))
      exec_framed (if_else l c a b) ty kept line ls w k good ext t =
          typed_with heap_of (Good s r) s (λ v. HasType w.heap v BoolType) h (wp.value line ls w c k) w _ good ext (value w line ls c BoolType k good t ty.0)
          (λ v k1 hv. framed_choose s r h v _ _ (exec_framed a ty.1 kept.0 (line_of a) ls w k1 good ext t) (exec_framed b ty.2 kept.1 (line_of b) ls w k1 good ext t))
      exec_framed (while_loop l c b) ty kept line ls w k good ext t =
          turn_of_framed c _ (while_loop l c b) line ls w k good ext t ty.0 ty kept (λ ls w k good ext t. exec_framed b ty.1 kept (line_of b) ls w k good ext t)
      exec_framed (for_loop l site part first c next b) ty kept line ls w k good ext t =
          typed_on heap_of (Good s r) s h (exec wp line ls w first k) _ (exec_framed first ty.0 kept.0 line ls w k good ext t) (λ ls1 x1 k1 good1 ext1 t1.
          turn_of_framed c _ (for_loop l site part first c next b) line ls1 x1 k1 good1 ext1 t1 ty.1 ty kept (λ ls w k good ext t.
          typed_on heap_of (Good s r) s h (exec wp (line_of b) ls w b k) _ (exec_framed b ty.3 kept.2 (line_of b) ls w k good ext t) (λ ls2 x2 k2 good2 ext2 t2. exec_framed next ty.2 kept.1 line ls2 x2 k2 good2 ext2 t2)))
      exec_framed (return_value l e) ty kept line ls w k good ext t =
          typed_with heap_of (Good s r) s (λ v. HasType w.heap v ty.0) h (wp.value line ls w e k) w _ good ext (value w line ls e ty.0 k good t ty.2)
          (λ v k1 hv. gives_back_typed v w k1 ty.0 good ext ty.1 hv)
      exec_framed (invoke l e op es) ty kept line ls w k good ext t =
          typed_with heap_of (Good s r) s (λ i. WellTyped p w.heap i × (i.op ≡ op)) h _ w _ good ext
          (both_yield _ _ _ (due_typed p s (place w.heap r line ls) (functions_of p.functions w.heap).call (calls_typed p program w.heap good.0.heap) (serial_place p w.heap s r line ls good.0.heap good.0.receiver t) e op es ty.0 ty.1 ty.3 ty.4 ty.5 k) (due_calls (functions_of p.functions w.heap).call (place w.heap r line ls) e op es k))
          (λ i k1 well. typed_step heap_of (Good s r) s h w k1 _ good ext (λ j. came_framed s r h w ls good ext t (o.invoke i w j) (all.invokes i w j (subst (λ z. Contains ops z) (sym well.1) kept) good.0.heap (extends_then h0 h w.heap base ext) good.1 well.0)))
      exec_framed (put_field l f op e) ty kept line ls w k good ext t = act_framed (put_field l f op e) ty kept line ls w k good ext t
      exec_framed (put_item l f i op e) ty kept line ls w k good ext t = act_framed (put_item l f i op e) ty kept line ls w k good ext t
      exec_framed (new_local l i c) ty kept line ls w k good ext t = act_framed (new_local l i c) ty kept line ls w k good ext t
      exec_framed (new_field l f c) ty kept line ls w k good ext t = act_framed (new_field l f c) ty kept line ls w k good ext t
      exec_framed (new_item l f i c) ty kept line ls w k good ext t = act_framed (new_item l f i c) ty kept line ls w k good ext t
      exec_framed (print_value l e) ty kept line ls w k good ext t = act_framed (print_value l e) ty kept line ls w k good ext t

      all_exec_framed : (ys : Statements) → StatementsTyped p s ys → AreKept written ops ys → (ls : List Datum) (w : World) (k : ℕ) → Good s r w → Extends h w.heap → ValuesTyped w.heap ls s.locals → Framed s r h (exec_all wp ls w ys k)
      all_exec_framed no_statements ty kept ls w k good ext t = goes_on_typed ls w k good ext t
      all_exec_framed (statement_and y rest) ty kept ls w k good ext t =
          typed_on heap_of (Good s r) s h (exec wp (line_of y) ls w y k) _ (exec_framed y ty.0 kept.0 (line_of y) ls w k good ext t) (λ ls1 x1 k1 good1 ext1 t1. all_exec_framed rest ty.1 kept.1 ls1 x1 k1 good1 ext1 t1)

    turn_framed : (y : Statement) → StatementTyped p s y → IsKept written ops y → (line : ℕ) (ls : List Datum) (w : World) (k : ℕ) → Good s r w → Extends h w.heap → ValuesTyped w.heap ls s.locals → Framed s r h (turn wp line ls w y k)
    turn_framed (while_loop l c b) ty kept line ls w k good ext t = exec_framed (while_loop l c b) ty kept line ls w k good ext t
    turn_framed (for_loop l site part first c next b) ty kept line ls w k good ext t =
        turn_of_framed c _ (for_loop l site part first c next b) line ls w k good ext t ty.1 ty kept (λ ls w k good ext t.
        typed_on heap_of (Good s r) s h (exec wp (line_of b) ls w b k) _ (exec_framed b ty.3 kept.2 (line_of b) ls w k good ext t) (λ ls2 x2 k2 good2 ext2 t2. exec_framed next ty.2 kept.1 line ls2 x2 k2 good2 ext2 t2))
    turn_framed (block l ss) ty kept line ls w k good ext t = goes_on_typed ls w k good ext t
    turn_framed (put_local l i op e) ty kept line ls w k good ext t = goes_on_typed ls w k good ext t
    turn_framed (if_else l c a b) ty kept line ls w k good ext t = goes_on_typed ls w k good ext t
    turn_framed (return_value l e) ty kept line ls w k good ext t = goes_on_typed ls w k good ext t
    turn_framed (invoke l e op es) ty kept line ls w k good ext t = goes_on_typed ls w k good ext t
    turn_framed (put_field l f op e) ty kept line ls w k good ext t = goes_on_typed ls w k good ext t
    turn_framed (put_item l f i op e) ty kept line ls w k good ext t = goes_on_typed ls w k good ext t
    turn_framed (new_local l i c) ty kept line ls w k good ext t = goes_on_typed ls w k good ext t
    turn_framed (new_field l f c) ty kept line ls w k good ext t = goes_on_typed ls w k good ext t
    turn_framed (new_item l f i c) ty kept line ls w k good ext t = goes_on_typed ls w k good ext t
    turn_framed (print_value l e) ty kept line ls w k good ext t = goes_on_typed ls w k good ext t

  framed_kept : (s : Scope) (r : Datum) (h : List Object) (a : Flow World) → Framed s r h a → Kept h a
  framed_kept s r h (goes_on ls w k) (goes_on_typed _ _ _ good ext v) = record { heap = goes_on_kept ls w k good.0.heap ext; like = good.1 }
  framed_kept s r h (gives_back u w k) (gives_back_typed _ _ _ ty good ext e t) = record { heap = gives_back_kept u w k good.0.heap ext; like = good.1 }
  framed_kept s r h (stops t w) (stops_typed _ _ good ext) = record { heap = stops_kept t w good.0.heap ext; like = good.1 }
  framed_kept s r h (runs_out w) (runs_out_typed _ good ext) = record { heap = runs_out_kept w good.0.heap ext; like = good.1 }

  body_framed : (o : Operations) → OpsFramed o → (n r : ℕ) (vs : List Datum) (w : World) (k : ℕ) → TypedHeap p w.heap → Extends h0 w.heap → Like written h0 w.heap → (m : Option PlainMethod) → slice_get p.ops n ≡ m → AreKept written ops (body_of m) → CallTyped w.heap m r vs → Kept w.heap (exec_all (operation_parts p o (Ref r)) (locals_of m vs) w (body_of m) k)
  body_framed o all n r vs w k t base like None e kept c = absurd c
  body_framed o all n r vs w k t base like (Some m) e kept c =
      let mt : OperationTyped p m = program.ops n m e in
      let mm : MethodTyped p m = mt.method in
      framed_kept (scope_of m) (Ref r) w.heap _
      (all_exec_framed o all (scope_of m) (Ref r) w.heap base m.body.statements mm.body kept (locals_of (Some m) vs) w k (record { heap = t; receiver = c.0 }, like) (extends_self w.heap) (frame_typed w.heap vs m.params m.body.locals c.1))

  operations_framed : (n : ℕ) → OpsFramed (operations n p)
  operations_framed zero = record {
    invokes = λ i w k at t base like well. record { heap = runs_out_kept w t (extends_self w.heap); like = like };
    agains = λ s r h line ls w y k base good ext v t kept. runs_out_typed w good ext;
  }
  operations_framed (suc n) =
      let all : OpsFramed (operations n p) = operations_framed n in
      record {
        invokes = λ i w k at t base like well. body_framed (operations n p) all i.op.0 i.receiver i.arguments w k t base like (slice_get p.ops i.op.0) refl (bodies i.op at) well;
        agains = λ s r h line ls w y k base good ext v t kept. turn_framed (operations n p) all s r h base y t kept line ls w k good ext v;
      }

  calls_kept : (ls : List Datum) (i : Invocation) (w : World) (k : ℕ) → Contains ops i.op → TypedHeap p w.heap → Extends h0 w.heap → Like written h0 w.heap → WellTyped p w.heap i → Kept w.heap (run_call (operations_of p) ls i w k)
  calls_kept ls i w zero at t base like well = record { heap = runs_out_kept w t (extends_self w.heap); like = like }
  calls_kept ls i w (suc k) at t base like well =
      let a : Kept w.heap ((operations_of p).invoke i w k) = (operations_framed (suc k)).invokes i w k at t base like well in
      back ((operations_of p).invoke i w k) a.heap a.like
    where
      back : (a : Flow World) → KeepsHeap p w.heap a → Like written h0 (world_after a).heap → Kept w.heap (came_back ls a)
      back (goes_on _ v j) (goes_on_kept _ _ _ u ext) like = record { heap = goes_on_kept ls v j u ext; like = like }
      back (gives_back _ v j) (gives_back_kept _ _ _ u ext) like = record { heap = runs_out_kept v u ext; like = like }
      back (stops x v) (stops_kept _ _ u ext) like = record { heap = stops_kept x v u ext; like = like }
      back (runs_out v) (runs_out_kept _ u ext) like = record { heap = runs_out_kept v u ext; like = like }

  -- operations of the extent that run in order
  pub serial_keeps : (is : List Invocation) → ((i : Invocation) → Contains is i → Contains ops i.op) → (w : World) (k : ℕ) → TypedHeap p w.heap → Extends h0 w.heap → Like written h0 w.heap → AllWellTyped p w.heap is → Kept w.heap (serial_ops p is w k)
  serial_keeps [] inside w k t base like well = record { heap = goes_on_kept [] w k t (extends_self w.heap); like = like }
  serial_keeps (i ∷ is) inside w k t base like well =
      let a : Kept w.heap (run_call (operations_of p) [] i w k) = calls_kept [] i w k (inside i (Contains-append_left (i ∷ []) is i (Contains-push [] i))) t base like well.0 in
      next (run_call (operations_of p) [] i w k) a.heap a.like (λ v j u ext like. serial_keeps is (λ q c. inside q (Contains-append_right (i ∷ []) is q c)) v j u (extends_then h0 w.heap v.heap base ext) like (well_kept p w.heap v.heap ext is well.1))
    where
      further : (v : World) → Extends w.heap v.heap → (a : Flow World) → KeepsHeap p v.heap a → KeepsHeap p w.heap a
      further v more (goes_on ls u k) (goes_on_kept _ _ _ t ext) = goes_on_kept ls u k t (extends_then w.heap v.heap u.heap more ext)
      further v more (gives_back x u k) (gives_back_kept _ _ _ t ext) = gives_back_kept x u k t (extends_then w.heap v.heap u.heap more ext)
      further v more (stops x u) (stops_kept _ _ t ext) = stops_kept x u t (extends_then w.heap v.heap u.heap more ext)
      further v more (runs_out u) (runs_out_kept _ t ext) = runs_out_kept u t (extends_then w.heap v.heap u.heap more ext)

      next : (a : Flow World) → KeepsHeap p w.heap a → Like written h0 (world_after a).heap → ((v : World) (j : ℕ) → TypedHeap p v.heap → Extends w.heap v.heap → Like written h0 v.heap → Kept v.heap (serial_ops p is v j)) → Kept w.heap (and_on a (λ ls v j. serial_ops p is v j))
      next (goes_on ls v j) (goes_on_kept _ _ _ u ext) like rest = let b : Kept v.heap (serial_ops p is v j) = rest v j u ext like in record { heap = further v ext _ b.heap; like = b.like }
      next (gives_back x v j) (gives_back_kept _ _ _ u ext) like rest = record { heap = gives_back_kept x v j u ext; like = like }
      next (stops x v) (stops_kept _ _ u ext) like rest = record { heap = stops_kept x v u ext; like = like }
      next (runs_out v) (runs_out_kept _ u ext) like rest = record { heap = runs_out_kept v u ext; like = like }

  -- what is so where a list of them is done
  pub record Stays (h : List Object) (v : World) : Type 0 where
    pub heap : TypedHeap p v.heap
    pub extends : Extends h v.heap
    pub like : Like written h0 v.heap

  pub serial_stays : (is : List Invocation) → ((i : Invocation) → Contains is i → Contains ops i.op) → (w v : World) (t : ℕ) → TypedHeap p w.heap → Extends h0 w.heap → Like written h0 w.heap → AllWellTyped p w.heap is → Reaches (λ k. serial_ops p is w k) (on_with [] v) t → Stays w.heap v
  serial_stays is inside w v t heap base like well run =
      let a : Kept w.heap (serial_ops p is w (t + 0)) = serial_keeps is inside w (t + 0) heap base like well in
      from (subst (λ z. Kept w.heap z) (run.at 0) a)
    where
      from : Kept w.heap (goes_on [] v 0) → Stays w.heap v
      from k = both k.heap k.like
        where
          both : KeepsHeap p w.heap (goes_on [] v 0) → Like written h0 v.heap → Stays w.heap v
          both (goes_on_kept _ _ _ u ext) like = record { heap = u; extends = ext; like = like }
