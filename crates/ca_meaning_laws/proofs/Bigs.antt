-- The meanings of calls and loops are steady, and a run is made of its parts' runs.
use Rattle.std.proofs.Common.{◌≡◌, ℕ, zero, suc, ◌+◌, ◌<◌, ◌≤◌, List, [], ◌∷◌, Bool, true, false, refl, ap, sym, ◌∙◌, arith, length}
use Rattle.std.specs.Prelude.{slice_get, slice_set}
use Rattle.ca_program.specs.declared.program.FunctionId.{FunctionId}
use Rattle.ca_program.specs.declared.program.OpId.{OpId}
use Rattle.ca_program.specs.Plain.{PlainProgram, PlainMethod, Expression, Expressions, Statement, Statements, block, put_local, put_field, put_item, new_local, new_field, new_item, invoke, if_else, while_loop, for_loop, return_value, print_value}
use Rattle.ca_model.specs.declared.value.Value.{Value as Datum}
use Rattle.ca_model.specs.declared.value.Value.TheVariants.{Null, Ref}
use Rattle.ca_model.specs.declared.value.Object.{Object}
use Rattle.ca_model.specs.declared.value.Trap.{Trap}
use Rattle.ca_model.specs.Heaps.{created, starts_of, is_full}
use Rattle.ca_model.specs.Slots.{put_slot}
use Rattle.ca_meaning.specs.Operators.{assigned}
use Rattle.ca_meaning.specs.Expressions.{Out, gives, take_step, one_in, Place, eval, eval_all, Invocation, due, traps}
use Rattle.ca_meaning.specs.Flows.{Flow, goes_on, gives_back, stops, runs_out, and_on, with, exec, exec_all}
use Rattle.ca_meaning.specs.Functions.{place, body_of, locals_of, value_of_body, Functions, function_parts, functions_of}
use Rattle.ca_meaning.specs.Serial.{World, in_heap, printed, put_own, unless_full, own_value, Operations, came_back, run_call, operation_act, operation_parts, operations_of, serial_parts, serial_ops}
use Rattle.ca_meaning.specs.Sections.{Section, with_own, with_listed, section_start, section_place, section_act, section_parts, loops_of, section_run, loop_run}
use Rattle.ca_meaning.proofs.Fix.{call_runs, again_runs, invoke_runs, loop_runs, section_loop_runs}
use Rattle.ca_meaning_laws.specs.Budgets.{Takes, Taken, End, on_with, back_with, flow_at, Reaches, Reached}
use Rattle.ca_meaning_laws.proofs.Steady.{Steady, steady_none, flow_none, steady_go, steady_trap, steady_indexed, eval_steady, all_steady, due_steady, SteadyFlow, flow_less, steady_same, steady_with, MidWith, mid_with, MidOn, mid_on, goes, backs, steady_on, steady_stop, steady_turn, SteadyParts, exec_steady, all_exec_steady, turn_steady}

-- ---- value methods

steady_value : {n : ℕ} (f : ℕ → Flow (Unit {0})) → SteadyFlow n f → Steady n (λ k. value_of_body (f k))
steady_value {n} f h = record {
  taken = λ k lt v j e. from k lt v j (f k) refl e;
  trapped = λ k lt t e i. trap k lt t (f k) refl e i;
}
  where
    trap : (k : ℕ) → k < n → (t : Trap) (o : Flow (Unit {0})) → f k ≡ o → value_of_body o ≡ traps t → (i : ℕ) → value_of_body (f (k + i)) ≡ traps t
    trap k lt t (goes_on ls s j) q e i = cc
    trap k lt t (gives_back w s j) q e i = cc
    trap k lt t (stops u s) q e i = ap value_of_body (h.stopped k lt u s q i) ∙ e
    trap k lt t (runs_out s) q e i = cc

    from : (k : ℕ) → k < n → (v : Datum) (j : ℕ) (o : Flow (Unit {0})) → f k ≡ o → value_of_body o ≡ gives v j → Taken (λ k. value_of_body (f k)) v k j
    from k lt v j (goes_on ls s i) q e =
        let ij : i ≡ j = cc in
        let nv : Null ≡ v = cc in
        let t : Reached f (on_with ls s) k i = h.reached k lt (on_with ls s) i q in
        let ti = t.is in
        record { s = t.s; is = omega arith; takes = record { at = λ z. ap value_of_body (t.reaches.at z) ∙ ap (λ u. gives u z) nv } }
    from k lt v j (gives_back w s i) q e =
        let ij : i ≡ j = cc in
        let nv : w ≡ v = cc in
        let t : Reached f (back_with w s) k i = h.reached k lt (back_with w s) i q in
        let ti = t.is in
        record { s = t.s; is = omega arith; takes = record { at = λ z. ap value_of_body (t.reaches.at z) ∙ ap (λ u. gives u z) nv } }
    from k lt v j (stops t s) q e = cc
    from k lt v j (runs_out s) q e = cc

record FunctionsSteady (n : ℕ) (f : Functions) : Type 0 where
  calls : (m : FunctionId) (r : ℕ) (vs : List Datum) → Steady n (λ k. f.call m r vs k)
  agains : (this : Datum) (line : ℕ) (ls : List Datum) (x : Statement) → SteadyFlow n (λ k. f.again this line ls tt x k)

out_same : {A : Type 0} {n : ℕ} (f g : ℕ → Out A) → ((k : ℕ) → f k ≡ g k) → Steady n g → Steady n f
out_same f g same h = record {
  taken = λ k lt v j q.
      let t : Taken g v k j = h.taken k lt v j (sym (same k) ∙ q) in
      record { s = t.s; is = t.is; takes = record { at = λ i. same (t.s + i) ∙ t.takes.at i } };
  trapped = λ k lt t q i. same (k + i) ∙ h.trapped k lt t (sym (same k) ∙ q) i;
}

function_parts_steady : (n : ℕ) (f : Functions) → FunctionsSteady n f → (h : List Object) (this : Datum) → SteadyParts n (function_parts f h this)
function_parts_steady n f c h this = record {
  values = λ line ls s e. eval_steady n f.call c.calls (place h this line ls) e;
  acts = λ line ls s x. steady_stop (on_with ls s);
  calls = λ line ls s e op es. steady_stop (on_with ls s);
  agains = λ line ls s x. c.agains this line ls x;
  begins = λ line ls s x f steady. steady;
}

functions_steady : (ms : List PlainMethod) (h : List Object) (n : ℕ) → FunctionsSteady n (functions_of ms h)
functions_steady ms h zero = record {
  calls = λ m r vs. steady_none _;
  agains = λ this line ls x. flow_none _;
}
functions_steady ms h (suc n) =
    let c : FunctionsSteady n (functions_of ms h) = functions_steady ms h n in
    record {
      calls = λ m r vs. out_same _ _ (λ k. call_runs ms h m r vs k) (steady_value _ (all_exec_steady n _ (function_parts_steady n _ c h (Ref r)) (body_of (slice_get ms m.0)) (locals_of (slice_get ms m.0) vs) tt));
      agains = λ this line ls x. steady_same _ _ (λ k. again_runs ms h this line ls x k) (turn_steady n _ (function_parts_steady n _ c h this) x line ls tt);
    }

pub calls_steady : (ms : List PlainMethod) (h : List Object) (m : FunctionId) (r : ℕ) (vs : List Datum) (n : ℕ) → Steady n (λ k. (functions_of ms h).call m r vs k)
calls_steady ms h m r vs n = let c : FunctionsSteady n (functions_of ms h) = functions_steady ms h n in c.calls m r vs

pub function_body_steady : (ms : List PlainMethod) (h : List Object) (this : Datum) (n : ℕ) → SteadyParts n (function_parts (functions_of ms h) h this)
function_body_steady ms h this n = function_parts_steady n _ (functions_steady ms h n) h this

pub value_steady : (ms : List PlainMethod) (h : List Object) (q : Place) (e : Expression) (n : ℕ) → Steady (suc n) (λ k. eval (functions_of ms h).call q e k)
value_steady ms h q e n = let c : FunctionsSteady n (functions_of ms h) = functions_steady ms h n in eval_steady n (functions_of ms h).call c.calls q e

pub values_steady : (ms : List PlainMethod) (h : List Object) (q : Place) (es : Expressions) (n : ℕ) → Steady (suc n) (λ k. eval_all (functions_of ms h).call q es k)
values_steady ms h q es n = let c : FunctionsSteady n (functions_of ms h) = functions_steady ms h n in all_steady n (functions_of ms h).call c.calls q es

pub dues_steady : (ms : List PlainMethod) (h : List Object) (q : Place) (e : Expression) (op : OpId) (es : Expressions) (n : ℕ) → Steady (suc n) (λ k. due (functions_of ms h).call q e op es k)
dues_steady ms h q e op es n = let c : FunctionsSteady n (functions_of ms h) = functions_steady ms h n in due_steady n (functions_of ms h).call c.calls q e op es

-- ---- operations

came_steady : {n : ℕ} (ls : List Datum) (f : ℕ → Flow World) → SteadyFlow n f → SteadyFlow n (λ k. came_back ls (f k))
came_steady {n} ls f h = record {
  reached = λ k lt e j q. from k lt e j (f k) refl q;
  stopped = λ k lt t x e i. trap k lt t x (f k) refl e i;
}
  where
    trap : (k : ℕ) → k < n → (t : Trap) (x : World) (o : Flow World) → f k ≡ o → came_back ls o ≡ stops t x → (i : ℕ) → came_back ls (f (k + i)) ≡ stops t x
    trap k lt t x (goes_on xs w j) q e i = cc
    trap k lt t x (gives_back u w j) q e i = cc
    trap k lt t x (stops u s) q e i = ap (came_back ls) (h.stopped k lt u s q i) ∙ e
    trap k lt t x (runs_out s) q e i = cc

    from : (k : ℕ) → k < n → (e : End World) (j : ℕ) (o : Flow World) → f k ≡ o → came_back ls o ≡ flow_at e j → Reached (λ k. came_back ls (f k)) e k j
    from k lt (on_with ms v) j (goes_on xs w i) q e =
        let ij : i ≡ j = cc in let wv : w ≡ v = cc in let lm : ls ≡ ms = cc in
        let t : Reached f (on_with xs w) k i = h.reached k lt (on_with xs w) i q in
        let ti = t.is in
        record { s = t.s; is = omega arith; reaches = record { at = λ z. ap (came_back ls) (t.reaches.at z) ∙ ap (λ l. goes_on l w z) lm ∙ ap (λ u. goes_on ms u z) wv } }
    from k lt (back_with ms v) j (goes_on xs w i) q e = cc
    from k lt (on_with ms v) j (gives_back u w i) q e = cc
    from k lt (back_with ms v) j (gives_back u w i) q e = cc
    from k lt (on_with ms v) j (stops t s) q e = cc
    from k lt (back_with ms v) j (stops t s) q e = cc
    from k lt (on_with ms v) j (runs_out s) q e = cc
    from k lt (back_with ms v) j (runs_out s) q e = cc

record OpsSteady (n : ℕ) (f : Operations) : Type 0 where
  invokes : (i : Invocation) (w : World) → SteadyFlow n (λ k. f.invoke i w k)
  agains : (this : Datum) (line : ℕ) (ls : List Datum) (w : World) (x : Statement) → SteadyFlow n (λ k. f.again this line ls w x k)

call_steady : (n : ℕ) (f : Operations) → OpsSteady n f → (ls : List Datum) (i : Invocation) (w : World) → SteadyFlow (suc n) (λ k. run_call f ls i w k)
call_steady n f c ls i w = steady_turn w (λ k. came_back ls (f.invoke i w k)) (came_steady ls _ (c.invokes i w))

steady_room : {m : ℕ} (full : Bool) (line n : ℕ) → Steady m (λ k. unless_full full line n k)
steady_room true line n = steady_trap _
steady_room false line n = steady_go n

pub act_steady : (p : PlainProgram) (this : Datum) (line : ℕ) (ls : List Datum) (w : World) (x : Statement) (n : ℕ) → SteadyFlow (suc n) (λ k. operation_act p this line ls w x k)
act_steady p this line ls w (put_field l f op e) n =
    steady_with _ w _ (value_steady p.functions w.heap (place w.heap this line ls) e n) (λ v. steady_stop (on_with ls (in_heap w (put_own w.heap this f 0 (assigned op (own_value w this f) v)))))
act_steady p this line ls w (put_item l f i op e) n =
    steady_with _ w _ (value_steady p.functions w.heap (place w.heap this line ls) i n) (λ v. steady_with _ w _ (steady_indexed line _ v) (λ item.
    steady_with _ w _ (value_steady p.functions w.heap (place w.heap this line ls) e n) (λ v. steady_stop (on_with ls (in_heap w (put_own w.heap this f item.place (assigned op item.value v)))))))
act_steady p this line ls w (new_local l i c) n =
    steady_with _ w _ (steady_room (is_full w.heap (starts_of p c)) line (length w.heap)) (λ r. steady_stop (on_with (slice_set ls i.0 (Ref r)) (in_heap w (created p c w.heap))))
act_steady p this line ls w (new_field l f c) n =
    steady_with _ w _ (steady_room (is_full w.heap (starts_of p c)) line (length w.heap)) (λ r. steady_stop (on_with ls (in_heap w (put_own (created p c w.heap) this f 0 (Ref r)))))
act_steady p this line ls w (new_item l f i c) n =
    steady_with _ w _ (value_steady p.functions w.heap (place w.heap this line ls) i n) (λ v. steady_with _ w _ (steady_indexed line _ v) (λ item.
    steady_with _ w _ (steady_room (is_full w.heap (starts_of p c)) line (length w.heap)) (λ r. steady_stop (on_with ls (in_heap w (put_own (created p c w.heap) this f item.place (Ref r)))))))
act_steady p this line ls w (print_value l e) n = steady_with _ w _ (value_steady p.functions w.heap (place w.heap this line ls) e n) (λ v. steady_stop (on_with ls (printed w v)))
act_steady p this line ls w (block l ss) n = steady_stop (on_with ls w)
act_steady p this line ls w (put_local l i op e) n = steady_stop (on_with ls w)
act_steady p this line ls w (invoke l e op es) n = steady_stop (on_with ls w)
act_steady p this line ls w (if_else l c a b) n = steady_stop (on_with ls w)
act_steady p this line ls w (while_loop l c b) n = steady_stop (on_with ls w)
act_steady p this line ls w (for_loop l site part first c next b) n = steady_stop (on_with ls w)
act_steady p this line ls w (return_value l e) n = steady_stop (on_with ls w)

op_parts_steady : (n : ℕ) (p : PlainProgram) (f : Operations) → OpsSteady n f → (this : Datum) → SteadyParts n (operation_parts p f this)
op_parts_steady n p f c this = record {
  values = λ line ls w e. value_steady p.functions w.heap (place w.heap this line ls) e n;
  acts = λ line ls w x. act_steady p this line ls w x n;
  calls = λ line ls w e op es. steady_with _ w _ (dues_steady p.functions w.heap (place w.heap this line ls) e op es n) (λ i. call_steady n f c ls i w);
  agains = λ line ls w x. c.agains this line ls w x;
  begins = λ line ls w x f steady. steady;
}

ops_steady : (p : PlainProgram) (n : ℕ) → OpsSteady n (operations_of p)
ops_steady p zero = record {
  invokes = λ i w. flow_none _;
  agains = λ this line ls w x. flow_none _;
}
ops_steady p (suc n) =
    let c : OpsSteady n (operations_of p) = ops_steady p n in
    record {
      invokes = λ i w. steady_same _ _ (λ k. invoke_runs p i w k) (all_exec_steady n _ (op_parts_steady n p _ c (Ref i.receiver)) (body_of (slice_get p.ops i.op.0)) (locals_of (slice_get p.ops i.op.0) i.arguments) w);
      agains = λ this line ls w x. steady_same _ _ (λ k. loop_runs p this line ls w x k) (turn_steady n _ (op_parts_steady n p _ c this) x line ls w);
    }

pub serial_parts_steady : (p : PlainProgram) (this : Datum) (n : ℕ) → SteadyParts n (serial_parts p this)
serial_parts_steady p this n = op_parts_steady n p _ (ops_steady p n) this

pub serial_call_steady : (p : PlainProgram) (ls : List Datum) (i : Invocation) (w : World) (n : ℕ) → SteadyFlow (suc n) (λ k. run_call (operations_of p) ls i w k)
serial_call_steady p ls i w n = call_steady n _ (ops_steady p n) ls i w

pub invoke_steady : (p : PlainProgram) (ls : List Datum) (i : Invocation) (w : World) (n : ℕ) → SteadyFlow (suc n) (λ k. came_back ls ((operations_of p).invoke i w k))
invoke_steady p ls i w n = let c : OpsSteady (suc n) (operations_of p) = ops_steady p (suc n) in came_steady ls _ (c.invokes i w)

pub serial_ops_steady : (p : PlainProgram) (is : List Invocation) (w : World) (n : ℕ) → SteadyFlow (suc n) (λ k. serial_ops p is w k)
serial_ops_steady p [] w n = steady_stop (on_with [] w)
serial_ops_steady p (i ∷ is) w n = steady_on _ _ (serial_call_steady p [] i w n) (λ ls w. serial_ops_steady p is w n)

pub exec_serial_steady : (p : PlainProgram) (this : Datum) (x : Statement) (line : ℕ) (ls : List Datum) (w : World) (n : ℕ) → SteadyFlow (suc n) (λ k. exec (serial_parts p this) line ls w x k)
exec_serial_steady p this x line ls w n = exec_steady n _ (serial_parts_steady p this n) x line ls w

pub all_serial_steady : (p : PlainProgram) (this : Datum) (xs : Statements) (ls : List Datum) (w : World) (n : ℕ) → SteadyFlow (suc n) (λ k. exec_all (serial_parts p this) ls w xs k)
all_serial_steady p this xs ls w n = all_exec_steady n _ (serial_parts_steady p this n) xs ls w

-- ---- sections

pub section_act_steady : (p : PlainProgram) (h : List Object) (this : Datum) (line : ℕ) (ls : List Datum) (s : Section) (x : Statement) (n : ℕ) → SteadyFlow (suc n) (λ k. section_act p h this line ls s x k)
section_act_steady p h this line ls s (put_field l f op e) n =
    steady_with _ s _ (value_steady p.functions h (section_place h this s.own line ls) e n) (λ v. steady_stop (on_with ls (with_own s (put_slot s.own f.field 0 (assigned op (one_in (slice_get s.own f.field)) v)))))
section_act_steady p h this line ls s (put_item l f i op e) n =
    steady_with _ s _ (value_steady p.functions h (section_place h this s.own line ls) i n) (λ v. steady_with _ s _ (steady_indexed line _ v) (λ item.
    steady_with _ s _ (value_steady p.functions h (section_place h this s.own line ls) e n) (λ v. steady_stop (on_with ls (with_own s (put_slot s.own f.field item.place (assigned op item.value v)))))))
section_act_steady p h this line ls s (new_local l i c) n = steady_stop (on_with ls s)
section_act_steady p h this line ls s (new_field l f c) n = steady_stop (on_with ls s)
section_act_steady p h this line ls s (new_item l f i c) n = steady_stop (on_with ls s)
section_act_steady p h this line ls s (print_value l e) n = steady_stop (on_with ls s)
section_act_steady p h this line ls s (block l ss) n = steady_stop (on_with ls s)
section_act_steady p h this line ls s (put_local l i op e) n = steady_stop (on_with ls s)
section_act_steady p h this line ls s (invoke l e op es) n = steady_stop (on_with ls s)
section_act_steady p h this line ls s (if_else l c a b) n = steady_stop (on_with ls s)
section_act_steady p h this line ls s (while_loop l c b) n = steady_stop (on_with ls s)
section_act_steady p h this line ls s (for_loop l site part first c next b) n = steady_stop (on_with ls s)
section_act_steady p h this line ls s (return_value l e) n = steady_stop (on_with ls s)

section_of_steady : (n : ℕ) (p : PlainProgram) (h : List Object) (this : Datum) → ((line : ℕ) (ls : List Datum) (s : Section) (x : Statement) → SteadyFlow n (λ k. loops_of p h this line ls s x k)) → SteadyParts n (section_parts p h this)
section_of_steady n p h this c = record {
  values = λ line ls s e. value_steady p.functions h (section_place h this s.own line ls) e n;
  acts = λ line ls s x. section_act_steady p h this line ls s x n;
  calls = λ line ls s e op es. steady_with _ s _ (dues_steady p.functions h (section_place h this s.own line ls) e op es n) (λ i. steady_stop (on_with ls (with_listed s i)));
  agains = c;
  begins = λ line ls s x f steady. steady;
}

loops_steady : (p : PlainProgram) (h : List Object) (this : Datum) (n : ℕ) (line : ℕ) (ls : List Datum) (s : Section) (x : Statement) → SteadyFlow n (λ k. loops_of p h this line ls s x k)
loops_steady p h this zero line ls s x = flow_none _
loops_steady p h this (suc n) line ls s x = steady_same _ _ (λ k. section_loop_runs p h this line ls s x k) (turn_steady n _ (section_of_steady n p h this (loops_steady p h this n)) x line ls s)

pub section_parts_steady : (p : PlainProgram) (h : List Object) (this : Datum) (n : ℕ) → SteadyParts n (section_parts p h this)
section_parts_steady p h this n = section_of_steady n p h this (loops_steady p h this n)

pub section_run_steady : (p : PlainProgram) (h : List Object) (i : Invocation) (own : _) (n : ℕ) → SteadyFlow (suc n) (λ k. section_run p h i own k)
section_run_steady p h i own n =
    steady_turn (section_start own) _ (flow_less (let le : n ≤ suc n = omega arith in le) (all_exec_steady n _ (section_parts_steady p h (Ref i.receiver) n) (body_of (slice_get p.ops i.op.0)) (locals_of (slice_get p.ops i.op.0) i.arguments) (section_start own)))

pub loop_run_steady : (p : PlainProgram) (h : List Object) (this : Datum) (ls : List Datum) (line : ℕ) (loop : Statement) (n : ℕ) → SteadyFlow (suc n) (λ k. loop_run p h this ls line loop k)
loop_run_steady p h this ls line loop n = exec_steady n _ (section_parts_steady p h this n) loop line ls _

-- ---- a run is made of its parts' runs

pub record PartsWith {A S : Type 0} (f : ℕ → Out A) (g : A → ℕ → Flow S) (e : End S) (n : ℕ) : Type 0 where
  pub v : A
  pub s : ℕ
  pub t : ℕ
  pub first : Takes f v s
  pub rest : Reaches (g v) e t
  pub sum : n ≡ s + t

pub parts_with : {A S : Type 0} (f : ℕ → Out A) (x : S) (g : A → ℕ → Flow S) (e : End S) (n : ℕ) → Steady (suc n) f → ((v : A) → SteadyFlow (suc n) (g v)) → Reaches (λ k. with (f k) x g) e n → PartsWith f g e n
parts_with f x g e n a b fate =
    let z : n + 0 ≡ n = omega arith in
    let m : MidWith (f n) g e 0 = mid_with (f n) x g e 0 (ap (λ k. with (f k) x g) (sym z) ∙ fate.at 0) in
    let t : Taken f m.v n m.k = a.taken n (omega arith) m.v m.k m.is in
    let ti = t.is in
    let u : Reached (g m.v) e m.k 0 = (b m.v).reached m.k (omega arith) e 0 m.rest in
    let ui = u.is in
    record { v = m.v; s = t.s; t = u.s; first = t.takes; rest = u.reaches; sum = omega arith }

pub record PartsOn {S : Type 0} (f : ℕ → Flow S) (g : List Datum → S → ℕ → Flow S) (e : End S) (n : ℕ) : Type 0 where
  pub ls : List Datum
  pub x : S
  pub s : ℕ
  pub t : ℕ
  pub first : Reaches f (on_with ls x) s
  pub rest : Reaches (g ls x) e t
  pub sum : n ≡ s + t

pub parts_on : {S : Type 0} (f : ℕ → Flow S) (g : List Datum → S → ℕ → Flow S) (ms : List Datum) (y : S) (n : ℕ) → SteadyFlow (suc n) f → ((ls : List Datum) (x : S) → SteadyFlow (suc n) (g ls x)) → Reaches (λ k. and_on (f k) g) (on_with ms y) n → PartsOn f g (on_with ms y) n
parts_on {S} f g ms y n a b fate =
    let z : n + 0 ≡ n = omega arith in
    from (mid_on (f n) g (on_with ms y) 0 (ap (λ k. and_on (f k) g) (sym z) ∙ fate.at 0))
  where
    from : MidOn (f n) g (on_with ms y) 0 → PartsOn f g (on_with ms y) n
    from (goes ls s k is rest) =
        let t : Reached f (on_with ls s) n k = a.reached n (omega arith) (on_with ls s) k is in
        let ti = t.is in
        let u : Reached (g ls s) (on_with ms y) k 0 = (b ls s).reached k (omega arith) (on_with ms y) 0 rest in
        let ui = u.is in
        record { ls = ls; x = s; s = t.s; t = u.s; first = t.reaches; rest = u.reaches; sum = omega arith }
    from (backs v s same is) = cc

pub record AfterStep {S : Type 0} (g : ℕ → Flow S) (e : End S) (n : ℕ) : Type 0 where
  pub t : ℕ
  pub rest : Reaches g e t
  pub sum : n ≡ suc t

pub after_step : {S : Type 0} (x : S) (g : ℕ → Flow S) (e : End S) (n : ℕ) → SteadyFlow (suc n) g → Reaches (λ k. with (take_step k) x (λ _ k. g k)) e n → AfterStep g e n
after_step x g e zero h fate = never e (fate.at 0)
  where
    never : {B : Type 0} (e : End _) → runs_out x ≡ flow_at e 0 → B
    never (on_with ls s) q = cc
    never (back_with v s) q = cc
after_step x g e (suc n) h fate =
    let z : suc n + 0 ≡ suc n = omega arith in
    let u : Reached g e n 0 = h.reached n (omega arith) e 0 (ap (λ k. with (take_step k) x (λ _ k. g k)) (sym z) ∙ fate.at 0) in
    let ui = u.is in
    record { t = u.s; rest = u.reaches; sum = omega arith }

pub before_step : {S : Type 0} (x : S) (g : ℕ → Flow S) (e : End S) (n : ℕ) → Reaches g e n → Reaches (λ k. with (take_step k) x (λ _ k. g k)) e (suc n)
before_step x g e n h = record { at = λ i. let z : suc n + i ≡ suc (n + i) = omega arith in ap (λ k. with (take_step k) x (λ _ k. g k)) z ∙ h.at i }
