-- What calls and loops mean is a fixed point: each runs its body, in which they mean the same.
use Rattle.std.proofs.Common.{refl, ap, ◌≡◌, ℕ, zero, suc, ◌<◌, ◌≤◌, List, true, false, Bool, arith}
use Rattle.std.specs.Prelude.{slice_get}
use Rattle.ca_program.specs.declared.program.FunctionId.{FunctionId}
use Rattle.ca_program.specs.declared.program.OpId.{OpId}
use Rattle.ca_program.specs.Plain.{PlainProgram, PlainMethod, Expression, Expressions, Statement, Statements, block, put_local, put_field, put_item, new_local, new_field, new_item, invoke, if_else, while_loop, for_loop, return_value, print_value}
use Rattle.ca_model.specs.declared.value.Value.{Value as Datum}
use Rattle.ca_model.specs.declared.value.Value.TheVariants.{Ref}
use Rattle.ca_model.specs.declared.value.Object.{Object}
use Rattle.ca_model.specs.Heaps.{starts_of, is_full}
use Rattle.ca_meaning.specs.Expressions.{Out, gives, traps, over, take_step, Place, eval, eval_all, Invocation, due}
use Rattle.ca_meaning.specs.Flows.{Flow, goes_on, gives_back, stops, runs_out, and_on, with, choose, line_of, exec, exec_all, turn}
use Rattle.ca_meaning.specs.Functions.{place, body_of, locals_of, value_of_body, Functions, function_parts, functions, functions_of, value_in}
use Rattle.ca_meaning.specs.Serial.{World, Operations, came_back, unless_full, run_call, operation_act, operation_parts, operations, operations_of, serial_parts}
use Rattle.ca_meaning.specs.Sections.{Section, section_place, Again, section_act, section_parts_with, loops, loops_of, section_parts}
use Rattle.ca_meaning.proofs.Near.{le_self, Near, both_give, both_trap, both_over, near_same, near_go, near_indexed, eval_near, all_near, due_near, NearFlow, both_go, both_return, both_stop, both_run_out, flow_same, flow_go, flow_with, flow_step, CloseParts, all_exec_near, loop_near}

-- ---- value methods

value_near : {n : ℕ} {a b : Flow (Unit {0})} → NearFlow n a b → Near n (value_of_body a) (value_of_body b)
value_near (both_go h) = both_give h
value_near (both_return h) = both_give h
value_near both_stop = both_trap
value_near both_run_out = both_over

record Close (n : ℕ) (f g : Functions) : Type 0 where
  calls : (m : FunctionId) (r : ℕ) (vs : List Datum) (k : ℕ) → k < n → Near k (f.call m r vs k) (g.call m r vs k)
  agains : (this : Datum) (line : ℕ) (ls : List Datum) (x : Statement) (k : ℕ) → k < n → NearFlow k (f.again this line ls tt x k) (g.again this line ls tt x k)

function_agree : (n : ℕ) (f g : Functions) → Close n f g → (h : List Object) (this : Datum) → CloseParts n (function_parts f h this) (function_parts g h this)
function_agree n f g c h this = record {
  values = λ line ls s e k le. eval_near n f.call g.call c.calls (place h this line ls) e k le;
  acts = λ line ls s x k le. flow_go ls s k;
  calls = λ line ls s e op es k le. flow_go ls s k;
  agains = λ line ls s x k lt. c.agains this line ls x k lt;
  begins = λ line ls s x k a b le near. near;
}

close : (ms : List PlainMethod) (h : List Object) (n a b : ℕ) → n ≤ a → n ≤ b → Close n (functions a ms h) (functions b ms h)
close ms h n zero b p q = record { calls = λ m r vs k lt. absurd (omega arith); agains = λ this line ls x k lt. absurd (omega arith) }
close ms h n (suc a) zero p q = record { calls = λ m r vs k lt. absurd (omega arith); agains = λ this line ls x k lt. absurd (omega arith) }
close ms h n (suc a) (suc b) p q = record {
  calls = λ m r vs k lt. value_near (all_exec_near k _ _ (function_agree k _ _ (close ms h k a b (omega arith) (omega arith)) h (Ref r)) (body_of (slice_get ms m.0)) (locals_of (slice_get ms m.0) vs) tt k (le_self k));
  agains = λ this line ls x k lt. loop_near k _ _ (function_agree k _ _ (close ms h k a b (omega arith) (omega arith)) h this) x line ls tt k (le_self k);
}

-- what is nested k deep is as good as any, where k steps are left
close_all : (ms : List PlainMethod) (h : List Object) (n : ℕ) → Close n (functions n ms h) (functions_of ms h)
close_all ms h n = record {
  calls = λ m r vs k lt. (close ms h (suc k) n (suc k) lt (le_self (suc k))).calls m r vs k (le_self (suc k));
  agains = λ this line ls x k lt. (close ms h (suc k) n (suc k) lt (le_self (suc k))).agains this line ls x k (le_self (suc k));
}

-- a call of a value method runs its body
pub call_runs : (ms : List PlainMethod) (h : List Object) (m : FunctionId) (r : ℕ) (vs : List Datum) (k : ℕ) → (functions_of ms h).call m r vs k ≡ value_of_body (exec_all (function_parts (functions_of ms h) h (Ref r)) (locals_of (slice_get ms m.0) vs) tt (body_of (slice_get ms m.0)) k)
call_runs ms h m r vs k = near_same (value_near (all_exec_near k _ _ (function_agree k _ _ (close_all ms h k) h (Ref r)) (body_of (slice_get ms m.0)) (locals_of (slice_get ms m.0) vs) tt k (le_self k)))

-- a loop in a value method that comes again begins anew
pub again_runs : (ms : List PlainMethod) (h : List Object) (this : Datum) (line : ℕ) (ls : List Datum) (x : Statement) (k : ℕ) → (functions_of ms h).again this line ls tt x k ≡ turn (function_parts (functions_of ms h) h this) line ls tt x k
again_runs ms h this line ls x k = flow_same (loop_near k _ _ (function_agree k _ _ (close_all ms h k) h this) x line ls tt k (le_self k))

-- ---- expressions: none leaves more steps than it was given

calls_self : (ms : List PlainMethod) (h : List Object) (m : FunctionId) (r : ℕ) (vs : List Datum) (k : ℕ) → Near k ((functions_of ms h).call m r vs k) ((functions_of ms h).call m r vs k)
calls_self ms h m r vs k = (close ms h (suc k) (suc k) (suc k) (le_self (suc k)) (le_self (suc k))).calls m r vs k (le_self (suc k))

pub eval_self : (ms : List PlainMethod) (h : List Object) (q : Place) (e : Expression) (k : ℕ) → Near k (eval (functions_of ms h).call q e k) (eval (functions_of ms h).call q e k)
eval_self ms h q e k = eval_near k _ _ (λ m r vs j lt. calls_self ms h m r vs j) q e k (le_self k)

pub all_self : (ms : List PlainMethod) (h : List Object) (q : Place) (es : Expressions) (k : ℕ) → Near k (eval_all (functions_of ms h).call q es k) (eval_all (functions_of ms h).call q es k)
all_self ms h q es k = all_near k _ _ (λ m r vs j lt. calls_self ms h m r vs j) q es k (le_self k)

pub due_self : (ms : List PlainMethod) (h : List Object) (q : Place) (e : Expression) (op : OpId) (es : Expressions) (k : ℕ) → Near k (due (functions_of ms h).call q e op es k) (due (functions_of ms h).call q e op es k)
due_self ms h q e op es k = due_near k _ _ (λ m r vs j lt. calls_self ms h m r vs j) q e op es k (le_self k)

-- ---- operations

room_self : (full : Bool) (line n k : ℕ) → Near k (unless_full full line n k) (unless_full full line n k)
room_self true line n k = both_trap
room_self false line n k = near_go n k

pub act_self : (p : PlainProgram) (this : Datum) (line : ℕ) (ls : List Datum) (w : World) (x : Statement) (k : ℕ) → NearFlow k (operation_act p this line ls w x k) (operation_act p this line ls w x k)
act_self p this line ls w (put_field l f op e) k = flow_with w _ _ (eval_self p.functions w.heap (place w.heap this line ls) e k) (λ v k1 le1. flow_go ls _ k1)
act_self p this line ls w (put_item l f i op e) k =
    flow_with w _ _ (eval_self p.functions w.heap (place w.heap this line ls) i k) (λ v k1 le1. flow_with w _ _ (near_indexed line _ v k1) (λ item k2 le2.
    flow_with w _ _ (eval_self p.functions w.heap (place w.heap this line ls) e k2) (λ v k3 le3. flow_go ls _ k3)))
act_self p this line ls w (new_local l i c) k = flow_with w _ _ (room_self (is_full w.heap (starts_of p c)) line _ k) (λ n k1 le1. flow_go _ _ k1)
act_self p this line ls w (new_field l f c) k = flow_with w _ _ (room_self (is_full w.heap (starts_of p c)) line _ k) (λ n k1 le1. flow_go _ _ k1)
act_self p this line ls w (new_item l f i c) k =
    flow_with w _ _ (eval_self p.functions w.heap (place w.heap this line ls) i k) (λ v k1 le1. flow_with w _ _ (near_indexed line _ v k1) (λ item k2 le2.
    flow_with w _ _ (room_self (is_full w.heap (starts_of p c)) line _ k2) (λ n k3 le3. flow_go _ _ k3)))
act_self p this line ls w (print_value l e) k = flow_with w _ _ (eval_self p.functions w.heap (place w.heap this line ls) e k) (λ v k1 le1. flow_go ls _ k1)
act_self p this line ls w (block l ss) k = flow_go ls w k
act_self p this line ls w (put_local l i op e) k = flow_go ls w k
act_self p this line ls w (invoke l e op es) k = flow_go ls w k
act_self p this line ls w (if_else l c a b) k = flow_go ls w k
act_self p this line ls w (while_loop l c b) k = flow_go ls w k
act_self p this line ls w (for_loop l site part first c next b) k = flow_go ls w k
act_self p this line ls w (return_value l e) k = flow_go ls w k

pub record CloseOps (n : ℕ) (f g : Operations) : Type 0 where
  pub invokes : (i : Invocation) (w : World) (k : ℕ) → k < n → NearFlow k (f.invoke i w k) (g.invoke i w k)
  pub agains : (this : Datum) (line : ℕ) (ls : List Datum) (w : World) (x : Statement) (k : ℕ) → k < n → NearFlow k (f.again this line ls w x k) (g.again this line ls w x k)

came_near : {n : ℕ} (ls : List Datum) {a b : Flow World} → NearFlow n a b → NearFlow n (came_back ls a) (came_back ls b)
came_near ls (both_go h) = both_go h
came_near ls (both_return h) = both_run_out
came_near ls both_stop = both_stop
came_near ls both_run_out = both_run_out

pub run_near : (n : ℕ) (f g : Operations) → CloseOps n f g → (ls : List Datum) (i : Invocation) (w : World) (k : ℕ) → k ≤ n → NearFlow k (run_call f ls i w k) (run_call g ls i w k)
run_near n f g c ls i w k le = flow_step w k _ _ (λ j lt. came_near ls (c.invokes i w j (omega arith)))

pub operation_agree : (n : ℕ) (p : PlainProgram) (f g : Operations) → CloseOps n f g → (this : Datum) → CloseParts n (operation_parts p f this) (operation_parts p g this)
operation_agree n p f g c this = record {
  values = λ line ls w e k le. eval_self p.functions w.heap (place w.heap this line ls) e k;
  acts = λ line ls w x k le. act_self p this line ls w x k;
  calls = λ line ls w e op es k le. flow_with w _ _ (due_self p.functions w.heap (place w.heap this line ls) e op es k) (λ i k1 le1. run_near n f g c ls i w k1 (omega arith));
  agains = λ line ls w x k lt. c.agains this line ls w x k lt;
  begins = λ line ls w x k a b le near. near;
}

pub close_ops : (p : PlainProgram) (n a b : ℕ) → n ≤ a → n ≤ b → CloseOps n (operations a p) (operations b p)
close_ops p n zero b x y = record { invokes = λ i w k lt. absurd (omega arith); agains = λ this line ls w z k lt. absurd (omega arith) }
close_ops p n (suc a) zero x y = record { invokes = λ i w k lt. absurd (omega arith); agains = λ this line ls w z k lt. absurd (omega arith) }
close_ops p n (suc a) (suc b) x y = record {
  invokes = λ i w k lt. all_exec_near k _ _ (operation_agree k p _ _ (close_ops p k a b (omega arith) (omega arith)) (Ref i.receiver)) (body_of (slice_get p.ops i.op.0)) (locals_of (slice_get p.ops i.op.0) i.arguments) w k (le_self k);
  agains = λ this line ls w z k lt. loop_near k _ _ (operation_agree k p _ _ (close_ops p k a b (omega arith) (omega arith)) this) z line ls w k (le_self k);
}

pub close_all_ops : (p : PlainProgram) (n : ℕ) → CloseOps n (operations n p) (operations_of p)
close_all_ops p n = record {
  invokes = λ i w k lt. (close_ops p (suc k) n (suc k) lt (le_self (suc k))).invokes i w k (le_self (suc k));
  agains = λ this line ls w x k lt. (close_ops p (suc k) n (suc k) lt (le_self (suc k))).agains this line ls w x k (le_self (suc k));
}

-- a call of an operation runs its body
pub invoke_runs : (p : PlainProgram) (i : Invocation) (w : World) (k : ℕ) → (operations_of p).invoke i w k ≡ exec_all (serial_parts p (Ref i.receiver)) (locals_of (slice_get p.ops i.op.0) i.arguments) w (body_of (slice_get p.ops i.op.0)) k
invoke_runs p i w k = flow_same (all_exec_near k _ _ (operation_agree k p _ _ (close_all_ops p k) (Ref i.receiver)) (body_of (slice_get p.ops i.op.0)) (locals_of (slice_get p.ops i.op.0) i.arguments) w k (le_self k))

-- a loop in an operation or in `main` that comes again begins anew
pub loop_runs : (p : PlainProgram) (this : Datum) (line : ℕ) (ls : List Datum) (w : World) (x : Statement) (k : ℕ) → (operations_of p).again this line ls w x k ≡ turn (serial_parts p this) line ls w x k
loop_runs p this line ls w x k = flow_same (loop_near k _ _ (operation_agree k p _ _ (close_all_ops p k) this) x line ls w k (le_self k))

self_ops : (p : PlainProgram) (n : ℕ) → CloseOps n (operations_of p) (operations_of p)
self_ops p n = record {
  invokes = λ i w k lt. (close_ops p (suc k) (suc k) (suc k) (le_self (suc k)) (le_self (suc k))).invokes i w k (le_self (suc k));
  agains = λ this line ls w x k lt. (close_ops p (suc k) (suc k) (suc k) (le_self (suc k)) (le_self (suc k))).agains this line ls w x k (le_self (suc k));
}

-- statements of a serial run leave no more steps than they were given
pub exec_all_self : (p : PlainProgram) (this : Datum) (xs : Statements) (ls : List Datum) (w : World) (k : ℕ) → NearFlow k (exec_all (serial_parts p this) ls w xs k) (exec_all (serial_parts p this) ls w xs k)
exec_all_self p this xs ls w k = all_exec_near k _ _ (operation_agree k p _ _ (self_ops p k) this) xs ls w k (le_self k)

-- ---- sections

section_act_self : (p : PlainProgram) (h : List Object) (this : Datum) (line : ℕ) (ls : List Datum) (s : Section) (x : Statement) (k : ℕ) → NearFlow k (section_act p h this line ls s x k) (section_act p h this line ls s x k)
section_act_self p h this line ls s (put_field l f op e) k = flow_with s _ _ (eval_self p.functions h (section_place h this s.own line ls) e k) (λ v k1 le1. flow_go ls _ k1)
section_act_self p h this line ls s (put_item l f i op e) k =
    flow_with s _ _ (eval_self p.functions h (section_place h this s.own line ls) i k) (λ v k1 le1. flow_with s _ _ (near_indexed line _ v k1) (λ item k2 le2.
    flow_with s _ _ (eval_self p.functions h (section_place h this s.own line ls) e k2) (λ v k3 le3. flow_go ls _ k3)))
section_act_self p h this line ls s (new_local l i c) k = flow_go ls s k
section_act_self p h this line ls s (new_field l f c) k = flow_go ls s k
section_act_self p h this line ls s (new_item l f i c) k = flow_go ls s k
section_act_self p h this line ls s (print_value l e) k = flow_go ls s k
section_act_self p h this line ls s (block l ss) k = flow_go ls s k
section_act_self p h this line ls s (put_local l i op e) k = flow_go ls s k
section_act_self p h this line ls s (invoke l e op es) k = flow_go ls s k
section_act_self p h this line ls s (if_else l c a b) k = flow_go ls s k
section_act_self p h this line ls s (while_loop l c b) k = flow_go ls s k
section_act_self p h this line ls s (for_loop l site part first c next b) k = flow_go ls s k
section_act_self p h this line ls s (return_value l e) k = flow_go ls s k

section_agree : (n : ℕ) (p : PlainProgram) (h : List Object) (this : Datum) (f g : Again) → ((line : ℕ) (ls : List Datum) (s : Section) (x : Statement) (k : ℕ) → k < n → NearFlow k (f line ls s x k) (g line ls s x k)) → CloseParts n (section_parts_with p h this f) (section_parts_with p h this g)
section_agree n p h this f g c = record {
  values = λ line ls s e k le. eval_self p.functions h (section_place h this s.own line ls) e k;
  acts = λ line ls s x k le. section_act_self p h this line ls s x k;
  calls = λ line ls s e op es k le. flow_with s _ _ (due_self p.functions h (section_place h this s.own line ls) e op es k) (λ i k1 le1. flow_go ls _ k1);
  agains = c;
  begins = λ line ls s x k a b le near. near;
}

close_loops : (p : PlainProgram) (h : List Object) (this : Datum) (n a b : ℕ) → n ≤ a → n ≤ b → (line : ℕ) (ls : List Datum) (s : Section) (x : Statement) (k : ℕ) → k < n → NearFlow k (loops a p h this line ls s x k) (loops b p h this line ls s x k)
close_loops p h this n zero b x y = λ line ls s z k lt. absurd (omega arith)
close_loops p h this n (suc a) zero x y = λ line ls s z k lt. absurd (omega arith)
close_loops p h this n (suc a) (suc b) x y = λ line ls s z k lt. loop_near k _ _ (section_agree k p h this _ _ (close_loops p h this k a b (omega arith) (omega arith))) z line ls s k (le_self k)

-- a loop in a section that comes again begins anew
pub section_loop_runs : (p : PlainProgram) (h : List Object) (this : Datum) (line : ℕ) (ls : List Datum) (s : Section) (x : Statement) (k : ℕ) → loops_of p h this line ls s x k ≡ turn (section_parts p h this) line ls s x k
section_loop_runs p h this line ls s x k = flow_same (loop_near k _ _ (section_agree k p h this _ _ (λ line ls s z j lt. close_loops p h this (suc j) k (suc j) lt (le_self (suc j)) line ls s z j (le_self (suc j)))) x line ls s k (le_self k))

-- ---- loops, in the words of the statements themselves

with_same : {A S : Type 0} (o : Out A) (s : S) (f g : A → ℕ → Flow S) → ((v : A) (k : ℕ) → f v k ≡ g v k) → with o s f ≡ with o s g
with_same (gives v k) s f g h = h v k
with_same (traps t) s f g h = refl
with_same over s f g h = refl

on_same : {S : Type 0} (a : Flow S) (f g : List Datum → S → ℕ → Flow S) → ((ls : List Datum) (s : S) (k : ℕ) → f ls s k ≡ g ls s k) → and_on a f ≡ and_on a g
on_same (goes_on ls s k) f g h = h ls s k
on_same (gives_back v s k) f g h = refl
on_same (stops t s) f g h = refl
on_same (runs_out s) f g h = refl

-- a `while` is its condition, a step, its body, and the `while` again
pub while_means : (p : PlainProgram) (this : Datum) (line own : ℕ) (ls : List Datum) (w : World) (c : Expression) (b : Statement) (k : ℕ) →
    exec (serial_parts p this) line ls w (while_loop own c b) k
    ≡ with (value_in p.functions w.heap this line ls c k) w (λ v k. choose v
    (with (take_step k) w (λ _ k. and_on (exec (serial_parts p this) (line_of b) ls w b k) (λ ls w k. exec (serial_parts p this) line ls w (while_loop own c b) k)))
    (goes_on ls w k))
while_means p this line own ls w c b k =
    with_same (value_in p.functions w.heap this line ls c k) w _ _ (λ v k. ap (λ a. choose v a (goes_on ls w k))
    (with_same (take_step k) w _ _ (λ _ k. on_same (exec (serial_parts p this) (line_of b) ls w b k) _ _ (λ ls w k. loop_runs p this line ls w (while_loop own c b) k))))

-- a call takes a step and runs its body
pub call_means : (p : PlainProgram) (ls : List Datum) (i : Invocation) (w : World) (k : ℕ) → run_call (operations_of p) ls i w k ≡ with (take_step k) w (λ _ k. came_back ls (exec_all (serial_parts p (Ref i.receiver)) (locals_of (slice_get p.ops i.op.0) i.arguments) w (body_of (slice_get p.ops i.op.0)) k))
call_means p ls i w k = with_same (take_step k) w _ _ (λ _ k. ap (came_back ls) (invoke_runs p i w k))
