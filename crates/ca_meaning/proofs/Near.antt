-- Ends that are equal, with no more than n steps left: what begins with n steps gives none back.
use Rattle.std.proofs.Common.{◌≡◌, ℕ, zero, suc, ◌<◌, ◌≤◌, List, Option, Some, None, Result, Ok, Err, refl, pos, negsuc, true, false, arith}
use Rattle.std.specs.Prelude.{slice_get}
use Rattle.ca_program.specs.declared.program.FunctionId.{FunctionId}
use Rattle.ca_program.specs.declared.program.OpId.{OpId}
use Rattle.ca_program.specs.Plain.{Expression, Expressions, number, truth, null, this, local, own, own_item, read, read_item, value_call, unary, binary, no_expressions, expression_and, Statement, Statements, block, put_local, put_field, put_item, new_local, new_field, new_item, invoke, if_else, while_loop, for_loop, return_value, print_value, no_statements, statement_and}
use Rattle.ca_model.specs.declared.value.Value.{Value as Datum}
use Rattle.ca_model.specs.declared.value.Value.TheVariants.{Long, Bool as Truth, Null, Ref}
use Rattle.ca_model.specs.declared.value.Trap.{Trap}
use Rattle.ca_model.specs.declared.value.TrapKind.{TrapKind}
use Rattle.ca_meaning.specs.Operators.{operated}
use Rattle.ca_meaning.specs.Expressions.{Out, gives, traps, over, ◌>>=◌, pointed, take_step, found, indexed, answer, decided, unless_decided, items_in, slot_of, Place, Calls, eval, eval_all, due}
use Rattle.ca_meaning.specs.Flows.{Flow, goes_on, gives_back, stops, runs_out, and_on, with, choose, Parts, line_of, turn_of, exec, exec_all, turn}

pub le_self : (k : ℕ) → k ≤ k
le_self k = omega arith

-- ---- evaluations

pub data Near {A : Type 0} (n : ℕ) : Out A → Out A → Type 0 where
  both_give : {v : A} {k : ℕ} → k ≤ n → Near n (gives v k) (gives v k)
  both_trap : {t : Trap} → Near n (traps t) (traps t)
  both_over : Near n over over

pub near_same : {A : Type 0} {n : ℕ} {a b : Out A} → Near n a b → a ≡ b
near_same (both_give h) = refl
near_same both_trap = refl
near_same both_over = refl

pub near_more : {A : Type 0} {n m : ℕ} {a b : Out A} → n ≤ m → Near n a b → Near m a b
near_more le (both_give h) = both_give (omega arith)
near_more le both_trap = both_trap
near_more le both_over = both_over

-- what begins with k steps ends with no more, and both sides agree
pub near_then : {A B : Type 0} {n : ℕ} {a b : Out A} (f g : A → ℕ → Out B) → Near n a b → ((v : A) (k : ℕ) → k ≤ n → Near k (f v k) (g v k)) → Near n (a >>= f) (b >>= g)
near_then f g (both_give {v} {k} h) r = near_more h (r v k h)
near_then f g both_trap r = both_trap
near_then f g both_over r = both_over

pub near_go : {A : Type 0} (v : A) (k : ℕ) → Near k (gives v k) (gives v k)
near_go v k = both_give (le_self k)

pub near_pointed : (line : ℕ) (v : Datum) (k : ℕ) → Near k (pointed line v k) (pointed line v k)
near_pointed line (Ref r) k = near_go r k
near_pointed line (Long x) k = both_trap
near_pointed line (Truth x) k = both_trap
near_pointed line Null k = both_trap

near_found : (line i : ℕ) (v : Option Datum) (k : ℕ) → Near k (found line i v k) (found line i v k)
near_found line i (Some v) k = near_go _ k
near_found line i None k = both_trap

pub near_indexed : (line : ℕ) (items : List Datum) (v : Datum) (k : ℕ) → Near k (indexed line items v k) (indexed line items v k)
near_indexed line items (Long (pos i)) k = near_found line i (slice_get items i) k
near_indexed line items (Long (negsuc i)) k = both_trap
near_indexed line items (Ref r) k = both_trap
near_indexed line items (Truth x) k = both_trap
near_indexed line items Null k = both_trap

near_answer : (line : ℕ) (a : Result Datum TrapKind) (k : ℕ) → Near k (answer line a k) (answer line a k)
near_answer line (Ok v) k = near_go v k
near_answer line (Err t) k = both_trap

near_unless : (d : Option Datum) (k : ℕ) {a b : Out Datum} → Near k a b → Near k (unless_decided d k a) (unless_decided d k b)
near_unless (Some v) k h = near_go v k
near_unless None k h = h

-- after a step fewer are left
pub near_step : {B : Type 0} (k : ℕ) (f g : Unit {0} → ℕ → Out B) → ((j : ℕ) → j < k → Near j (f tt j) (g tt j)) → Near k (take_step k >>= f) (take_step k >>= g)
near_step zero f g h = both_over
near_step (suc k) f g h = let le : k ≤ suc k = omega arith in near_more le (h k (omega arith))

near_item : (line : ℕ) (items : List Datum) (v : Datum) (k : ℕ) → Near k (indexed line items v k >>= λ item k. gives item.value k) (indexed line items v k >>= λ item k. gives item.value k)
near_item line items v k = near_then _ _ (near_indexed line items v k) (λ item k1 le1. near_go item.value k1)

-- two meanings of calls that agree where a step was taken give expressions meanings that agree
module _ (n : ℕ) (c d : Calls) (agree : (m : FunctionId) (r : ℕ) (vs : List Datum) (k : ℕ) → k < n → Near k (c m r vs k) (d m r vs k)) (p : Place) where
  mutual
    pub eval_near : (e : Expression) (k : ℕ) → k ≤ n → Near k (eval c p e k) (eval d p e k)
    eval_near (number x) k le = near_go _ k
    eval_near (truth x) k le = near_go _ k
    eval_near null k le = near_go _ k
    eval_near this k le = near_go _ k
    eval_near (local l) k le = near_go _ k
    eval_near (own f) k le = near_go _ k
    eval_near (own_item f i) k le = near_then _ _ (eval_near i k le) (λ v k1 le1. near_item p.line _ v k1)
    eval_near (read e f) k le = near_then _ _ (eval_near e k le) (λ v k1 le1. near_then _ _ (near_pointed p.line v k1) (λ r k2 le2. near_go _ k2))
    eval_near (read_item e f i) k le =
        near_then _ _ (eval_near e k le) (λ v k1 le1. near_then _ _ (near_pointed p.line v k1) (λ r k2 le2.
        near_then _ _ (eval_near i k2 (omega arith)) (λ w k3 le3. near_item p.line (items_in (slot_of p.heap r f)) w k3)))
    eval_near (value_call e m arguments) k le =
        near_then _ _ (eval_near e k le) (λ v k1 le1. near_then _ _ (all_near arguments k1 (omega arith)) (λ vs k2 le2.
        near_then _ _ (near_pointed p.line v k2) (λ r k3 le3. near_step k3 _ _ (λ j lt. agree m r vs j (omega arith)))))
    eval_near (unary op e) k le = near_then _ _ (eval_near e k le) (λ v k1 le1. near_go _ k1)
    eval_near (binary op a b) k le =
        near_then _ _ (eval_near a k le) (λ v k1 le1. near_unless (decided op v) k1
        (near_then _ _ (eval_near b k1 (omega arith)) (λ w k2 le2. near_answer p.line (operated op v w) k2)))

    pub all_near : (es : Expressions) (k : ℕ) → k ≤ n → Near k (eval_all c p es k) (eval_all d p es k)
    all_near no_expressions k le = near_go _ k
    all_near (expression_and e es) k le = near_then _ _ (eval_near e k le) (λ v k1 le1. near_then _ _ (all_near es k1 (omega arith)) (λ vs k2 le2. near_go _ k2))

  pub due_near : (e : Expression) (op : OpId) (es : Expressions) (k : ℕ) → k ≤ n → Near k (due c p e op es k) (due d p e op es k)
  due_near e op es k le =
      near_then _ _ (eval_near e k le) (λ v k1 le1. near_then _ _ (all_near es k1 (omega arith)) (λ vs k2 le2. near_then _ _ (near_pointed p.line v k2) (λ r k3 le3. near_go _ k3)))

-- ---- flows

pub data NearFlow {S : Type 0} (n : ℕ) : Flow S → Flow S → Type 0 where
  both_go : {ls : List Datum} {s : S} {k : ℕ} → k ≤ n → NearFlow n (goes_on ls s k) (goes_on ls s k)
  both_return : {v : Datum} {s : S} {k : ℕ} → k ≤ n → NearFlow n (gives_back v s k) (gives_back v s k)
  both_stop : {t : Trap} {s : S} → NearFlow n (stops t s) (stops t s)
  both_run_out : {s : S} → NearFlow n (runs_out s) (runs_out s)

pub flow_same : {S : Type 0} {n : ℕ} {a b : Flow S} → NearFlow n a b → a ≡ b
flow_same (both_go h) = refl
flow_same (both_return h) = refl
flow_same both_stop = refl
flow_same both_run_out = refl

pub flow_more : {S : Type 0} {n m : ℕ} {a b : Flow S} → n ≤ m → NearFlow n a b → NearFlow m a b
flow_more le (both_go h) = both_go (omega arith)
flow_more le (both_return h) = both_return (omega arith)
flow_more le both_stop = both_stop
flow_more le both_run_out = both_run_out

pub flow_go : {S : Type 0} (ls : List Datum) (s : S) (k : ℕ) → NearFlow k (goes_on ls s k) (goes_on ls s k)
flow_go ls s k = both_go (le_self k)

flow_back : {S : Type 0} (v : Datum) (s : S) (k : ℕ) → NearFlow k (gives_back v s k) (gives_back v s k)
flow_back v s k = both_return (le_self k)

pub flow_with : {A S : Type 0} {n : ℕ} {a b : Out A} (s : S) (f g : A → ℕ → Flow S) → Near n a b → ((v : A) (k : ℕ) → k ≤ n → NearFlow k (f v k) (g v k)) → NearFlow n (with a s f) (with b s g)
flow_with s f g (both_give {v} {k} h) r = flow_more h (r v k h)
flow_with s f g both_trap r = both_stop
flow_with s f g both_over r = both_run_out

pub flow_on : {S : Type 0} {n : ℕ} {a b : Flow S} (f g : List Datum → S → ℕ → Flow S) → NearFlow n a b → ((ls : List Datum) (s : S) (k : ℕ) → k ≤ n → NearFlow k (f ls s k) (g ls s k)) → NearFlow n (and_on a f) (and_on b g)
flow_on f g (both_go {ls} {s} {k} h) r = flow_more h (r ls s k h)
flow_on f g (both_return h) r = both_return h
flow_on f g both_stop r = both_stop
flow_on f g both_run_out r = both_run_out

flow_choose : {S : Type 0} {n : ℕ} (v : Datum) {a b c d : Flow S} → NearFlow n a b → NearFlow n c d → NearFlow n (choose v a c) (choose v b d)
flow_choose (Truth true) h r = h
flow_choose (Truth false) h r = r
flow_choose (Long x) h r = r
flow_choose (Ref x) h r = r
flow_choose Null h r = r

pub flow_step : {S : Type 0} (s : S) (k : ℕ) (f g : Unit {0} → ℕ → Flow S) → ((j : ℕ) → j < k → NearFlow j (f tt j) (g tt j)) → NearFlow k (with (take_step k) s f) (with (take_step k) s g)
flow_step s zero f g h = both_run_out
flow_step s (suc k) f g h = let le : k ≤ suc k = omega arith in flow_more le (h k (omega arith))

-- the parts of two bodies agree where no more than n steps are left, and loops that come again where a
-- step was taken
pub record CloseParts {S : Type 0} (n : ℕ) (p q : Parts S) : Type 0 where
  pub values : (line : ℕ) (ls : List Datum) (s : S) (e : Expression) (k : ℕ) → k ≤ n → Near k (p.value line ls s e k) (q.value line ls s e k)
  pub acts : (line : ℕ) (ls : List Datum) (s : S) (x : Statement) (k : ℕ) → k ≤ n → NearFlow k (p.act line ls s x k) (q.act line ls s x k)
  pub calls : (line : ℕ) (ls : List Datum) (s : S) (e : Expression) (op : OpId) (es : Expressions) (k : ℕ) → k ≤ n → NearFlow k (p.call line ls s e op es k) (q.call line ls s e op es k)
  pub agains : (line : ℕ) (ls : List Datum) (s : S) (x : Statement) (k : ℕ) → k < n → NearFlow k (p.again line ls s x k) (q.again line ls s x k)
  pub begins : (line : ℕ) (ls : List Datum) (s : S) (x : Statement) (k : ℕ) (a b : Flow S) → k ≤ n → NearFlow k a b → NearFlow k (p.begin line ls s x k a) (q.begin line ls s x k b)

module _ {S : Type 0} (n : ℕ) (p q : Parts S) (h : CloseParts n p q) where
  turn_near : (c : Expression) (f g : List Datum → S → ℕ → Flow S) (loop : Statement) (line : ℕ) (ls : List Datum) (s : S) (k : ℕ) → k ≤ n → ((ls : List Datum) (s : S) (k : ℕ) → k < n → NearFlow k (f ls s k) (g ls s k)) → NearFlow k (turn_of p c f loop line ls s k) (turn_of q c g loop line ls s k)
  turn_near c f g loop line ls s k le r =
      flow_with s _ _ (h.values line ls s c k le) (λ v k1 le1. flow_choose v
      (flow_step s k1 _ _ (λ j lt. flow_on _ _ (r ls s j (omega arith)) (λ ls2 s2 k2 le2. h.agains line ls2 s2 loop k2 (omega arith))))
      (flow_go ls s k1))

  mutual
    pub exec_near : (x : Statement) (line : ℕ) (ls : List Datum) (s : S) (k : ℕ) → k ≤ n → NearFlow k (exec p line ls s x k) (exec q line ls s x k)
    exec_near (block l ss) line ls s k le = all_exec_near ss ls s k le
    exec_near (put_local l i op e) line ls s k le = flow_with s _ _ (h.values line ls s e k le) (λ v k1 le1. flow_go _ s k1)
    exec_near (if_else l c a b) line ls s k le =
        flow_with s _ _ (h.values line ls s c k le) (λ v k1 le1. flow_choose v (exec_near a (line_of a) ls s k1 (omega arith)) (exec_near b (line_of b) ls s k1 (omega arith)))
    exec_near (while_loop l c b) line ls s k le = turn_near c _ _ (while_loop l c b) line ls s k le (λ ls s k lt. exec_near b (line_of b) ls s k (omega arith))
    exec_near (for_loop l site part first c next b) line ls s k le =
        h.begins line ls s (for_loop l site part first c next b) k _ _ le
        (flow_on _ _ (exec_near first line ls s k le) (λ ls1 s1 k1 le1. turn_near c _ _ (for_loop l site part first c next b) line ls1 s1 k1 (omega arith) (λ ls s k lt. flow_on _ _ (exec_near b (line_of b) ls s k (omega arith)) (λ ls2 s2 k2 le2. exec_near next line ls2 s2 k2 (omega arith)))))
    exec_near (return_value l e) line ls s k le = flow_with s _ _ (h.values line ls s e k le) (λ v k1 le1. flow_back v s k1)
    exec_near (invoke l e op es) line ls s k le = h.calls line ls s e op es k le
    exec_near (put_field l f op e) line ls s k le = h.acts line ls s (put_field l f op e) k le
    exec_near (put_item l f i op e) line ls s k le = h.acts line ls s (put_item l f i op e) k le
    exec_near (new_local l i c) line ls s k le = h.acts line ls s (new_local l i c) k le
    exec_near (new_field l f c) line ls s k le = h.acts line ls s (new_field l f c) k le
    exec_near (new_item l f i c) line ls s k le = h.acts line ls s (new_item l f i c) k le
    exec_near (print_value l e) line ls s k le = h.acts line ls s (print_value l e) k le

    pub all_exec_near : (xs : Statements) (ls : List Datum) (s : S) (k : ℕ) → k ≤ n → NearFlow k (exec_all p ls s xs k) (exec_all q ls s xs k)
    all_exec_near no_statements ls s k le = flow_go ls s k
    all_exec_near (statement_and x rest) ls s k le = flow_on _ _ (exec_near x (line_of x) ls s k le) (λ ls1 s1 k1 le1. all_exec_near rest ls1 s1 k1 (omega arith))

  pub loop_near : (x : Statement) (line : ℕ) (ls : List Datum) (s : S) (k : ℕ) → k ≤ n → NearFlow k (turn p line ls s x k) (turn q line ls s x k)
  loop_near (while_loop l c b) line ls s k le = turn_near c _ _ (while_loop l c b) line ls s k le (λ ls s k lt. exec_near b (line_of b) ls s k (omega arith))
  loop_near (for_loop l site part first c next b) line ls s k le =
      turn_near c _ _ (for_loop l site part first c next b) line ls s k le (λ ls s k lt. flow_on _ _ (exec_near b (line_of b) ls s k (omega arith)) (λ ls2 s2 k2 le2. exec_near next line ls2 s2 k2 (omega arith)))
  loop_near (block l ss) line ls s k le = flow_go ls s k
  loop_near (put_local l i op e) line ls s k le = flow_go ls s k
  loop_near (if_else l c a b) line ls s k le = flow_go ls s k
  loop_near (return_value l e) line ls s k le = flow_go ls s k
  loop_near (invoke l e op es) line ls s k le = flow_go ls s k
  loop_near (put_field l f op e) line ls s k le = flow_go ls s k
  loop_near (put_item l f i op e) line ls s k le = flow_go ls s k
  loop_near (new_local l i c) line ls s k le = flow_go ls s k
  loop_near (new_field l f c) line ls s k le = flow_go ls s k
  loop_near (new_item l f i c) line ls s k le = flow_go ls s k
  loop_near (print_value l e) line ls s k le = flow_go ls s k

-- ---- what is left

pub left_of_value : {A : Type 0} {n j : ℕ} {v : A} {a b : Out A} → Near n a b → a ≡ gives v j → j ≤ n
left_of_value {j = j} (both_give {v} {k} h) e = let same : k ≡ j = cc in omega arith
left_of_value both_trap e = cc
left_of_value both_over e = cc

pub left_of_flow : {S : Type 0} {n j : ℕ} {ls : List Datum} {s : S} {a b : Flow S} → NearFlow n a b → a ≡ goes_on ls s j → j ≤ n
left_of_flow {j = j} (both_go {ls} {s} {k} h) e = let same : k ≡ j = cc in omega arith
left_of_flow (both_return h) e = cc
left_of_flow both_stop e = cc
left_of_flow both_run_out e = cc
