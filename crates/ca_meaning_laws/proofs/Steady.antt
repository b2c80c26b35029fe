-- What ends with some steps ends so with any budget that has them: expressions and statements, where the
-- calls and loops in them do.
use Rattle.std.proofs.Common.{◌≡◌, ℕ, zero, suc, ◌+◌, ◌<◌, ◌≤◌, List, Option, Some, None, Result, Ok, Err, refl, ap, sym, subst, ◌∙◌, arith, pos, negsuc, true, false}
use Rattle.std.specs.Prelude.{slice_get, slice_set}
use Rattle.ca_program.specs.declared.program.FunctionId.{FunctionId}
use Rattle.ca_program.specs.declared.program.OpId.{OpId}
use Rattle.ca_program.specs.Plain.{Expression, Expressions, number, truth, null, this, local, own, own_item, read, read_item, value_call, unary, binary, no_expressions, expression_and, Statement, Statements, block, put_local, put_field, put_item, new_local, new_field, new_item, invoke, if_else, while_loop, for_loop, return_value, print_value, no_statements, statement_and}
use Rattle.ca_model.specs.declared.value.Value.{Value as Datum}
use Rattle.ca_model.specs.declared.value.Value.TheVariants.{Long, Bool as Truth, Null, Ref}
use Rattle.ca_model.specs.declared.value.Trap.{Trap}
use Rattle.ca_model.specs.declared.value.TrapKind.{TrapKind}
use Rattle.ca_meaning.specs.Operators.{assigned, operated}
use Rattle.ca_meaning.specs.Expressions.{Out, gives, traps, over, ◌>>=◌, value_at, pointed, take_step, found, indexed, answer, decided, unless_decided, items_in, slot_of, Place, Calls, eval, eval_all, due}
use Rattle.ca_meaning.specs.Flows.{Flow, goes_on, gives_back, stops, runs_out, and_on, with, choose, Parts, line_of, turn_of, exec, exec_all, turn}
use Rattle.ca_meaning_laws.specs.Budgets.{Takes, Taken, End, on_with, back_with, flow_at, Reaches, Reached}

-- ---- evaluations

-- with fewer than n steps
pub record Steady {A : Type 0} (n : ℕ) (f : ℕ → Out A) : Type 0 where
  pub taken : (k : ℕ) → k < n → (v : A) (j : ℕ) → f k ≡ gives v j → Taken f v k j
  pub trapped : (k : ℕ) → k < n → (t : Trap) → f k ≡ traps t → (i : ℕ) → f (k + i) ≡ traps t

-- with fewer than no steps
pub steady_none : {A : Type 0} (f : ℕ → Out A) → Steady 0 f
steady_none f = record { taken = λ k lt v j e. absurd (omega arith); trapped = λ k lt t e. absurd (omega arith) }

pub record Mid {A B : Type 0} (o : Out A) (g : A → ℕ → Out B) (w : B) (j : ℕ) : Type 0 where
  pub v : A
  pub k : ℕ
  pub is : o ≡ gives v k
  pub rest : g v k ≡ gives w j

pub mid : {A B : Type 0} (o : Out A) (g : A → ℕ → Out B) (w : B) (j : ℕ) → (o >>= g) ≡ gives w j → Mid o g w j
mid (gives v k) g w j e = record { v = v; k = k; is = refl; rest = e }
mid (traps t) g w j e = cc
mid over g w j e = cc

pub takes_then : {A B : Type 0} (f : ℕ → Out A) (g : A → ℕ → Out B) (v : A) (w : B) (s t : ℕ) → Takes f v s → Takes (g v) w t → Takes (λ k. f k >>= g) w (s + t)
takes_then f g v w s t a b = record { at = λ i. let e : (s + t) + i ≡ s + (t + i) = omega arith in ap (λ k. f k >>= g) e ∙ ap (λ o. o >>= g) (a.at (t + i)) ∙ b.at i }

-- a trap is the first part's or the second part's
data MidTrap {A B : Type 0} (o : Out A) (g : A → ℕ → Out B) (t : Trap) : Type 0 where
  trapped_first : o ≡ traps t → MidTrap o g t
  trapped_next : (v : A) (k : ℕ) → o ≡ gives v k → g v k ≡ traps t → MidTrap o g t

mid_trap : {A B : Type 0} (o : Out A) (g : A → ℕ → Out B) (t : Trap) → (o >>= g) ≡ traps t → MidTrap o g t
mid_trap (gives v k) g t e = trapped_next v k refl e
mid_trap {A} {B} (traps u) g t e = let same : u ≡ t = trap_of e in trapped_first (ap traps same)
  where
    trap_of : {u t : Trap} → ◌≡◌ {A = Out B} (traps u) (traps t) → u ≡ t
    trap_of e = cc
mid_trap over g t e = cc

pub steady_then : {A B : Type 0} {n : ℕ} (f : ℕ → Out A) (g : A → ℕ → Out B) → Steady n f → ((v : A) → Steady n (g v)) → Steady n (λ k. f k >>= g)
steady_then {A} {B} {n} f g a b = record {
  taken = λ k lt w j e.
      let m : Mid (f k) g w j = mid (f k) g w j e in
      let t : Taken f m.v k m.k = a.taken k lt m.v m.k m.is in
      let ti = t.is in
      let u : Taken (g m.v) w m.k j = (b m.v).taken m.k (omega arith) w j m.rest in
      let ui = u.is in
      record { s = t.s + u.s; is = omega arith; takes = takes_then f g m.v w t.s u.s t.takes u.takes };
  trapped = λ k lt t e i. from k lt t (mid_trap (f k) g t e) i;
}
  where
    from : (k : ℕ) → k < n → (t : Trap) → MidTrap (f k) g t → (i : ℕ) → (f (k + i) >>= g) ≡ traps t
    from k lt t (trapped_first e) i = ap (λ o. o >>= g) (a.trapped k lt t e i)
    from k lt t (trapped_next v j e rest) i =
        let u : Taken f v k j = a.taken k lt v j e in
        let ui = u.is in
        let z : k + i ≡ u.s + (j + i) = omega arith in
        ap (λ k. f k >>= g) z ∙ ap (λ o. o >>= g) (u.takes.at (j + i)) ∙ (b v).trapped j (omega arith) t rest i

pub steady_go : {A : Type 0} {n : ℕ} (v : A) → Steady n (λ k. gives v k)
steady_go {A} v = record {
  taken = λ k lt w j e. record { s = 0; is = got e; takes = record { at = λ i. let z : 0 + i ≡ i = omega arith in ap (λ k. gives v k) z ∙ ap (λ x. gives x i) (value e) } };
  trapped = λ k lt t e. never e;
}
  where
    never : {B : Type 0} {k : ℕ} {t : Trap} → ◌≡◌ {A = Out A} (gives v k) (traps t) → B
    never e = cc

    got : {A : Type 0} {v w : A} {k j : ℕ} → gives v k ≡ gives w j → k ≡ 0 + j
    got {k = k} {j = j} e = let d : k ≡ j = cc in omega arith

    value : {A : Type 0} {v w : A} {k j : ℕ} → gives v k ≡ gives w j → v ≡ w
    value e = cc

pub steady_trap : {A : Type 0} {n : ℕ} (t : Trap) → Steady {A = A} n (λ k. traps t)
steady_trap t = record { taken = λ k lt w j e. never e; trapped = λ k lt u e i. e }
  where
    never : {A B : Type 0} {w : A} {j : ℕ} → traps t ≡ gives w j → B
    never e = cc

pub steady_pointed : {n : ℕ} (line : ℕ) (v : Datum) → Steady n (λ k. pointed line v k)
steady_pointed line (Ref r) = steady_go r
steady_pointed line (Long x) = steady_trap _
steady_pointed line (Truth x) = steady_trap _
steady_pointed line Null = steady_trap _

steady_found : {n : ℕ} (line i : ℕ) (v : Option Datum) → Steady n (λ k. found line i v k)
steady_found line i (Some v) = steady_go _
steady_found line i None = steady_trap _

pub steady_indexed : {n : ℕ} (line : ℕ) (items : List Datum) (v : Datum) → Steady n (λ k. indexed line items v k)
steady_indexed line items (Long (pos i)) = steady_found line i (slice_get items i)
steady_indexed line items (Long (negsuc i)) = steady_trap _
steady_indexed line items (Ref r) = steady_trap _
steady_indexed line items (Truth x) = steady_trap _
steady_indexed line items Null = steady_trap _

steady_answer : {n : ℕ} (line : ℕ) (a : Result Datum TrapKind) → Steady n (λ k. answer line a k)
steady_answer line (Ok v) = steady_go v
steady_answer line (Err t) = steady_trap _

steady_unless : {n : ℕ} (d : Option Datum) (f : ℕ → Out Datum) → Steady n f → Steady n (λ k. unless_decided d k (f k))
steady_unless (Some v) f h = steady_go v
steady_unless None f h = h

-- a step before
step_taken : {A : Type 0} {n : ℕ} (g : ℕ → Out A) → Steady n g → (k : ℕ) → k < suc n → (v : A) (j : ℕ) → (take_step k >>= λ _ k. g k) ≡ gives v j → Taken (λ k. take_step k >>= λ _ k. g k) v k j
step_taken g h zero lt v j e = cc
step_taken {A} g h (suc k) lt v j e =
    let t : Taken g v k j = h.taken k (omega arith) v j e in
    let ti = t.is in
    record { s = suc t.s; is = omega arith; takes = record { at = λ i. let z : suc t.s + i ≡ suc (t.s + i) = omega arith in ap (λ k. take_step k >>= λ _ k. g k) z ∙ t.takes.at i } }

step_trapped : {A : Type 0} {n : ℕ} (g : ℕ → Out A) → Steady n g → (k : ℕ) → k < suc n → (t : Trap) → (take_step k >>= λ _ k. g k) ≡ traps t → (i : ℕ) → (take_step (k + i) >>= λ _ k. g k) ≡ traps t
step_trapped g h zero lt t e i = cc
step_trapped g h (suc k) lt t e i = let z : suc k + i ≡ suc (k + i) = omega arith in ap (λ k. take_step k >>= λ _ k. g k) z ∙ h.trapped k (omega arith) t e i

pub steady_step : {A : Type 0} {n : ℕ} (g : ℕ → Out A) → Steady n g → Steady (suc n) (λ k. take_step k >>= λ _ k. g k)
steady_step g h = record { taken = step_taken g h; trapped = step_trapped g h }

steady_item : {n : ℕ} (line : ℕ) (items : List Datum) (v : Datum) → Steady n (λ k. indexed line items v k >>= λ item k. gives item.value k)
steady_item line items v = steady_then _ _ (steady_indexed line items v) (λ item. steady_go _)

module _ (n : ℕ) (c : Calls) (calls : (m : FunctionId) (r : ℕ) (vs : List Datum) → Steady n (λ k. c m r vs k)) (p : Place) where
  mutual
    pub eval_steady : (e : Expression) → Steady (suc n) (λ k. eval c p e k)
    eval_steady (number x) = steady_go _
    eval_steady (truth x) = steady_go _
    eval_steady null = steady_go _
    eval_steady this = steady_go _
    eval_steady (local l) = steady_go _
    eval_steady (own f) = steady_go _
    eval_steady (own_item f i) = steady_then _ _ (eval_steady i) (λ v. steady_item p.line _ v)
    eval_steady (read e f) = steady_then _ _ (eval_steady e) (λ v. steady_then _ _ (steady_pointed p.line v) (λ r. steady_go _))
    eval_steady (read_item e f i) =
        steady_then _ _ (eval_steady e) (λ v. steady_then _ _ (steady_pointed p.line v) (λ r. steady_then _ _ (eval_steady i) (λ w. steady_item p.line (items_in (slot_of p.heap r f)) w)))
    eval_steady (value_call e m arguments) =
        steady_then _ _ (eval_steady e) (λ v. steady_then _ _ (all_steady arguments) (λ vs. steady_then _ _ (steady_pointed p.line v) (λ r. steady_step (λ k. c m r vs k) (calls m r vs))))
    eval_steady (unary op e) = steady_then _ _ (eval_steady e) (λ v. steady_go _)
    eval_steady (binary op a b) =
        steady_then _ _ (eval_steady a) (λ v. steady_unless (decided op v) _ (steady_then _ _ (eval_steady b) (λ w. steady_answer p.line (operated op v w))))

    pub all_steady : (es : Expressions) → Steady (suc n) (λ k. eval_all c p es k)
    all_steady no_expressions = steady_go _
    all_steady (expression_and e es) = steady_then _ _ (eval_steady e) (λ v. steady_then _ _ (all_steady es) (λ vs. steady_go _))

  pub due_steady : (e : Expression) (op : OpId) (es : Expressions) → Steady (suc n) (λ k. due c p e op es k)
  due_steady e op es = steady_then _ _ (eval_steady e) (λ v. steady_then _ _ (all_steady es) (λ vs. steady_then _ _ (steady_pointed p.line v) (λ r. steady_go _)))

-- ---- flows

pub record SteadyFlow {S : Type 0} (n : ℕ) (f : ℕ → Flow S) : Type 0 where
  pub reached : (k : ℕ) → k < n → (e : End S) (j : ℕ) → f k ≡ flow_at e j → Reached f e k j
  pub stopped : (k : ℕ) → k < n → (t : Trap) (x : S) → f k ≡ stops t x → (i : ℕ) → f (k + i) ≡ stops t x

pub flow_none : {S : Type 0} (f : ℕ → Flow S) → SteadyFlow 0 f
flow_none f = record { reached = λ k lt e j q. absurd (omega arith); stopped = λ k lt t x q. absurd (omega arith) }

pub flow_less : {S : Type 0} {n m : ℕ} {f : ℕ → Flow S} → m ≤ n → SteadyFlow n f → SteadyFlow m f
flow_less le h = record { reached = λ k lt v j e. h.reached k (omega arith) v j e; stopped = λ k lt t x e. h.stopped k (omega arith) t x e }

pub steady_same : {S : Type 0} {n : ℕ} (f g : ℕ → Flow S) → ((k : ℕ) → f k ≡ g k) → SteadyFlow n g → SteadyFlow n f
steady_same f g same h = record {
  reached = λ k lt e j q.
      let t : Reached g e k j = h.reached k lt e j (sym (same k) ∙ q) in
      record { s = t.s; is = t.is; reaches = record { at = λ i. same (t.s + i) ∙ t.reaches.at i } };
  stopped = λ k lt t x q i. same (k + i) ∙ h.stopped k lt t x (sym (same k) ∙ q) i;
}

pub record MidWith {A S : Type 0} (o : Out A) (g : A → ℕ → Flow S) (e : End S) (j : ℕ) : Type 0 where
  pub v : A
  pub k : ℕ
  pub is : o ≡ gives v k
  pub rest : g v k ≡ flow_at e j

pub mid_with : {A S : Type 0} (o : Out A) (s : S) (g : A → ℕ → Flow S) (e : End S) (j : ℕ) → with o s g ≡ flow_at e j → MidWith o g e j
mid_with (gives v k) s g e j q = record { v = v; k = k; is = refl; rest = q }
mid_with (traps t) s g (on_with ls r) j q = cc
mid_with (traps t) s g (back_with v r) j q = cc
mid_with over s g (on_with ls r) j q = cc
mid_with over s g (back_with v r) j q = cc

pub reaches_with : {A S : Type 0} (f : ℕ → Out A) (x : S) (g : A → ℕ → Flow S) (v : A) (e : End S) (s t : ℕ) → Takes f v s → Reaches (g v) e t → Reaches (λ k. with (f k) x g) e (s + t)
reaches_with f x g v e s t a b = record { at = λ i. let z : (s + t) + i ≡ s + (t + i) = omega arith in ap (λ k. with (f k) x g) z ∙ ap (λ o. with o x g) (a.at (t + i)) ∙ b.at i }

-- a trap is the evaluation's or the rest's
data StopWith {A S : Type 0} (o : Out A) (s : S) (g : A → ℕ → Flow S) (t : Trap) (x : S) : Type 0 where
  stops_first : o ≡ traps t → s ≡ x → StopWith o s g t x
  stops_next : (v : A) (k : ℕ) → o ≡ gives v k → g v k ≡ stops t x → StopWith o s g t x

stop_with : {A S : Type 0} (o : Out A) (s : S) (g : A → ℕ → Flow S) (t : Trap) (x : S) → with o s g ≡ stops t x → StopWith o s g t x
stop_with (gives v k) s g t x e = stops_next v k refl e
stop_with {A} {S} (traps u) s g t x e = let same : u ≡ t = trap_of e in stops_first (ap traps same) (state_of e)
  where
    trap_of : {u t : Trap} {s x : S} → stops u s ≡ stops t x → u ≡ t
    trap_of e = cc

    state_of : {u t : Trap} {s x : S} → stops u s ≡ stops t x → s ≡ x
    state_of e = cc
stop_with over s g t x e = cc

pub steady_with : {A S : Type 0} {n : ℕ} (f : ℕ → Out A) (x : S) (g : A → ℕ → Flow S) → Steady n f → ((v : A) → SteadyFlow n (g v)) → SteadyFlow n (λ k. with (f k) x g)
steady_with {A} {S} {n} f x g a b = record {
  reached = λ k lt e j q.
      let m : MidWith (f k) g e j = mid_with (f k) x g e j q in
      let t : Taken f m.v k m.k = a.taken k lt m.v m.k m.is in
      let ti = t.is in
      let u : Reached (g m.v) e m.k j = (b m.v).reached m.k (omega arith) e j m.rest in
      let ui = u.is in
      record { s = t.s + u.s; is = omega arith; reaches = reaches_with f x g m.v e t.s u.s t.takes u.reaches };
  stopped = λ k lt t y q i. from k lt t y (stop_with (f k) x g t y q) i;
}
  where
    from : (k : ℕ) → k < n → (t : Trap) (y : S) → StopWith (f k) x g t y → (i : ℕ) → with (f (k + i)) x g ≡ stops t y
    from k lt t y (stops_first e same) i = ap (λ o. with o x g) (a.trapped k lt t e i) ∙ ap (λ z. stops t z) same
    from k lt t y (stops_next v j e rest) i =
        let u : Taken f v k j = a.taken k lt v j e in
        let ui = u.is in
        let z : k + i ≡ u.s + (j + i) = omega arith in
        ap (λ k. with (f k) x g) z ∙ ap (λ o. with o x g) (u.takes.at (j + i)) ∙ (b v).stopped j (omega arith) t y rest i

pub data MidOn {S : Type 0} (o : Flow S) (g : List Datum → S → ℕ → Flow S) (e : End S) (j : ℕ) : Type 0 where
  goes : (ls : List Datum) (s : S) (k : ℕ) → o ≡ goes_on ls s k → g ls s k ≡ flow_at e j → MidOn o g e j
  backs : (v : Datum) (s : S) → back_with v s ≡ e → o ≡ gives_back v s j → MidOn o g e j

pub mid_on : {S : Type 0} (o : Flow S) (g : List Datum → S → ℕ → Flow S) (e : End S) (j : ℕ) → and_on o g ≡ flow_at e j → MidOn o g e j
mid_on (goes_on ls s k) g e j q = goes ls s k refl q
mid_on (gives_back v s k) g (back_with w r) j q = backs v s (cc) (cc)
mid_on (gives_back v s k) g (on_with ls r) j q = cc
mid_on (stops t s) g (on_with ls r) j q = cc
mid_on (stops t s) g (back_with w r) j q = cc
mid_on (runs_out s) g (on_with ls r) j q = cc
mid_on (runs_out s) g (back_with w r) j q = cc

pub reaches_on : {S : Type 0} (f : ℕ → Flow S) (g : List Datum → S → ℕ → Flow S) (ls : List Datum) (x : S) (e : End S) (s t : ℕ) → Reaches f (on_with ls x) s → Reaches (g ls x) e t → Reaches (λ k. and_on (f k) g) e (s + t)
reaches_on f g ls x e s t a b = record { at = λ i. let z : (s + t) + i ≡ s + (t + i) = omega arith in ap (λ k. and_on (f k) g) z ∙ ap (λ o. and_on o g) (a.at (t + i)) ∙ b.at i }

data StopOn {S : Type 0} (o : Flow S) (g : List Datum → S → ℕ → Flow S) (t : Trap) (x : S) : Type 0 where
  stops_before : o ≡ stops t x → StopOn o g t x
  stops_behind : (ls : List Datum) (s : S) (k : ℕ) → o ≡ goes_on ls s k → g ls s k ≡ stops t x → StopOn o g t x

stop_on : {S : Type 0} (o : Flow S) (g : List Datum → S → ℕ → Flow S) (t : Trap) (x : S) → and_on o g ≡ stops t x → StopOn o g t x
stop_on (goes_on ls s k) g t x e = stops_behind ls s k refl e
stop_on (gives_back v s k) g t x e = cc
stop_on (stops u s) g t x e = stops_before e
stop_on (runs_out s) g t x e = cc

pub steady_on : {S : Type 0} {n : ℕ} (f : ℕ → Flow S) (g : List Datum → S → ℕ → Flow S) → SteadyFlow n f → ((ls : List Datum) (x : S) → SteadyFlow n (g ls x)) → SteadyFlow n (λ k. and_on (f k) g)
steady_on {S} {n} f g a b = record {
  reached = λ k lt e j q. from k lt e j (mid_on (f k) g e j q);
  stopped = λ k lt t x q i. trap k lt t x (stop_on (f k) g t x q) i;
}
  where
    trap : (k : ℕ) → k < n → (t : Trap) (x : S) → StopOn (f k) g t x → (i : ℕ) → and_on (f (k + i)) g ≡ stops t x
    trap k lt t x (stops_before e) i = ap (λ o. and_on o g) (a.stopped k lt t x e i)
    trap k lt t x (stops_behind ls s j e rest) i =
        let u : Reached f (on_with ls s) k j = a.reached k lt (on_with ls s) j e in
        let ui = u.is in
        let z : k + i ≡ u.s + (j + i) = omega arith in
        ap (λ k. and_on (f k) g) z ∙ ap (λ o. and_on o g) (u.reaches.at (j + i)) ∙ (b ls s).stopped j (omega arith) t x rest i

    from : (k : ℕ) → k < n → (e : End S) (j : ℕ) → MidOn (f k) g e j → Reached (λ k. and_on (f k) g) e k j
    from k lt e j (goes ls s k1 is rest) =
        let t : Reached f (on_with ls s) k k1 = a.reached k lt (on_with ls s) k1 is in
        let ti = t.is in
        let u : Reached (g ls s) e k1 j = (b ls s).reached k1 (omega arith) e j rest in
        let ui = u.is in
        record { s = t.s + u.s; is = omega arith; reaches = reaches_on f g ls s e t.s u.s t.reaches u.reaches }
    from k lt e j (backs v s same is) =
        let t : Reached f (back_with v s) k j = a.reached k lt (back_with v s) j is in
        subst (λ z. Reached (λ k. and_on (f k) g) z k j) same record { s = t.s; is = t.is; reaches = record { at = λ i. ap (λ o. and_on o g) (t.reaches.at i) } }

pub steady_stop : {S : Type 0} {n : ℕ} (e : End S) → SteadyFlow n (λ k. flow_at e k)
steady_stop {S} d = record {
  reached = λ k lt e j q. record { s = 0; is = (let z = left d e k j q in omega arith); reaches = record { at = λ i. let z : 0 + i ≡ i = omega arith in ap (λ k. flow_at d k) z ∙ ap (λ x. flow_at x i) (same d e k j q) } };
  stopped = λ k lt t x q. never d k t x q;
}
  where
    never : {B : Type 0} (d : End S) (k : ℕ) (t : Trap) (x : S) → flow_at d k ≡ stops t x → B
    never (on_with ls s) k t x q = cc
    never (back_with v s) k t x q = cc

    left : (d e : End S) (k j : ℕ) → flow_at d k ≡ flow_at e j → k ≡ j
    left (on_with ls s) (on_with ms t) k j q = cc
    left (on_with ls s) (back_with v t) k j q = cc
    left (back_with v s) (on_with ms t) k j q = cc
    left (back_with v s) (back_with w t) k j q = cc

    same : (d e : End S) (k j : ℕ) → flow_at d k ≡ flow_at e j → d ≡ e
    same (on_with ls s) (on_with ms t) k j q = cc
    same (on_with ls s) (back_with v t) k j q = cc
    same (back_with v s) (on_with ms t) k j q = cc
    same (back_with v s) (back_with w t) k j q = cc

pub steady_choose : {S : Type 0} {n : ℕ} (v : Datum) (f g : ℕ → Flow S) → SteadyFlow n f → SteadyFlow n g → SteadyFlow n (λ k. choose v (f k) (g k))
steady_choose (Truth true) f g h r = h
steady_choose (Truth false) f g h r = r
steady_choose (Long x) f g h r = r
steady_choose (Ref x) f g h r = r
steady_choose Null f g h r = r

flow_step_reached : {S : Type 0} {n : ℕ} (x : S) (g : ℕ → Flow S) → SteadyFlow n g → (k : ℕ) → k < suc n → (e : End S) (j : ℕ) → with (take_step k) x (λ _ k. g k) ≡ flow_at e j → Reached (λ k. with (take_step k) x (λ _ k. g k)) e k j
flow_step_reached x g h zero lt (on_with ls s) j q = cc
flow_step_reached x g h zero lt (back_with v s) j q = cc
flow_step_reached x g h (suc k) lt e j q =
    let t : Reached g e k j = h.reached k (omega arith) e j q in
    let ti = t.is in
    record { s = suc t.s; is = omega arith; reaches = record { at = λ i. let z : suc t.s + i ≡ suc (t.s + i) = omega arith in ap (λ k. with (take_step k) x (λ _ k. g k)) z ∙ t.reaches.at i } }

flow_step_stopped : {S : Type 0} {n : ℕ} (x : S) (g : ℕ → Flow S) → SteadyFlow n g → (k : ℕ) → k < suc n → (t : Trap) (y : S) → with (take_step k) x (λ _ k. g k) ≡ stops t y → (i : ℕ) → with (take_step (k + i)) x (λ _ k. g k) ≡ stops t y
flow_step_stopped x g h zero lt t y q i = cc
flow_step_stopped x g h (suc k) lt t y q i = let z : suc k + i ≡ suc (k + i) = omega arith in ap (λ k. with (take_step k) x (λ _ k. g k)) z ∙ h.stopped k (omega arith) t y q i

pub steady_turn : {S : Type 0} {n : ℕ} (x : S) (g : ℕ → Flow S) → SteadyFlow n g → SteadyFlow (suc n) (λ k. with (take_step k) x (λ _ k. g k))
steady_turn x g h = record { reached = flow_step_reached x g h; stopped = flow_step_stopped x g h }

pub record SteadyParts {S : Type 0} (n : ℕ) (p : Parts S) : Type 0 where
  pub values : (line : ℕ) (ls : List Datum) (s : S) (e : Expression) → Steady (suc n) (λ k. p.value line ls s e k)
  pub acts : (line : ℕ) (ls : List Datum) (s : S) (x : Statement) → SteadyFlow (suc n) (λ k. p.act line ls s x k)
  pub calls : (line : ℕ) (ls : List Datum) (s : S) (e : Expression) (op : OpId) (es : Expressions) → SteadyFlow (suc n) (λ k. p.call line ls s e op es k)
  pub agains : (line : ℕ) (ls : List Datum) (s : S) (x : Statement) → SteadyFlow n (λ k. p.again line ls s x k)
  pub begins : (line : ℕ) (ls : List Datum) (s : S) (x : Statement) (f : ℕ → Flow S) → SteadyFlow (suc n) f → SteadyFlow (suc n) (λ k. p.begin line ls s x k (f k))

module _ {S : Type 0} (n : ℕ) (p : Parts S) (h : SteadyParts n p) where
  turn_of_steady : (c : Expression) (f : List Datum → S → ℕ → Flow S) (loop : Statement) (line : ℕ) (ls : List Datum) (s : S) → ((ls : List Datum) (s : S) → SteadyFlow (suc n) (λ k. f ls s k)) → SteadyFlow (suc n) (λ k. turn_of p c f loop line ls s k)
  turn_of_steady c f loop line ls s body =
      steady_with _ s _ (h.values line ls s c) (λ v. steady_choose v _ _
      (steady_turn s _ (steady_on _ _ (flow_less (let le : n ≤ suc n = omega arith in le) (body ls s)) (λ ls s. h.agains line ls s loop)))
      (steady_stop (on_with ls s)))

  mutual
    pub exec_steady : (x : Statement) (line : ℕ) (ls : List Datum) (s : S) → SteadyFlow (suc n) (λ k. exec p line ls s x k)
    exec_steady (block l ss) line ls s = all_exec_steady ss ls s
    exec_steady (put_local l i op e) line ls s = steady_with _ s _ (h.values line ls s e) (λ v. steady_stop (on_with (slice_set ls i.0 (assigned op (value_at ls i.0) v)) s))
    exec_steady (if_else l c a b) line ls s = steady_with _ s _ (h.values line ls s c) (λ v. steady_choose v _ _ (exec_steady a (line_of a) ls s) (exec_steady b (line_of b) ls s))
    exec_steady (while_loop l c b) line ls s = turn_of_steady c _ (while_loop l c b) line ls s (λ ls s. exec_steady b (line_of b) ls s)
    exec_steady (for_loop l site part first c next b) line ls s =
        h.begins line ls s (for_loop l site part first c next b) _ (steady_on _ _ (exec_steady first line ls s) (λ ls s.
        turn_of_steady c _ (for_loop l site part first c next b) line ls s (λ ls s. steady_on _ _ (exec_steady b (line_of b) ls s) (λ ls s. exec_steady next line ls s))))
    exec_steady (return_value l e) line ls s = steady_with _ s _ (h.values line ls s e) (λ v. steady_stop (back_with v s))
    exec_steady (invoke l e op es) line ls s = h.calls line ls s e op es
    exec_steady (put_field l f op e) line ls s = h.acts line ls s (put_field l f op e)
    exec_steady (put_item l f i op e) line ls s = h.acts line ls s (put_item l f i op e)
    exec_steady (new_local l i c) line ls s = h.acts line ls s (new_local l i c)
    exec_steady (new_field l f c) line ls s = h.acts line ls s (new_field l f c)
    exec_steady (new_item l f i c) line ls s = h.acts line ls s (new_item l f i c)
    exec_steady (print_value l e) line ls s = h.acts line ls s (print_value l e)

    pub all_exec_steady : (xs : Statements) (ls : List Datum) (s : S) → SteadyFlow (suc n) (λ k. exec_all p ls s xs k)
    all_exec_steady no_statements ls s = steady_stop (on_with ls s)
    all_exec_steady (statement_and x rest) ls s = steady_on _ _ (exec_steady x (line_of x) ls s) (λ ls1 s1. all_exec_steady rest ls1 s1)

  pub turn_steady : (x : Statement) (line : ℕ) (ls : List Datum) (s : S) → SteadyFlow (suc n) (λ k. turn p line ls s x k)
  turn_steady (while_loop l c b) line ls s = turn_of_steady c _ (while_loop l c b) line ls s (λ ls s. exec_steady b (line_of b) ls s)
  turn_steady (for_loop l site part first c next b) line ls s =
      turn_of_steady c _ (for_loop l site part first c next b) line ls s (λ ls s. steady_on _ _ (exec_steady b (line_of b) ls s) (λ ls s. exec_steady next line ls s))
  turn_steady (block l ss) line ls s = steady_stop (on_with ls s)
  turn_steady (put_local l i op e) line ls s = steady_stop (on_with ls s)
  turn_steady (if_else l c a b) line ls s = steady_stop (on_with ls s)
  turn_steady (return_value l e) line ls s = steady_stop (on_with ls s)
  turn_steady (invoke l e op es) line ls s = steady_stop (on_with ls s)
  turn_steady (put_field l f op e) line ls s = steady_stop (on_with ls s)
  turn_steady (put_item l f i op e) line ls s = steady_stop (on_with ls s)
  turn_steady (new_local l i c) line ls s = steady_stop (on_with ls s)
  turn_steady (new_field l f c) line ls s = steady_stop (on_with ls s)
  turn_steady (new_item l f i c) line ls s = steady_stop (on_with ls s)
  turn_steady (print_value l e) line ls s = steady_stop (on_with ls s)
