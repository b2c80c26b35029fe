-- Serial runs of operations in order: a list and a list behind it, a list and one call more.
use Rattle.std.proofs.Common.{◌≡◌, ℕ, zero, suc, ◌+◌, List, [], ◌∷◌, ◌++◌, refl, ap, sym, subst, ◌∙◌, arith}
use Rattle.ca_program.specs.Plain.{PlainProgram}
use Rattle.ca_model.specs.declared.value.Value.{Value as Datum}
use Rattle.ca_meaning.specs.Expressions.{Out, Invocation}
use Rattle.ca_meaning.specs.Flows.{Flow, goes_on, gives_back, stops, runs_out, and_on}
use Rattle.ca_meaning.specs.Serial.{World, came_back, run_call, operations_of, serial_ops}
use Rattle.ca_meaning_laws.specs.Budgets.{Takes, End, on_with, Reaches}
use Rattle.ca_meaning_laws.proofs.Steady.{reaches_on}

pub ends_same : {S : Type 0} {ls ms : List Datum} {s t : S} {k j : ℕ} → goes_on ls s k ≡ goes_on ms t j → s ≡ t
ends_same e = cc

pub ends_locals : {S : Type 0} {ls ms : List Datum} {s t : S} {k j : ℕ} → goes_on ls s k ≡ goes_on ms t j → ls ≡ ms
ends_locals e = cc

pub ends_left : {S : Type 0} {ls ms : List Datum} {s t : S} {k j : ℕ} → goes_on ls s k ≡ goes_on ms t j → k ≡ j
ends_left e = cc

pub reaches_same : {S : Type 0} {f g : ℕ → Flow S} {e : End S} {n : ℕ} → ((k : ℕ) → f k ≡ g k) → Reaches f e n → Reaches g e n
reaches_same {n = n} same a = record { at = λ i. sym (same (n + i)) ∙ a.at i }

pub takes_same : {A : Type 0} {f g : ℕ → Out A} {v : A} {n : ℕ} → ((k : ℕ) → f k ≡ g k) → Takes f v n → Takes g v n
takes_same {n = n} same a = record { at = λ i. sym (same (n + i)) ∙ a.at i }

pub stop_reaches : {S : Type 0} (ls : List Datum) (s : S) → Reaches (λ k. goes_on ls s k) (on_with ls s) 0
stop_reaches ls s = record { at = λ i. let z : 0 + i ≡ i = omega arith in ap (λ k. goes_on ls s k) z }

pub reaches_steps : {S : Type 0} {f : ℕ → Flow S} {e : End S} {n m : ℕ} → n ≡ m → Reaches f e n → Reaches f e m
reaches_steps {f = f} {e = e} h a = subst (λ k. Reaches f e k) h a

-- what ends at once with what it began with
pub record AtOnce {S : Type 0} (ls ms : List Datum) (s t : S) (n : ℕ) : Type 0 where
  pub locals : ls ≡ ms
  pub state : s ≡ t
  pub none : n ≡ 0

pub at_once : {S : Type 0} (ls ms : List Datum) (s t : S) (n : ℕ) → Reaches (λ k. goes_on ls s k) (on_with ms t) n → AtOnce ls ms s t n
at_once ls ms s t n f = record { locals = ends_locals (f.at 0); state = ends_same (f.at 0); none = let e = ends_left (f.at 0) in omega arith }

-- ---- calls

came_locals : (ls ms : List Datum) (o : Flow World) (v : World) (j : ℕ) → came_back ls o ≡ goes_on ms v j → ls ≡ ms
came_locals ls ms (goes_on xs w k) v j e = cc
came_locals ls ms (gives_back u w k) v j e = cc
came_locals ls ms (stops t w) v j e = cc
came_locals ls ms (runs_out w) v j e = cc

came_with : (ls ms ns : List Datum) (o : Flow World) (v : World) (j : ℕ) → came_back ls o ≡ goes_on ms v j → came_back ns o ≡ goes_on ns v j
came_with ls ms ns (goes_on xs w k) v j e = let a : w ≡ v = cc in let b : k ≡ j = cc in cc
came_with ls ms ns (gives_back u w k) v j e = cc
came_with ls ms ns (stops t w) v j e = cc
came_with ls ms ns (runs_out w) v j e = cc

-- a call runs alike whatever locals its caller has
pub call_with : (p : PlainProgram) (d : Invocation) (ls ms ns : List Datum) (w v : World) (k j : ℕ) → run_call (operations_of p) ls d w k ≡ goes_on ms v j → run_call (operations_of p) ns d w k ≡ goes_on ns v j
call_with p d ls ms ns w v zero j e = cc
call_with p d ls ms ns w v (suc k) j e = came_with ls ms ns _ v j e

-- a call gives the caller its locals back
pub call_locals : (p : PlainProgram) (d : Invocation) (ls ms : List Datum) (w v : World) (k j : ℕ) → run_call (operations_of p) ls d w k ≡ goes_on ms v j → (ls ≡ ms) × (run_call (operations_of p) [] d w k ≡ goes_on [] v j)
call_locals p d ls ms w v zero j e = cc
call_locals p d ls ms w v (suc k) j e = (came_locals ls ms _ v j e, came_with ls ms [] _ v j e)

pub record Called (p : PlainProgram) (d : Invocation) (ls ms : List Datum) (w v : World) (n : ℕ) : Type 0 where
  pub locals : ls ≡ ms
  pub run : Reaches (λ k. run_call (operations_of p) [] d w k) (on_with [] v) n

pub called : (p : PlainProgram) (d : Invocation) (ls ms : List Datum) (w v : World) (n : ℕ) → Reaches (λ k. run_call (operations_of p) ls d w k) (on_with ms v) n → Called p d ls ms w v n
called p d ls ms w v n f = record { locals = (call_locals p d ls ms w v (n + 0) 0 (f.at 0)).0; run = record { at = λ i. (call_locals p d ls ms w v (n + i) i (f.at i)).1 } }

-- ---- lists of calls

pub append_runs : (p : PlainProgram) (xs ys : List Invocation) (w : World) (k : ℕ) → serial_ops p (xs ++ ys) w k ≡ and_on (serial_ops p xs w k) (λ ls w k. serial_ops p ys w k)
append_runs p [] ys w k = refl
append_runs p (d ∷ ds) ys w k = from (run_call (operations_of p) [] d w k) (λ w k. append_runs p ds ys w k)
  where
    from : (o : Flow World) → ((w : World) (k : ℕ) → serial_ops p (ds ++ ys) w k ≡ and_on (serial_ops p ds w k) (λ ls w k. serial_ops p ys w k)) → and_on o (λ ls w k. serial_ops p (ds ++ ys) w k) ≡ and_on (and_on o (λ ls w k. serial_ops p ds w k)) (λ ls w k. serial_ops p ys w k)
    from (goes_on ls w k) i = i w k
    from (gives_back v w k) i = refl
    from (stops t w) i = refl
    from (runs_out w) i = refl

-- a list and one call more
pub one_more : (p : PlainProgram) (ds : List Invocation) (d : Invocation) (u w v : World) (t n : ℕ) → Reaches (λ k. serial_ops p ds u k) (on_with [] w) t → Reaches (λ k. run_call (operations_of p) [] d w k) (on_with [] v) n → Reaches (λ k. serial_ops p (ds ++ d ∷ []) u k) (on_with [] v) (t + n)
one_more p ds d u w v t n f g =
    reaches_same (λ k. sym (append_runs p ds (d ∷ []) u k))
    (reaches_on (λ k. serial_ops p ds u k) (λ ls w k. serial_ops p (d ∷ []) w k) [] w (on_with [] v) t n f
    (reaches_steps (let e : n + 0 ≡ n = omega arith in e) (reaches_on (λ k. run_call (operations_of p) [] d w k) (λ ls w k. goes_on [] w k) [] v (on_with [] v) n 0 g (stop_reaches [] v))))

-- what two parts of a run have between them
record Between (a : Flow World) (f : List Datum → World → ℕ → Flow World) (v : World) (left : ℕ) : Type 0 where
  locals : List Datum
  world : World
  steps : ℕ
  is : a ≡ goes_on locals world steps
  rest : f locals world steps ≡ goes_on [] v left

between : (a : Flow World) (f : List Datum → World → ℕ → Flow World) (v : World) (left : ℕ) → and_on a f ≡ goes_on [] v left → Between a f v left
between (goes_on ls w k) f v left e = record { locals = ls; world = w; steps = k; is = refl; rest = e }
between (gives_back u w k) f v left e = cc
between (stops t w) f v left e = cc
between (runs_out w) f v left e = cc

-- a list's first call, and what comes behind it
pub record Middle (p : PlainProgram) (a : Invocation) (more : List Invocation) (w : World) (k : ℕ) (v : World) (left : ℕ) : Type 0 where
  pub world : World
  pub steps : ℕ
  pub call : run_call (operations_of p) [] a w k ≡ goes_on [] world steps
  pub rest : serial_ops p more world steps ≡ goes_on [] v left

pub middle : (p : PlainProgram) (a : Invocation) (more : List Invocation) (w : World) (k : ℕ) (v : World) (left : ℕ) → serial_ops p (a ∷ more) w k ≡ goes_on [] v left → Middle p a more w k v left
middle p a more w k v left e =
    let b : Between (run_call (operations_of p) [] a w k) (λ ls w k. serial_ops p more w k) v left = between _ _ v left e in
    record { world = b.world; steps = b.steps; call = (call_locals p a [] b.locals w b.world k b.steps b.is).1; rest = b.rest }

pub list_locals : (p : PlainProgram) (is : List Invocation) (w : World) (k : ℕ) (ls : List Datum) (v : World) (j : ℕ) → serial_ops p is w k ≡ goes_on ls v j → ls ≡ []
list_locals p [] w k ls v j e = sym (ends_locals e)
list_locals p (a ∷ more) w k ls v j e = from (run_call (operations_of p) [] a w k) (λ u i. list_locals p more u i ls v j) e
  where
    from : (o : Flow World) → ((u : World) (i : ℕ) → serial_ops p more u i ≡ goes_on ls v j → ls ≡ []) → and_on o (λ ls w k. serial_ops p more w k) ≡ goes_on ls v j → ls ≡ []
    from (goes_on xs u i) f e = f u i e
    from (gives_back x u i) f e = cc
    from (stops t u) f e = cc
    from (runs_out u) f e = cc

-- a list, and a list behind it
pub record Parts (p : PlainProgram) (xs ys : List Invocation) (w : World) (k : ℕ) (v : World) (left : ℕ) : Type 0 where
  pub world : World
  pub steps : ℕ
  pub first : serial_ops p xs w k ≡ goes_on [] world steps
  pub rest : serial_ops p ys world steps ≡ goes_on [] v left

pub apart : (p : PlainProgram) (xs ys : List Invocation) (w : World) (k : ℕ) (v : World) (left : ℕ) → and_on (serial_ops p xs w k) (λ ls w k. serial_ops p ys w k) ≡ goes_on [] v left → Parts p xs ys w k v left
apart p xs ys w k v left e =
    let b : Between (serial_ops p xs w k) (λ ls w k. serial_ops p ys w k) v left = between _ _ v left e in
    record { world = b.world; steps = b.steps; first = b.is ∙ ap (λ l. goes_on l b.world b.steps) (list_locals p xs w k b.locals b.world b.steps b.is); rest = b.rest }
