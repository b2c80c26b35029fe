-- Runs and budgets: what ends after s steps ends so, with the same result, within every budget of at
-- least s. With these words a law speaks of no budget.
use Rattle.std.specs.Prelude.{◌≡◌, ℕ, ◌+◌, List}
use Rattle.ca_model.specs.declared.value.Value.{Value as Datum}
use Rattle.ca_meaning.specs.Expressions.{Out, gives}
use Rattle.ca_meaning.specs.Flows.{Flow, goes_on, gives_back}

-- Evaluations, as functions of their budgets

-- it takes s steps to this value
pub record Takes {A : Type 0} (f : ℕ → Out A) (v : A) (s : ℕ) : Type 0 where
  pub at : (i : ℕ) → f (s + i) ≡ gives v i

-- it took from k steps to j left
pub record Taken {A : Type 0} (f : ℕ → Out A) (v : A) (k j : ℕ) : Type 0 where
  pub s : ℕ
  pub is : k ≡ s + j
  pub takes : Takes f v s

-- Statements, as functions of their budgets

-- how a statement ends that neither traps nor runs out: it goes on, or it gives a value back
pub data End (S : Type 0) : Type 0 where
  on_with : List Datum → S → End S
  back_with : Datum → S → End S

abbrev pub flow_at : {S : Type 0} → End S → ℕ → Flow S
flow_at (on_with ls s) k = goes_on ls s k
flow_at (back_with v s) k = gives_back v s k

-- it takes s steps to this end
pub record Reaches {S : Type 0} (f : ℕ → Flow S) (e : End S) (s : ℕ) : Type 0 where
  pub at : (i : ℕ) → f (s + i) ≡ flow_at e i

-- it took from k steps to j left
pub record Reached {S : Type 0} (f : ℕ → Flow S) (e : End S) (k j : ℕ) : Type 0 where
  pub s : ℕ
  pub is : k ≡ s + j
  pub reaches : Reaches f e s
