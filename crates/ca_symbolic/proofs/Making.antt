-- A term that is made is the one that is wanted, and is too heavy where that one is.
use Rattle.std.proofs.Common.{◌≡◌, Bool, true, false, Result, Err, IfOk, OnOk, sym, ap, subst, ◌∙◌}
use Rattle.ca_norm.specs.Terms.{PlainTerm}
use Rattle.ca_shared_terms.specs.declared.errors.ExecutionError.{ExecutionError}
use Rattle.ca_shared_terms.specs.declared.errors.ExecutionError.TheVariants.{Large, Memory}
use Rattle.ca_shared_terms.specs.Heavy.{is_heavy}
use Rattle.ca_symbolic.proofs.Flags.{again}

pub record Makes (r : Result PlainTerm ExecutionError) (t : PlainTerm) (heavy : Bool) : Type 0 where
  pub made : IfOk r (λ u. u ≡ t)
  pub light : OnOk r (heavy ≡ false)
  pub large : r ≡ Err Large → heavy ≡ true

pub makes_as : (r : Result PlainTerm ExecutionError) (t u : PlainTerm) (b c : Bool) → t ≡ u → b ≡ c → IfOk r (λ z. z ≡ t) → OnOk r (b ≡ false) → (r ≡ Err Large → b ≡ true) → Makes r u c
makes_as r t u b c same heavy made light large = record {
  made = subst (λ (v : PlainTerm). IfOk r (λ z. z ≡ v)) same made;
  light = subst (λ x. OnOk r (x ≡ false)) heavy light;
  large = λ told. sym heavy ∙ large told;
}

-- where nothing else is looked at
pub makes : (r : Result PlainTerm ExecutionError) (t u : PlainTerm) → t ≡ u → IfOk r (λ z. z ≡ t) → OnOk r (is_heavy t ≡ false) → (r ≡ Err Large → is_heavy t ≡ true) → Makes r u (is_heavy u)
makes r t u same = makes_as r t u (is_heavy t) (is_heavy u) same (ap is_heavy same)

-- where a part stops
pub fails : (r : Result PlainTerm ExecutionError) (t : PlainTerm) (b : Bool) (f e : ExecutionError) → r ≡ Err f → f ≡ e → (e ≡ Large → b ≡ true) → Makes r t b
fails r t b f e is same heavy = record {
  made = rw is tt;
  light = rw is tt;
  large = λ told. heavy (again r f e Large is same told);
}

-- out of memory is no weight
pub memory_is_light : Memory ≡ Large → ⊥
memory_is_light e = cc

pub shared_as : {E : Type 0} (r : Result PlainTerm E) (t u : PlainTerm) → t ≡ u → IfOk r (λ z. z ≡ t) → IfOk r (λ z. z ≡ u)
shared_as r t u same made = subst (λ (v : PlainTerm). IfOk r (λ z. z ≡ v)) same made
