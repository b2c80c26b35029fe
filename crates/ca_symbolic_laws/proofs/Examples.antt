-- What demands take and list, on examples.
use Rattle.std.proofs.Common.{◌≡◌, true, false, [], ◌∷◌, Some, None, pos, negsuc, refl}
use Rattle.std.specs.Prelude.{nat_eq}
use Rattle.ca_program.specs.declared.program.OpId.{OpId}
use Rattle.ca_model.specs.declared.value.Value.TheVariants.{Long, Bool as Truth, Null}
use Rattle.ca_meaning.specs.Expressions.{invocation}
use Rattle.ca_norm.specs.Terms.{number, truth, null}
use Rattle.ca_norm.specs.Meanings.{Valuation}
use Rattle.ca_norm.specs.Environments.{Environment}
use Rattle.ca_symbolic.specs.States.{not_null, invokes, demand}
use Rattle.ca_symbolic_laws.specs.Costs.{hidden}
use Rattle.ca_symbolic_laws.specs.Demanded.{is_index, spread_out, cost, lists}

-- the locals that a loop reads hold the values that are handed over, in their order
two_of_four : spread_out (λ n. nat_eq n 1) 0 3 (Truth true ∷ []) ≡ Null ∷ Truth true ∷ Null ∷ []
two_of_four = refl

-- a counter is left out
counter_hidden : hidden (λ n. nat_eq n 0) 0 (Long (pos 7) ∷ Long (pos 8) ∷ []) ≡ Null ∷ Long (pos 8) ∷ []
counter_hidden = refl

-- an index that is negative, or past the end
before_the_first : is_index (Some 3) (Long (negsuc 0)) ≡ None
before_the_first = refl

behind_the_last : is_index (Some 3) (Long (pos 3)) ≡ None
behind_the_last = refl

the_last : is_index (Some 3) (Long (pos 2)) ≡ Some 0
the_last = refl

module _ (s : Environment) (v : Valuation) (op : OpId) where
  -- null fails under a true guard, and asks for nothing under a false one
  null_fails : cost s v (demand (truth true) not_null (null ∷ []) ∷ []) ≡ None
  null_fails = refl

  null_beside : cost s v (demand (truth false) not_null (null ∷ []) ∷ []) ≡ Some 0
  null_beside = refl

  -- a call is listed under a true guard alone, and takes no step of its own caller
  one_call : lists s v (demand (truth true) (invokes op) (number (pos 1) ∷ number (pos 2) ∷ []) ∷ []) ≡ invocation 0 op (Long (pos 2) ∷ []) ∷ []
  one_call = refl

  no_call : lists s v (demand (truth false) (invokes op) (number (pos 1) ∷ number (pos 2) ∷ []) ∷ []) ≡ []
  no_call = refl
