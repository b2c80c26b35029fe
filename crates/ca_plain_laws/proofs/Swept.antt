-- What a sweep of a plain body comes to: symbolic execution finds it, it is one term and one demand, and it holds no call.
use Rattle.std.proofs.Common.{◌≡◌, ℕ, Bool, true, false, ◌&&◌, List, [], ◌∷◌, ◌++◌, Option, Some, None, refl, sym, ap, ap₂, subst}
use Rattle.std.specs.Prelude.{if◌then◌else◌}
use Rattle.ca_program.specs.declared.program.FieldId.{FieldId}
use Rattle.ca_program.specs.declared.program.LocalId.{LocalId}
use Rattle.ca_program.specs.Plain.{PlainProgram, PlainMethod, Expression, number, local, own, Statement}
use Rattle.ca_parallel.specs.Bodies.{calls_of}
use Rattle.ca_parallel.specs.Separable.{IsClean, IsSeparated, is_some_of, holds_call}
use Rattle.ca_norm.specs.Terms.{PlainTerm}
use Rattle.ca_sweep.specs.Sweeps.{PlainSweep, Known, is_atom, is_sum, Counts, by_one, puts_one_more, Adds, adds, takes_off, puts_sum, puts_difference, AddsAlone, bare, in_block, IsSweep, a_sweep}
use Rattle.ca_sweep.specs.Found.{known, sums_known, sweep_in, sweep_at}
use Rattle.ca_sweep.proofs.Finding.{sweeps_are_found, sweeps_are_wide}
use Rattle.ca_symbolic.specs.States.{State, demand, sweeps}
use Rattle.ca_symbolic.specs.Execution.{term_of, with_field, sweep_term, after_loop, after}
use Rattle.ca_symbolic.specs.Demands.{demanded, demanded_loop}
use Rattle.ca_symbolic.specs.OtherLoops.{is_call_loop, if_no_sweep, other_loop}
use Rattle.ca_symbolic.specs.Made.{steps_made, steps_of_loop}
use Rattle.ca_plain_laws.specs.PlainPairs.{IsNumber}

-- an atom is a sum
atom_sum : (k : Known) (e : Expression) → is_atom k e ≡ true → is_sum k e ≡ true
atom_sum k (number n) h = h
atom_sum k (local l) h = h
atom_sum k (own f) h = h
atom_sum k e h = absurd cc

next_calls : (i : LocalId) (x : Statement) → Counts i x → calls_of x ≡ []
next_calls i _ (by_one line) = refl
next_calls i _ (puts_one_more line) = refl

add_calls : (i : LocalId) (f : FieldId) (e : Expression) (minus : Bool) (x : Statement) → Adds i f e minus x → calls_of x ≡ []
add_calls i f e _ _ (adds line) = refl
add_calls i f e _ _ (takes_off line) = refl
add_calls i f e _ _ (puts_sum line) = refl
add_calls i f e _ _ (puts_difference line) = refl

alone_calls : (i : LocalId) (f : FieldId) (e : Expression) (minus : Bool) (x : Statement) → AddsAlone i f e minus x → calls_of x ≡ []
alone_calls i f e minus _ (bare x a) = add_calls i f e minus x a
alone_calls i f e minus _ (in_block line x a) = ap (λ xs. xs ++ []) (add_calls i f e minus x a)

pub sweep_calls : (w : PlainSweep) (x : Statement) → IsSweep w x → holds_call x ≡ false
sweep_calls w _ (a_sweep line site at next body c a) =
    ap₂ (λ xs ys. is_some_of (xs ++ ys)) (next_calls w.counter next c) (alone_calls w.counter w.field w.addend w.minus body a)

module _ (p : PlainProgram) (written : List FieldId) where
  next_separated : (i : LocalId) (x : Statement) → Counts i x → IsSeparated p written false x
  next_separated i _ (by_one line) = tt
  next_separated i _ (puts_one_more line) = (tt, tt, tt)

  add_separated : (i : LocalId) (f : FieldId) (e : Expression) (minus : Bool) (x : Statement) → IsClean p written false e → Adds i f e minus x → IsSeparated p written false x
  add_separated i f e _ _ h (adds line) = (tt, tt, h)
  add_separated i f e _ _ h (takes_off line) = (tt, tt, h)
  add_separated i f e _ _ h (puts_sum line) = (tt, tt, (tt, (tt, tt), h))
  add_separated i f e _ _ h (puts_difference line) = (tt, tt, (tt, (tt, tt), h))

  alone_separated : (i : LocalId) (f : FieldId) (e : Expression) (minus : Bool) (x : Statement) → IsClean p written false e → AddsAlone i f e minus x → IsSeparated p written false x
  alone_separated i f e minus _ h (bare x a) = add_separated i f e minus x h a
  alone_separated i f e minus _ h (in_block line x a) = (add_separated i f e minus x h a, tt)

  pub sweep_separated : (w : PlainSweep) (x : Statement) → IsSweep w x → IsClean p written false w.from → IsClean p written false w.to → IsClean p written false w.addend → IsSeparated p written false x
  sweep_separated w _ (a_sweep line site at next body c a) f t e =
      subst (λ b. IsClean p written b w.from × (Unit {0} × Unit {0} × IsClean p written b w.to) × IsSeparated p written b next × IsSeparated p written b body)
      (sym (sweep_calls w _ (a_sweep line site at next body c a)))
      (f, (tt, tt, t), next_separated w.counter next c, alone_separated w.counter w.field w.addend w.minus body e a)

module _ (p : PlainProgram) (written : List FieldId) (m : PlainMethod) (w : PlainSweep) where
  sums : IsNumber written m w w.from → IsNumber written m w w.to → IsNumber written m w w.addend → sums_known w (Some m.params) written ≡ true
  sums f t e =
      let k : Known = known w.counter.0 (Some m.params) written in
      ap₂ (λ a b. a && b) (atom_sum k w.from f.1) (ap₂ (λ a b. a && b) (atom_sum k w.to t.1) (atom_sum k w.addend e.1))

  found_in : (x : Statement) → IsSweep w x → IsNumber written m w w.from → IsNumber written m w w.to → IsNumber written m w w.addend → sweep_in m.params written x ≡ Some w
  found_in x i f t e = (sweeps_are_found m.params written x w).1 (i, sums f t e)

  pub found_at : (x : Statement) → IsSweep w x → IsNumber written m w w.from → IsNumber written m w w.to → IsNumber written m w w.addend → sweep_at x ≡ Some w
  found_at x i f t e = sweeps_are_wide m.params written x w (found_in x i f t e)

  either_none : (b : Bool) (o : Option ℕ) → o ≡ None → (if b then None else o) ≡ None
  either_none true o e = refl
  either_none false o e = e

  no_other : (x : Statement) → IsSweep w x → sweep_in m.params written x ≡ Some w → other_loop m.params written x ≡ None
  no_other x (a_sweep line site at next body c a) e = either_none (is_call_loop x) (if_no_sweep (sweep_in m.params written x) line) (ap (λ o. if_no_sweep o line) e)

  pub sweep_no_other : (x : Statement) → IsSweep w x → IsNumber written m w w.from → IsNumber written m w w.to → IsNumber written m w w.addend → other_loop m.params written x ≡ None
  sweep_no_other x i f t e = no_other x i (found_in x i f t e)

  pub after_sweep : (s : State) (x : Statement) → IsSweep w x → sweep_at x ≡ Some w → after p s x ≡ with_field s w.field.field (sweep_term p s w)
  after_sweep s x (a_sweep line site at next body c a) e = ap (after_loop p s) e

  pub sweep_demands : (s : State) (g : PlainTerm) (x : Statement) → IsSweep w x → sweep_at x ≡ Some w → demanded p s g x ≡ demand g (sweeps w.field) (term_of p s w.from ∷ term_of p s w.to ∷ []) ∷ []
  sweep_demands s g x (a_sweep line site at next body c a) e = ap (demanded_loop p s g site x) e

  pub sweep_steps : (s : State) (g : PlainTerm) (x : Statement) → IsSweep w x → sweep_at x ≡ Some w → steps_made p s g x ≡ sweep_term p s w ∷ []
  sweep_steps s g x (a_sweep line site at next body c a) e = ap (steps_of_loop p s) e
